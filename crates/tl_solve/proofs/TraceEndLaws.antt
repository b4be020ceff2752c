-- What is kept of a search at its end, its cuts and the best placement, makes an outcome.
use Rattle.std.proofs.Common.{ℕ, ◌+◌, ◌-◌, ◌*◌, ◌^◌, ◌<◌, ◌≤◌, inl, inr, length, arith}
use Rattle.tl_base.specs.declared.limits.TheConstants.{MAX_BUDGET}
use Rattle.tl_problem.specs.Problem.{ProblemModel}
use Rattle.tl_problem.specs.Sound.{IsSound}
use Rattle.tl_problem.specs.Tight.{IsTight}
use Rattle.tl_problem.specs.Zones.{whole_zone}
use Rattle.tl_cert.specs.Lines.{IsGoodLog}
use Rattle.tl_cert.specs.Text.{IsLogWritable}
use Rattle.tl_cert.specs.Traces.{IsKeen, IsTraceOf}
use Rattle.tl_cert.specs.Worked.{IsWorked}
use Rattle.tl_cert.proofs.WorkedLaws.{worked-lower}
use Rattle.tl_solve.specs.declared.outcome.Outcome.{Outcome}
use Rattle.tl_solve.specs.Ends.{IsLeastStanding, MayEnd}
use Rattle.tl_solve.specs.Solver.{IsSolverOutcome}
use Rattle.tl_solve.specs.TraceEnds.{CutsBelowOpening}
use Rattle.tl_solve.proofs.FewSpans.{trace-writable}

module _ (problem : ProblemModel) (sound : IsSound problem) (outcome : Outcome) (trace_of : IsTraceOf problem outcome.trace)
    (few : length outcome.trace ≤ MAX_BUDGET) (cut_zones : CutsBelowOpening problem outcome.trace)
    (least : IsLeastStanding problem outcome.trace outcome.best.height outcome.lower) where
  trace-worked : (budget : ℕ) → length outcome.trace ≤ budget → MayEnd problem outcome.trace outcome.best.height budget →
      IsWorked problem outcome.trace outcome.best.height outcome.lower budget
  trace-worked budget within ended = record {
    trace_of = trace_of;
    within = within;
    ordered = least.at_most;
    below = λ less. record {
      opening = cut_zones.0;
      is_opening = cut_zones.1;
      cut_zones = cut_zones.2;
      enough = elim least.attained [
        | inl same ↦ absurd (omega (arith, same, less))
        | inr has ↦ has
      ];
      ended = ended;
    };
  }

  pub trace-solved : IsTight problem outcome.best →
      IsKeen problem (whole_zone problem) outcome.trace outcome.best.height →
      IsGoodLog problem outcome.trace outcome.log outcome.lower → IsLogWritable outcome.log →
      length outcome.log ≤ 2 * length outcome.trace + 1 →
      (budget : ℕ) → length outcome.trace ≤ budget → budget ≤ MAX_BUDGET →
      MayEnd problem outcome.trace outcome.best.height budget →
      IsSolverOutcome problem budget outcome
  trace-solved tight keen good writable short budget within most ended =
      let small : budget < 2 ^ 64 - 1 = omega (arith, most) in
      let worked = trace-worked budget within ended in
      record {
        tight = tight;
        good = good;
        ordered = least.at_most;
        closed = λ same enough.
            worked-lower problem sound outcome.trace outcome.best.height outcome.lower budget same enough small worked;
        worked = worked;
        keen = keen;
        trace_writable = trace-writable problem sound outcome.trace trace_of few;
        log_writable = writable;
        short = short;
      }
