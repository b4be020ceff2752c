-- What every search promises of its outcome.
use Rattle.std.specs.Prelude.{◌≡◌, ℕ, ◌+◌, ◌*◌, ◌≤◌, length}
use Rattle.tl_problem.specs.Agreement.{LowIsHigh}
use Rattle.tl_problem.specs.Problem.{ProblemModel}
use Rattle.tl_problem.specs.Spans.{count_of}
use Rattle.tl_problem.specs.Tight.{IsTight}
use Rattle.tl_problem.specs.Zones.{whole_zone}
use Rattle.tl_cert.specs.Lines.{IsGoodLog}
use Rattle.tl_cert.specs.Text.{IsLogWritable, IsTraceWritable}
use Rattle.tl_cert.specs.Traces.{IsKeen}
use Rattle.tl_cert.specs.Worked.{IsWorked}
use Rattle.tl_solve.specs.declared.outcome.Outcome.{Outcome}

-- The outcome of a search of the problem with at most `budget` cuts. Its placement is tight. Its log is good for its lower
-- bound, which is no greater than the height of the placement, and equal to it where `low` is `high` and the budget reaches
-- the count. Its trace left nothing undone, and no zone of it has a lower placement. The trace and the log can be written
-- into a certificate.
pub record IsSolverOutcome (problem : ProblemModel) (budget : ℕ) (outcome : Outcome) : Type 0 where
  pub tight : IsTight problem outcome.best
  pub good : IsGoodLog problem outcome.trace outcome.log outcome.lower
  pub ordered : outcome.lower ≤ outcome.best.height
  pub closed : LowIsHigh problem → count_of problem ≤ budget → outcome.lower ≡ outcome.best.height
  pub worked : IsWorked problem outcome.trace outcome.best.height outcome.lower budget
  pub keen : IsKeen problem (whole_zone problem) outcome.trace outcome.best.height
  pub trace_writable : IsTraceWritable outcome.trace
  pub log_writable : IsLogWritable outcome.log
  pub short : length outcome.log ≤ 2 * length outcome.trace + 1
