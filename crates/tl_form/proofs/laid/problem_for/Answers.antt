-- The problem of the steps that the sections tell is the section's.
use Rattle.std.proofs.Common.{ℕ, List, Result, Ok, Err, Option, Some, None, subst}
use Rattle.std.specs.Prelude.{IfOk, MatchOption}
use Rattle.std.specs.declared.alloc.AllocError.{AllocError}
use Rattle.tl_base.specs.declared.style.Style.{Style}
use Rattle.tl_cert.specs.declared.section.Section.{Section}
use Rattle.tl_problem.specs.Problem.{ProblemModel}
use Rattle.tl_problem.specs.Sound.{IsSound}
use Rattle.tl_table.specs.declared.cell.Table.{Table, out-Table}
use Rattle.tl_table.specs.Tables.{inner_tables}
use Rattle.tl_form.specs.declared.heights.InnerSteps.{InnerSteps}
use Rattle.tl_form.specs.Nested.{AreInnerSteps, IsProblemFor}
use Rattle.tl_form.specs.Problems.{HasSoundProblem, IsProblemOf}
use Rattle.tl_form.proofs.OneProblem.{one_inner}
use Rattle.tl_form.proofs.laid.problem_for.Goals as goal

module _ (table : Table) (style : Style) (width : ℕ) (before : List Section) (inner : List InnerSteps)
    (are : AreInnerSteps table style width before inner) where
  of_section : (result : Result (Option ProblemModel) AllocError) →
      IfOk result (λ found. MatchOption found (HasSoundProblem table style width inner → ⊥)
      (λ problem. IsProblemOf table style width inner problem × IsSound problem)) →
      IfOk result (λ found. MatchOption found ((problem : ProblemModel) → IsProblemFor table style width before problem → ⊥)
      (IsProblemFor table style width before))
  of_section (Err error) found = tt
  of_section (Ok None) found = λ problem is. found (subst (HasSoundProblem table style width)
      (one_inner style width before (inner_tables (out-Table table)) is.inner inner is.steps are)
      (problem, is.made, is.sound))
  of_section (Ok (Some problem)) found = record { inner = inner; steps = are; made = found.0; sound = found.1 }

pub returns : goal.returns
returns c =
    let are : AreInnerSteps c.args.table.now c.args.style c.args.width c.args.before.now c.in-Some.inner =
    rw c.in-Some.is at c.in_ok-inner.ensures in
    of_section c.args.table.now c.args.style c.args.width c.args.before.now c.in-Some.inner are c.sound_problem.result
    (subst (λ inner. IfOk c.sound_problem.result (λ found. MatchOption found
    (HasSoundProblem c.args.table.now c.args.style c.args.width inner → ⊥)
    (λ problem. IsProblemOf c.args.table.now c.args.style c.args.width inner problem × IsSound problem)))
    c.as_slice.ensures c.sound_problem.ensures)
