use Rattle.std.proofs.Common.{◌≡◌, ◌∙◌, true, false, sym, subst}
use Rattle.tl_table.specs.declared.cell.Table.{out-Table}
use Rattle.tl_form.specs.Nested.{AreInnerSteps}
use Rattle.tl_form.specs.Problems.{HasSoundProblem}
use Rattle.tl_table.specs.Tables.{inner_tables}
use Rattle.tl_form.proofs.OneProblem.{one_inner}
use Rattle.tl_form.proofs.nested_steps.inner_steps.Goals as goal

pub returns-then-branch : goal.returns-then-branch
returns-then-branch c =
    let are : AreInnerSteps c.args.table.now c.args.style c.args.width c.args.sections.now c.in-Some.inner =
    rw c.in-Some.is at c.in_ok-inner.ensures in (
      are,
      subst (HasSoundProblem c.args.table.now c.args.style c.args.width) c.as_slice.ensures
          (c.in_ok-has_sound_problem.ensures.0 c.if-branch.true),
    )

pub returns-else-branch : goal.returns-else-branch
returns-else-branch c = λ inner are sound.
    let found : AreInnerSteps c.args.table.now c.args.style c.args.width c.args.sections.now c.in-Some.inner =
    rw c.in-Some.is at c.in_ok-inner.ensures in
    let same = one_inner c.args.style c.args.width c.args.sections.now (inner_tables (out-Table c.args.table.now))
    inner c.in-Some.inner are found in
    true_false (sym (c.in_ok-has_sound_problem.ensures.1
    (subst (HasSoundProblem c.args.table.now c.args.style c.args.width) (same ∙ sym c.as_slice.ensures)
    sound)) ∙ c.if-branch.false)
  where
    true_false : true ≡ false → ⊥
    true_false equal = cc
