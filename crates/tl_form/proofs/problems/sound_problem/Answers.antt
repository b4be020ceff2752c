-- A table that has a sound problem passes each test.
use Rattle.tl_base.specs.declared.spacing.Spacing.{Spacing}
use Rattle.std.proofs.Common.{◌≡◌, ◌∙◌, true, false, sym, subst}
use Rattle.tl_table.specs.declared.cell.Table.{out-Table}
use Rattle.tl_problem.specs.Sound.{IsSound}
use Rattle.tl_table.specs.Layouts.{spacing_in}
use Rattle.tl_form.proofs.ProblemCells.{are-low, have-steps, made-sound}
use Rattle.tl_form.proofs.problems.sound_problem.Goals as goal

passed : false ≡ true → ⊥
passed equal = cc

pub returns-then-not-have_steps : goal.returns-then-not-have_steps
returns-then-not-have_steps c = λ has. passed (sym c.if-not-have_steps.true ∙ c.have_steps.ensures.1
    (have-steps c.args.table.now c.args.style c.args.width c.args.inner.now has))

pub returns-in_default : goal.returns-in_default
returns-in_default c = λ has. (rw c.in_default.is at c.in_ok-cells.ensures) (are-low c.args.table.now c.args.style c.args.width c.args.inner.now has)

pub returns-then-not-is_sound : goal.returns-then-not-is_sound
returns-then-not-is_sound c = λ has.
    let table = out-Table c.args.table.now in
    passed (sym c.if-not-is_sound.true ∙ c.is_sound.ensures.1
    (subst (λ (spacing : Spacing). IsSound (record {
      cols = table.cols;
      rows = table.rows;
      spacing = spacing;
      width = c.args.width;
      cells = c.as_slice.result.now;
    })) (sym c.spacing-spacing.ensures)
    (subst (λ made. IsSound (record {
      cols = table.cols;
      rows = table.rows;
      spacing = spacing_in c.args.style table;
      width = c.args.width;
      cells = made;
    }))
    (sym c.as_slice.ensures)
    (made-sound c.args.table.now c.args.style c.args.width c.args.inner.now c.in-Some.cells (rw c.in-Some.is at c.in_ok-cells.ensures) has))))
