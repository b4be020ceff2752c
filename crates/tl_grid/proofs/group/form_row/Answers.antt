use Rattle.std.proofs.Common.{◌≡◌, ◌*◌, ◌<◌, ◌++◌, List, [], ◌∷◌, true, false, eqb, length, drop, get_or, ap, ◌+◌, drop-cons}
use Rattle.std.proofs.Common.{add-one, suc, arith}
use Rattle.std.proofs.Common.{refl, sym, ◌∙◌, subst}
use Rattle.std.proofs.lemmas.Bool.{both_ways}
use Rattle.tl_base.specs.declared.limits.TheConstants.{MAX_COLSPAN}
use Rattle.tl_grid.specs.declared.shape.SpanOf.{SpanOf}
use Rattle.std.proofs.lemmas.Grind.{common_steps}
use Rattle.tl_grid.specs.inner.OpenBlocks.{Walk}
use Rattle.tl_grid.specs.inner.States.{group_over, row_over}
use Rattle.tl_grid.specs.inner.Walk.{Row, row_of, place_cells}
use Rattle.tl_grid.proofs.Bounds.{EndsIn, passed_within}
use Rattle.tl_grid.proofs.Steps.{row_begun, cells_step}
use Rattle.tl_grid.proofs.group.form_row.Goals as goal

-- a list that is not empty has an element
has_some : (xs : List SpanOf) → eqb (length xs) 0 ≡ false → 0 < length xs
has_some [] none = absurd (both_ways true none refl)
has_some (x ∷ xs) none = omega arith

pub loop-span-init : goal.loop-span-init
loop-span-init c =
    let P : Walk → Type 0 = λ w. EndsIn (MAX_COLSPAN * c.args.number) w in
    let columns = subst P (sym c.in_ok-begin_row.ensures)
    (passed_within (MAX_COLSPAN * c.args.number) c.args.group.row
    (c.args.group.open_blocks.passed ++ c.args.group.open_blocks.ahead) 0 [] (omega arith) c.requires.columns) in
    let cells = row_begun c.args.group.row c.args.number c.args.spans.now (row_of (group_over c.args.group))
    c.in_ok-begin_row.field-0
    (has_some c.args.spans.now (sym c.is_empty.ensures ∙ c.if-is_empty.false)) c.in_ok-begin_row.ensures in
    grind (arith, common_steps, columns, cells)

pub loop-span-preserved : goal.loop-span-preserved
loop-span-preserved c =
    let y = c.args.group.row in
    let number = c.loop-span.number in
    let i = c.loop-span.span-index in
    let spans : List SpanOf = c.args.spans.now in
    let none : SpanOf = record { colspan = 0; rowspan = 0 } in
    let row : Row = row_over c.loop-span.state in
    let after : Row = row_over c.in_ok-state.state in
    let step = cells_step y number row after (get_or spans i none) (drop (suc i) spans) c.in_ok-state.ensures.cell in
    record {
      cells = ap (λ j. place_cells y (number + 1) after (drop j spans)) (add-one i)
          ∙ sym (ap (place_cells y number row) (drop-cons spans i none c.loop-span-test.true) ∙ step) ∙
          c.loop-span.invariant.cells;
      count = omega (arith, c.loop-span.invariant.count);
      blocks = omega (arith, c.loop-span.invariant.blocks, c.in_ok-state.ensures.count);
      columns = c.in_ok-state.ensures.columns;
      height = omega (
        arith,
        c.loop-span.invariant.height,
        c.loop-span.invariant.low,
        c.in_ok-state.ensures.height,
        c.requires.low,
      );
      low = omega (arith, c.loop-span.invariant.low, c.in_ok-state.ensures.higher);
    }
