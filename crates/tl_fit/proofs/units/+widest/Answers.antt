-- Cell by cell, and block by block.
use Rattle.std.proofs.Common.{◌∙◌, sym, ap, arith}
use Rattle.std.specs.List.{flat_map}
use Rattle.tl_text.specs.Widest.{widest_within}
use Rattle.tl_fit.specs.Units.{units_in_cell, units_in_content}
use Rattle.tl_fit.proofs.UnitsOpen.{units_in_cell-out, units_in_table-out}
use Rattle.tl_fit.proofs.WidestSoFar.{widest_all, widest_more}
use Rattle.tl_fit.proofs.units.+widest.Goals as goal

pub widest_in_cell-loop-block-preserved : goal.widest_in_cell-loop-block-preserved
widest_in_cell-loop-block-preserved t c =
    omega (
      arith,
      c.max-widest.ensures,
      c.loop-block.invariant,
      c.widest_in_block.ensures,
      widest_more c.args.most units_in_content c.as_slice-block-items.result.now c.loop-block.block-index c.block-item.result
          c.loop-block-test.true c.block-item.is,
    )

pub widest_in_cell-returns : goal.widest_in_cell-returns
widest_in_cell-returns t c =
    c.loop-block.invariant
    ∙ widest_all c.args.most units_in_content c.as_slice-block-items.result.now c.loop-block.block-index (omega arith)
    ∙ ap (λ blocks. widest_within c.args.most (flat_map units_in_content blocks)) c.as_slice-block-items.ensures
    ∙ ap (widest_within c.args.most) (sym (units_in_cell-out c.args.cell.now))

pub widest_in_table-loop-cell-preserved : goal.widest_in_table-loop-cell-preserved
widest_in_table-loop-cell-preserved t c =
    omega (
      arith,
      c.max-widest.ensures,
      c.loop-cell.invariant,
      c.widest_in_cell.ensures,
      widest_more c.args.most units_in_cell c.as_slice-cell-items.result.now c.loop-cell.cell-index c.cell-item.result
          c.loop-cell-test.true c.cell-item.is,
    )

pub widest_in_table-returns : goal.widest_in_table-returns
widest_in_table-returns t c =
    c.loop-cell.invariant
    ∙ widest_all c.args.most units_in_cell c.as_slice-cell-items.result.now c.loop-cell.cell-index (omega arith)
    ∙ ap (λ cells. widest_within c.args.most (flat_map units_in_cell cells)) c.as_slice-cell-items.ensures
    ∙ ap (widest_within c.args.most) (sym (units_in_table-out c.args.table.now))
