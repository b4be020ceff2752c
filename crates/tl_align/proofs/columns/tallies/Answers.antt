use Rattle.std.proofs.Common.{map, replicate, sym, subst}
use Rattle.tl_base.specs.declared.limits.TheConstants.{MAX_COLUMNS}
use Rattle.tl_table.specs.declared.cell.Table.{out-Table}
use Rattle.tl_table.specs.declared.cell.TableCell.{out-TableCell}
use Rattle.tl_align.specs.declared.columns.Tally.TheVariants.{Blank}
use Rattle.tl_align.proofs.TallyLemmas.{IsTallied, item_within, tallied-start}
use Rattle.tl_align.proofs.columns.tallies.Goals as goal

pub loop-cell-init : goal.loop-cell-init
loop-cell-init c =
    subst (λ cells. IsTallied c.head_end-end.result (map out-TableCell (out-Table c.args.table.now).cells) (map out-TableCell cells)
    (replicate MAX_COLUMNS Blank)) (sym c.as_slice-cells.ensures)
    (tallied-start c.head_end-end.result (map out-TableCell (out-Table c.args.table.now).cells))

pub bounds-tallies-column : goal.bounds-tallies-column
bounds-tallies-column c =
    item_within c.args.table.now c.requires c.as_slice-cells.result.now c.as_slice-cells.ensures c.loop-cell.cell-index
    c.cell-item.result c.loop-cell-test.true c.cell-item.is

pub bounds-tallies-column-then-tells : goal.bounds-tallies-column-then-tells
bounds-tallies-column-then-tells c =
    item_within c.args.table.now c.requires c.as_slice-cells.result.now c.as_slice-cells.ensures c.loop-cell.cell-index
    c.cell-item.result c.loop-cell-test.true c.cell-item.is
