-- The cells, and the blocks, so far take so many lines and layouts.
use Rattle.std.proofs.Common.{◌≤◌}
use Rattle.tl_table.specs.declared.cell.Table.{out-Table}
use Rattle.tl_table.specs.declared.layout.Layout.{out-Layout}
use Rattle.tl_page.proofs.Taking.{BlocksTaken, CellsTaken}
use Rattle.tl_page.proofs.measure.+measure.Given as goal

abbrev pub decreases-height_in : goal.decreases-height_in
decreases-height_in l = goal.size-height_in l

abbrev pub decreases-past_cell : goal.decreases-past_cell
decreases-past_cell l = goal.size-past_cell l

abbrev pub decreases-taken_by : goal.decreases-taken_by
decreases-taken_by l = goal.size-taken_by l

abbrev pub invariant-height_in-loop-cell : goal.invariant-height_in-loop-cell
invariant-height_in-loop-cell l = CellsTaken l.style (out-Table l.table) (out-Layout l.layout) l.cell-index l.next

abbrev pub invariant-past_cell-loop-block : goal.invariant-past_cell-loop-block
invariant-past_cell-loop-block l = record {
  taken : BlocksTaken l.style l.width l.cell.blocks l.inner l.fn.next l.block-index l.lines l.next;
  low : l.lines ≤ l.height;
}
