use Rattle.tl_table.proofs.Widths.{BlocksSoFar, CellsSoFar}
use Rattle.tl_table.proofs.width.+width.Given as goal

abbrev pub decreases-block_width : goal.decreases-block_width
decreases-block_width l = goal.size-block_width l

abbrev pub decreases-cell_width : goal.decreases-cell_width
decreases-cell_width l = goal.size-cell_width l

abbrev pub decreases-demands_of : goal.decreases-demands_of
decreases-demands_of l = goal.size-demands_of l

abbrev pub invariant-cell_width-loop-block : goal.invariant-cell_width-loop-block
invariant-cell_width-loop-block l = BlocksSoFar l.style l.cell.least l.cell.blocks l.block-index l.width

abbrev pub invariant-demands_of-loop-cell : goal.invariant-demands_of-loop-cell
invariant-demands_of-loop-cell l = CellsSoFar l.style l.cell-items l.cell-index l.demands.items
