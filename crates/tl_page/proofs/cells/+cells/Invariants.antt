-- The cells, or the blocks, so far stand in the lines, and the others are left to fit.
use Rattle.tl_table.specs.declared.cell.Table.{out-Table}
use Rattle.tl_table.specs.declared.layout.Layout.{out-Layout}
use Rattle.tl_page.proofs.Progress.{BlocksSoFar, CellsSoFar}
use Rattle.tl_page.proofs.cells.+cells.Given as goal

abbrev pub decreases-with_block : goal.decreases-with_block
decreases-with_block l = goal.size-with_block l

abbrev pub decreases-cell_part : goal.decreases-cell_part
decreases-cell_part l = goal.size-cell_part l

abbrev pub decreases-drawn_cells : goal.decreases-drawn_cells
decreases-drawn_cells l = goal.size-drawn_cells l

abbrev pub invariant-cell_part-loop-block : goal.invariant-cell_part-loop-block
invariant-cell_part-loop-block l = BlocksSoFar l.look l.room.side l.room.columns l.cell.blocks l.inner l.fn.next l.block-index l.part.next l.part.lines

abbrev pub invariant-drawn_cells-loop-at : goal.invariant-drawn_cells-loop-at
invariant-drawn_cells-loop-at l =
    CellsSoFar l.look (out-Table l.table) (out-Layout l.layout) l.at l.next l.cells.items
