use Rattle.std.proofs.Common.{◌≡◌, sum_by, take}
use Rattle.tl_table.specs.Sound.{nested_in_cell, nested_in_content}
use Rattle.tl_table.proofs.count.+count.Given as goal

abbrev pub invariant-tables_in_table-loop-cell : goal.invariant-tables_in_table-loop-cell
invariant-tables_in_table-loop-cell l = l.count ≡ sum_by nested_in_cell (take l.cell-index l.cell-items)

abbrev pub invariant-tables_in_cell-loop-block : goal.invariant-tables_in_cell-loop-block
invariant-tables_in_cell-loop-block l = l.count ≡ sum_by nested_in_content (take l.block-index l.block-items)
