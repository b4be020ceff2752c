-- The tables of the cells, or blocks, so far are in their places.
use Rattle.std.proofs.Common.{take}
use Rattle.std.specs.List.{flat_map}
use Rattle.tl_table.specs.declared.cell.Content.{out-Content}
use Rattle.tl_table.specs.declared.cell.TableCell.{out-TableCell}
use Rattle.tl_table.specs.Tables.{tables_of, tables_in}
use Rattle.tl_table.specs.inner.Numbers.{ArePut}
use Rattle.tl_table.proofs.numbers.+numbers.Given as goal

abbrev pub invariant-put_cell-loop-block : goal.invariant-put_cell-loop-block
invariant-put_cell-loop-block l =
    ArePut l.first (flat_map (λ block. tables_of (out-Content block)) (take l.block-index l.block-items)) l.fn.places l.places

abbrev pub invariant-put_table-loop-cell : goal.invariant-put_table-loop-cell
invariant-put_table-loop-cell l =
    ArePut l.first (flat_map (λ cell. tables_in (out-TableCell cell)) (take l.cell-index l.cell-items)) l.fn.places l.places
