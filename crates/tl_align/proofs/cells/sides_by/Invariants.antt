use Rattle.std.proofs.Common.{◌≡◌, map, take}
use Rattle.tl_table.specs.declared.cell.TableCell.{out-TableCell}
use Rattle.tl_align.specs.inner.Tallies.{given_side}
use Rattle.tl_align.proofs.cells.sides_by.Given as goal

abbrev pub invariant-loop-cell : goal.invariant-loop-cell
invariant-loop-cell l = l.sides ≡ map (λ cell. given_side l.asked l.columns (out-TableCell cell)) (take l.cell-index l.cells)
