use Rattle.std.proofs.Common.{◌≡◌, ◌++◌, List, take}
use Rattle.tl_table.specs.declared.cell.TableCell.{TableCell}
use Rattle.tl_columns.specs.Columns.{placed_in}
use Rattle.tl_columns.proofs.TextCells.{AreCellsOf}
use Rattle.tl_columns.proofs.cells.row_cells.Given as goal

abbrev pub invariant-loop-column : goal.invariant-loop-column
invariant-loop-column l = (more : List TableCell) × (l.cells ≡ l.fn.cells ++ more)
    × AreCellsOf l.form.head l.form.least.now l.form.breaking (take l.column (placed_in l.row l.fields)) more
