use Rattle.std.proofs.Common.{◌≡◌, ◌++◌, take}
use Rattle.std.specs.List.{flat_map}
use Rattle.tl_html.specs.Html.{cell_in_row}
use Rattle.tl_html.proofs.row.write_cells.Given as goal

abbrev pub invariant-loop-cell : goal.invariant-loop-cell
invariant-loop-cell l = l.out ≡ l.initial.out ++ flat_map (cell_in_row l.row) (take l.cell-index l.cells)
