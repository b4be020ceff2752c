use Rattle.std.proofs.Common.{◌≡◌, ◌+◌, drop}
use Rattle.tl_grid.specs.Forming.{cells_in}
use Rattle.tl_grid.proofs.table.count_cells.Given as goal

abbrev pub invariant-loop-spans : goal.invariant-loop-spans
invariant-loop-spans l = l.count + cells_in (drop l.spans-index l.rows) ≡ cells_in l.rows
