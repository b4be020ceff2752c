use Rattle.std.proofs.Common.{◌≡◌, ◌+◌, ◌≤◌, drop}
use Rattle.tl_grid.specs.Forming.{cells_in}
use Rattle.tl_grid_tests.proofs.tests.few_cells.Given as goal

abbrev pub invariant-loop-row : goal.invariant-loop-row
invariant-loop-row l =
    (l.cells + cells_in (drop l.row-index l.rows) ≡ cells_in l.rows) × (l.cells ≤ 1000000)
