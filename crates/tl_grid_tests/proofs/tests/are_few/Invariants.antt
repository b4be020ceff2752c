use Rattle.std.proofs.Common.{◌≡◌, ◌+◌, ◌≤◌, drop}
use Rattle.tl_grid.specs.Forming.{cells_in_groups, rows_in_groups}
use Rattle.tl_grid_tests.proofs.tests.are_few.Given as goal

abbrev pub invariant-loop-group : goal.invariant-loop-group
invariant-loop-group l = record {
  cells : l.cells + cells_in_groups (drop l.group-index l.groups) ≡ cells_in_groups l.groups;
  rows : l.rows + rows_in_groups (drop l.group-index l.groups) ≡ rows_in_groups l.groups;
  few_cells : l.cells ≤ 1000000;
  few_rows : l.rows ≤ 1000000;
}
