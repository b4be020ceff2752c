use Rattle.std.proofs.Common.{drop}
use Rattle.std.specs.List.{AllByRecursion}
use Rattle.tl_grid.specs.Shapes.{IsSpan}
use Rattle.tl_grid_tests.proofs.tests.are_rows.Given as goal

abbrev pub invariant-loop-row : goal.invariant-loop-row
invariant-loop-row l =
    AllByRecursion (AllByRecursion IsSpan) (drop l.row-index l.rows)
    → AllByRecursion (AllByRecursion IsSpan) l.rows
