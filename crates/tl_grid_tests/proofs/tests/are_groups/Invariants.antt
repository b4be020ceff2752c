use Rattle.std.proofs.Common.{drop}
use Rattle.tl_grid.specs.Shapes.{AllSpans}
use Rattle.tl_grid_tests.proofs.tests.are_groups.Given as goal

abbrev pub invariant-loop-group : goal.invariant-loop-group
invariant-loop-group l = AllSpans (drop l.group-index l.groups) → AllSpans l.groups
