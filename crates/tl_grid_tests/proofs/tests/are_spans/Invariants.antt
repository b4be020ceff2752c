use Rattle.std.proofs.Common.{drop}
use Rattle.std.specs.List.{AllByRecursion}
use Rattle.tl_grid.specs.Shapes.{IsSpan}
use Rattle.tl_grid_tests.proofs.tests.are_spans.Given as goal

abbrev pub invariant-loop-span : goal.invariant-loop-span
invariant-loop-span l =
    AllByRecursion IsSpan (drop l.span-index l.spans) → AllByRecursion IsSpan l.spans
