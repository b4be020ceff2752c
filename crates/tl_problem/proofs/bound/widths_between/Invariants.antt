use Rattle.std.proofs.Common.{◌≡◌}
use Rattle.tl_diff.specs.Bounds.{assignment_of}
use Rattle.tl_problem.specs.Works.{widths_of}
use Rattle.tl_problem.proofs.bound.widths_between.Given as goal

abbrev pub invariant-loop-column : goal.invariant-loop-column
invariant-loop-column l = l.widths ≡ widths_of (assignment_of l.places) l.problem.spacing.gap l.column
