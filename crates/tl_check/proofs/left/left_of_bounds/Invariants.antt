use Rattle.std.proofs.Common.{take}
use Rattle.tl_problem.specs.Works.{AreAllowed}
use Rattle.tl_check.specs.inner.Firing.{HasLeft}
use Rattle.tl_check.proofs.left.left_of_bounds.Given as goal

abbrev pub invariant-bounds : goal.invariant-bounds
invariant-bounds l =
    HasLeft l.problem (AreAllowed l.problem l.matrix.bounds) (take l.bound-index l.bounds) l.left
