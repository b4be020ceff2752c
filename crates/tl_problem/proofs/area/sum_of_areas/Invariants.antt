use Rattle.tl_problem.specs.Works.{AreAllowed}
use Rattle.tl_problem.specs.inner.Least.{HaveAreas}
use Rattle.tl_problem.proofs.area.sum_of_areas.Given as goal

abbrev pub invariant-loop-number : goal.invariant-loop-number
invariant-loop-number l = HaveAreas l.problem (AreAllowed l.problem l.matrix.bounds) l.number l.areas
