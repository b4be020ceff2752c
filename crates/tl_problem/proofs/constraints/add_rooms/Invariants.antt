use Rattle.tl_problem.specs.inner.Constraints.{PageUpto}
use Rattle.tl_problem.proofs.constraints.add_rooms.Given as goal

abbrev pub invariant-loop-s : goal.invariant-loop-s
invariant-loop-s l = PageUpto l.problem 0 l.s l.matrix
