use Rattle.tl_problem.specs.inner.Least.{IsLeastStep}
use Rattle.tl_problem.proofs.area.least_step.Given as goal

abbrev pub invariant-loop-number : goal.invariant-loop-number
invariant-loop-number l = IsLeastStep l.gap l.row_gap l.steps l.number l.low l.high l.start l.least
