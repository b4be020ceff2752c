use Rattle.std.proofs.Common.{◌≡◌, take}
use Rattle.tl_problem.specs.inner.Axes.{turns_from}
use Rattle.tl_problem.proofs.axis.order.Given as goal

abbrev pub invariant-loop-number : goal.invariant-loop-number
invariant-loop-number l = l.turns.items ≡ turns_from l.axis 0 (take l.number l.cells)
