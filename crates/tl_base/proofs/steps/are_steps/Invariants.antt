use Rattle.tl_base.proofs.Decreasing.{FallsBelow}
use Rattle.tl_base.proofs.steps.are_steps.Given as goal

abbrev pub invariant-loop-i : goal.invariant-loop-i
invariant-loop-i l = FallsBelow l.configs l.i
