use Rattle.tl_form.proofs.TallStacks.{TallSoFar}
use Rattle.tl_form.proofs.tall.tall_stack.Given as goal

abbrev pub invariant-loop-width : goal.invariant-loop-width
invariant-loop-width l = TallSoFar l.above l.below l.list l.lowest l.width
