use Rattle.tl_problem.specs.inner.Soundness.{AreWidest}
use Rattle.tl_problem.proofs.sound.find_widest.Given as goal

abbrev pub invariant-loop-number : goal.invariant-loop-number
invariant-loop-number l = AreWidest l.side l.cells l.number l.widest
