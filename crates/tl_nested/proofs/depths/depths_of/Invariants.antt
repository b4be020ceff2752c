use Rattle.tl_nested.specs.inner.Depths.{AreDepths}
use Rattle.tl_nested.proofs.depths.depths_of.Given as goal

abbrev pub invariant-loop-next : goal.invariant-loop-next
invariant-loop-next l = AreDepths l.sizes l.depths.items l.next
