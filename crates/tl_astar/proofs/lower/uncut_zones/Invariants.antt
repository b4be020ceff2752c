use Rattle.tl_astar.specs.inner.Lower.{AreUncut}
use Rattle.tl_astar.proofs.lower.uncut_zones.Given as goal

abbrev pub invariant-loop-number : goal.invariant-loop-number
invariant-loop-number l = AreUncut l.trace l.number l.stands.items
