use Rattle.tl_table.proofs.Arcs.{HaveArcsSoFar}
use Rattle.tl_table.proofs.widest.numbered_arcs.Given as goal

abbrev pub invariant-loop-number : goal.invariant-loop-number
invariant-loop-number l = HaveArcsSoFar l.gap l.demands l.number l.arcs.items
