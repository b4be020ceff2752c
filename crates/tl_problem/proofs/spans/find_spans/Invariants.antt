use Rattle.tl_problem.specs.inner.Spanning.{AreSpansUpto}
use Rattle.tl_problem.proofs.spans.find_spans.Given as goal

abbrev pub invariant-loop-slot : goal.invariant-loop-slot
invariant-loop-slot l = AreSpansUpto l.side l.seen.items l.slot l.spans.items
