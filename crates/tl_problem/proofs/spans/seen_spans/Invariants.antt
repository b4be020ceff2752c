use Rattle.tl_problem.specs.inner.Spanning.{IsSeen}
use Rattle.tl_problem.proofs.spans.seen_spans.Given as goal

abbrev pub invariant-loop-cell : goal.invariant-loop-cell
invariant-loop-cell l = IsSeen l.side l.cells l.cell-index l.seen.items
