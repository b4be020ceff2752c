use Rattle.tl_astar.proofs.RaiseLemmas.{AreRaisedUpto}
use Rattle.tl_astar.proofs.rises.raise_heights.Given as goal

abbrev pub invariant-loop-rise : goal.invariant-loop-rise
invariant-loop-rise l = AreRaisedUpto l.rises l.room l.rise-index l.fn.heights l.heights
