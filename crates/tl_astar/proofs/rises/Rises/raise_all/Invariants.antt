use Rattle.tl_astar.specs.inner.Rises.{Raises}
use Rattle.tl_astar.proofs.RaiseLemmas.{IsWantedUpto}
use Rattle.tl_astar.proofs.rises.Rises.raise_all.Given as goal

abbrev pub invariant-loop-span : goal.invariant-loop-span
invariant-loop-span l = Raises (IsWantedUpto l.self l.rooms l.span) l.fn.heights l.heights
