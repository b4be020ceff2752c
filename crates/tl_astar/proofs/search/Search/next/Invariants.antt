use Rattle.std.proofs.Common.{◌≡◌, ◌≤◌}
use Rattle.std.specs.BinaryHeap.{heap_len}
use Rattle.tl_astar.specs.inner.Searches.{AreLeft, IsSearchOf, open_zones}
use Rattle.tl_astar.proofs.search.Search.next.Given as goal

abbrev pub invariant-loop-zone : goal.invariant-loop-zone
invariant-loop-zone l = record {
  arena : l.self.arena ≡ l.fn.self.arena;
  search : IsSearchOf l.problem l.self;
  left : AreLeft l.problem l.self (open_zones l.self);
  len : heap_len l.self.opens.heap ≤ heap_len l.fn.self.opens.heap;
}

abbrev pub decreases-loop-zone : goal.decreases-loop-zone
decreases-loop-zone l = heap_len l.self.opens.heap
