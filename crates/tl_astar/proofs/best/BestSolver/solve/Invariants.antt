use Rattle.std.proofs.Common.{◌≡◌, ◌+◌, ◌-◌, ◌*◌, ◌≤◌, length}
use Rattle.std.specs.BinaryHeap.{heap_len}
use Rattle.tl_problem.specs.Placements.{IsOpening}
use Rattle.tl_astar.specs.inner.Searches.{AreLeft, IsSearchOf, open_zones}
use Rattle.tl_astar.proofs.best.BestSolver.solve.Given as goal

abbrev pub invariant-loop-first : goal.invariant-loop-first
invariant-loop-first g l = record {
  search : IsSearchOf l.problem l.search;
  left : AreLeft l.problem l.search (open_zones l.search);
  within : length l.search.arena.trace ≤ l.budget;
  shown : l.budget ≡ 0 → IsOpening l.problem l.search.arena.best;
}

abbrev pub decreases-loop-first : goal.decreases-loop-first
decreases-loop-first g l = 3 * (l.budget - length l.search.arena.trace) + heap_len l.search.opens.heap
