-- What a best-first search on its way has of its problem. No public clause cites this file.
use Rattle.std.specs.Prelude.{IsTrue, ◌↔◌, ℕ, List, map}
use Rattle.std.specs.BinaryHeap.{heap_items}
use Rattle.std.specs.List.{All}
use Rattle.tl_problem.specs.Problem.{ProblemModel}
use Rattle.tl_cert.specs.declared.trace.CutAt.{CutAt}
use Rattle.tl_cert.specs.Worked.{IsBoundOf}
use Rattle.tl_solve.specs.Arenas.{IsArenaOf}
use Rattle.tl_astar.specs.declared.search.Search.{Search}
use Rattle.tl_astar.specs.Best.{HaveSameSteps}
use Rattle.tl_astar.specs.inner.Entries.{HeapEntry, bound_in, zone_in}
use Rattle.tl_astar.specs.inner.Frontier.{IsFrontier, KeepsBoundOrder}

-- the open zones of the search, by number
abbrev pub open_zones : Search → List ℕ
open_zones search = map zone_in (heap_items search.opens.heap)

-- each entry has the bound of its zone
abbrev pub HaveBounds : ProblemModel → List CutAt → List HeapEntry → Type 0
HaveBounds problem trace entries = All (λ e. IsBoundOf problem trace (zone_in e) (bound_in e)) entries

-- the search is one of this problem: its arena is, its open zones have their bounds, it knows whether each
-- cell has the same steps by `low` and by `high`, and its cuts keep their order
pub record IsSearchOf (problem : ProblemModel) (search : Search) : Type 0 where
  pub arena : IsArenaOf problem search.arena
  pub bounds : HaveBounds problem search.arena.trace (heap_items search.opens.heap)
  pub same_steps : IsTrue search.same_steps ↔ HaveSameSteps problem
  pub order : KeepsBoundOrder problem search.arena.trace search.arena.best.height

-- the zones are those that the search may still cut
abbrev pub AreLeft : ProblemModel → Search → List ℕ → Type 0
AreLeft problem search zones = IsFrontier problem search.arena.trace search.arena.best.height zones
