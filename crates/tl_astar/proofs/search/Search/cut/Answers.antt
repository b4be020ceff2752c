use Rattle.std.proofs.Common.{◌≡◌, ◌+◌, ◌*◌, IsTrue, ◌↔◌, length, get_or, map, None, sym, ◌∙◌, subst}
use Rattle.std.specs.BinaryHeap.{heap_items}
use Rattle.tl_solve.specs.declared.arena.Arena.{Arena}
use Rattle.tl_solve.specs.Arenas.{IsArenaOf}
use Rattle.tl_solve.proofs.ArenaLaws.{lowered-le}
use Rattle.tl_astar.specs.Best.{HaveSameSteps}
use Rattle.tl_astar.specs.inner.Entries.{zone_in, IsAdded}
use Rattle.tl_astar.specs.inner.Frontier.{IsFrontier, KeepsBoundOrder}
use Rattle.tl_astar.specs.inner.Searches.{HaveBounds}
use Rattle.tl_astar.proofs.SearchLaws.{cut-bounds, cut-left, cut-order}
use Rattle.tl_astar.proofs.search.Search.cut.Goals as goal

pub returns-clause-search : goal.returns-clause-search
returns-clause-search c =
    let p = c.args.problem.now in
    let s = c.args.self.now in
    let is = c.requires.search in
    let A = s.arena in
    let B = c.cut.new.self in
    let old = heap_items s.opens.heap in
    let mid = heap_items c.add.new.self.opens.heap in
    let new = heap_items c.add-2.new.self.opens.heap in
    let same : c.add-2.new.self.arena ≡ B = c.in_ok-add-2.ensures.arena ∙ c.in_ok-add.ensures.arena in
    let same_steps = c.in_ok-add-2.ensures.same_steps ∙ c.in_ok-add.ensures.same_steps in
    let less = lowered-le A.best B.best c.in_ok-cut.ensures.lowered in
    let first : IsAdded (2 * length A.trace + 1) (get_or B.bounds.items (2 * length A.trace + 1) None) old mid =
    subst (λ n. IsAdded (2 * n + 1) (get_or B.bounds.items (2 * n + 1) None) old mid)
    c.cuts-made.ensures c.in_ok-add.ensures.added in
    let second : IsAdded (2 * length A.trace + 2) (get_or B.bounds.items (2 * length A.trace + 2) None) mid new =
    subst (λ n. IsAdded (2 * n + 2) (get_or B.bounds.items (2 * n + 2) None) mid new) c.cuts-made.ensures
    (subst (λ (a : Arena). IsAdded (2 * c.cuts-made.result + 2) (get_or a.bounds.items (2 * c.cuts-made.result + 2) None) mid new)
    c.in_ok-add.ensures.arena c.in_ok-add-2.ensures.added) in
    let below = c.requires.below in
    let least = c.requires.least below.0 below.1 in
    record {
      arena = subst (IsArenaOf p) (sym same) c.in_ok-cut.ensures.arena;
      bounds = subst (λ (a : Arena). HaveBounds p a.trace new) (sym same)
          (cut-bounds p A B is.arena c.in_ok-cut.ensures.arena c.args.cut c.requires.cut c.in_ok-cut.ensures.trace less old mid
          new first second
          c.requires.left below least is.bounds);
      same_steps = subst (λ b. IsTrue b ↔ HaveSameSteps p) (sym same_steps) is.same_steps;
      order = subst (λ (a : Arena). KeepsBoundOrder p a.trace a.best.height) (sym same)
          (cut-order p A B is.arena c.in_ok-cut.ensures.arena c.args.cut c.requires.cut c.in_ok-cut.ensures.trace less old mid
          new first second
          c.requires.left below least c.requires.below_by_area is.order);
    }

pub returns-clause-left : goal.returns-clause-left
returns-clause-left c =
    let p = c.args.problem.now in
    let s = c.args.self.now in
    let is = c.requires.search in
    let A = s.arena in
    let B = c.cut.new.self in
    let old = heap_items s.opens.heap in
    let mid = heap_items c.add.new.self.opens.heap in
    let new = heap_items c.add-2.new.self.opens.heap in
    let same : c.add-2.new.self.arena ≡ B = c.in_ok-add-2.ensures.arena ∙ c.in_ok-add.ensures.arena in
    let less = lowered-le A.best B.best c.in_ok-cut.ensures.lowered in
    let first : IsAdded (2 * length A.trace + 1) (get_or B.bounds.items (2 * length A.trace + 1) None) old mid =
    subst (λ n. IsAdded (2 * n + 1) (get_or B.bounds.items (2 * n + 1) None) old mid)
    c.cuts-made.ensures c.in_ok-add.ensures.added in
    let second : IsAdded (2 * length A.trace + 2) (get_or B.bounds.items (2 * length A.trace + 2) None) mid new =
    subst (λ n. IsAdded (2 * n + 2) (get_or B.bounds.items (2 * n + 2) None) mid new) c.cuts-made.ensures
    (subst (λ (a : Arena). IsAdded (2 * c.cuts-made.result + 2) (get_or a.bounds.items (2 * c.cuts-made.result + 2) None) mid new)
    c.in_ok-add.ensures.arena c.in_ok-add-2.ensures.added) in
    let below = c.requires.below in
    let least = c.requires.least below.0 below.1 in
    subst (λ (a : Arena). IsFrontier p a.trace a.best.height (map zone_in new)) (sym same)
    (cut-left p A B is.arena c.in_ok-cut.ensures.arena c.args.cut c.requires.cut c.in_ok-cut.ensures.trace less old mid new
    first second
    c.requires.left below least)
