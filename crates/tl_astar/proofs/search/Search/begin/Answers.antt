use Rattle.std.proofs.Common.{◌∷◌, [], IsTrue, ◌↔◌, length, get_or, map, None, sym, subst, ap, arith}
use Rattle.std.specs.BinaryHeap.{heap_items}
use Rattle.tl_solve.specs.declared.arena.Arena.{Arena}
use Rattle.tl_solve.specs.Arenas.{IsArenaOf}
use Rattle.tl_astar.specs.Best.{HaveSameSteps}
use Rattle.tl_astar.specs.inner.Entries.{zone_in}
use Rattle.tl_astar.specs.inner.Frontier.{IsFrontier, KeepsBoundOrder}
use Rattle.tl_astar.specs.inner.Searches.{HaveBounds}
use Rattle.tl_astar.proofs.FrontierLaws.{frontier-whole}
use Rattle.tl_astar.proofs.OrderLaws.{order-none}
use Rattle.tl_astar.proofs.SearchLaws.{added-bounds, added-frontier}
use Rattle.tl_astar.proofs.search.Search.begin.Goals as goal

pub returns-clause-search : goal.returns-clause-search
returns-clause-search c =
    let p = c.args.problem.now in
    let arena = c.in_ok-arena.arena in
    let same = c.in_ok-add.ensures.arena in
    let new = heap_items c.add.new.self.opens.heap in
    let found = c.in_ok-arena.ensures.arena.bounds in
    record {
      arena = subst (IsArenaOf p) (sym same) c.in_ok-arena.ensures.arena;
      bounds = subst (λ (a : Arena). HaveBounds p a.trace new) (sym same)
          (added-bounds p arena.trace 0 (get_or arena.bounds.items 0 None) (heap_items c.new-opens.result.heap)
          new c.in_ok-add.ensures.added
          (found.each 0 None (omega (arith, found.count)))
          (λ k d within. absurd (omega (arith, within, ap length c.new-opens.ensures))));
      same_steps = subst (λ b. IsTrue b ↔ HaveSameSteps p) (sym c.in_ok-add.ensures.same_steps) c.have_same_steps.ensures;
      order = subst (λ (a : Arena). KeepsBoundOrder p a.trace a.best.height) (sym same)
          (subst (λ t. KeepsBoundOrder p t arena.best.height) (sym c.in_ok-arena.ensures.no_cut)
          (order-none p arena.best.height));
    }

pub returns-clause-left : goal.returns-clause-left
returns-clause-left c =
    let p = c.args.problem.now in
    let arena = c.in_ok-arena.arena in
    let new = heap_items c.add.new.self.opens.heap in
    let found = c.in_ok-arena.ensures.arena.bounds in
    let whole = subst (λ t. IsFrontier p t arena.best.height (0 ∷ [])) (sym c.in_ok-arena.ensures.no_cut)
    (frontier-whole p arena.best.height) in
    let start = subst (λ es. IsFrontier p arena.trace arena.best.height (0 ∷ map zone_in es)) (sym c.new-opens.ensures) whole in
    subst (λ (a : Arena). IsFrontier p a.trace a.best.height (map zone_in new)) (sym c.in_ok-add.ensures.arena)
    (added-frontier p arena.trace arena.best.height 0 (get_or arena.bounds.items 0 None) (heap_items c.new-opens.result.heap)
    new c.in_ok-add.ensures.added
    (found.each 0 None (omega (arith, found.count))) start)
