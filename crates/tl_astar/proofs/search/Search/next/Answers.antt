use Rattle.std.proofs.Common.{◌∷◌, ℕ, map, sym, ◌∙◌, subst, ap, arith, length}
use Rattle.std.specs.BinaryHeap.{heap_items, heap_len}
use Rattle.std.proofs.lemmas.List.Elements.{All-head}
use Rattle.tl_base.proofs.Options.{not-some}
use Rattle.tl_cert.specs.Traces.{Stands}
use Rattle.tl_cert.specs.Worked.{IsBoundOf}
use Rattle.tl_solve.specs.declared.arena.Arena.{Arena}
use Rattle.tl_astar.specs.declared.opens.OpenZones.{OpenZones}
use Rattle.tl_astar.specs.inner.Entries.{zone_in}
use Rattle.tl_astar.specs.inner.Frontier.{IsFrontier, IsNeededCut, IsUnderBounds}
use Rattle.tl_astar.specs.inner.Searches.{AreLeft, open_zones}
use Rattle.tl_astar.proofs.FrontierLaws.{frontier-shut, frontier-end}
use Rattle.tl_astar.proofs.SearchLaws.{taken-bounds, taken-frontier, taken-least, search-popped, left-kept, least-kept, needed-at}
use Rattle.tl_astar.proofs.search.Search.next.Goals as goal

pub first_cut-requires-clause-search : goal.first_cut-requires-clause-search
first_cut-requires-clause-search c =
    let p = c.args.problem.now in
    let s = c.loop-zone.self in
    let is = c.loop-zone.invariant.search in
    search-popped p s c.pop.new.self is
    (taken-bounds p s.arena.trace (heap_items s.opens.heap) c.in-Some.zone (heap_items c.pop.new.self.heap)
    c.in-Some.ensures.taken is.bounds)

pub first_cut-requires-clause-there : goal.first_cut-requires-clause-there
first_cut-requires-clause-there c =
    let p = c.args.problem.now in
    let s = c.loop-zone.self in
    let zones = map zone_in (heap_items c.pop.new.self.heap) in
    let left = taken-frontier p s.arena.trace (heap_items s.opens.heap) c.in-Some.zone (heap_items c.pop.new.self.heap)
    c.in-Some.ensures.taken
    s.arena.best.height c.loop-zone.invariant.left in
    (All-head (Stands s.arena.trace) c.in-Some.zone zones left.standing).there

pub returns-in-Some-first_cut-clause-left : goal.returns-in-Some-first_cut-clause-left
returns-in-Some-first_cut-clause-left c =
    let p = c.args.problem.now in
    let s = c.loop-zone.self in
    let t = c.first_cut.new.self in
    let same = c.first_cut.ensures.arena in
    let left = taken-frontier p s.arena.trace (heap_items s.opens.heap) c.in-Some.zone (heap_items c.pop.new.self.heap)
    c.in-Some.ensures.taken
    s.arena.best.height c.loop-zone.invariant.left in
    subst (λ z. AreLeft p t (z ∷ open_zones t)) (sym c.in-Some-first_cut.ensures.zone)
    (left-kept p (record s { opens = c.pop.new.self }) t c.first_cut.ensures.opens (ap (λ (a : Arena). a.trace) same)
    (λ zones. c.in-Some.zone ∷ zones) (omega (arith, ap (λ (a : Arena). a.best.height) same)) left)

pub returns-in-Some-first_cut-clause-least : goal.returns-in-Some-first_cut-clause-least
returns-in-Some-first_cut-clause-least c =
    let p = c.args.problem.now in
    let s = c.loop-zone.self in
    let t = c.first_cut.new.self in
    subst (λ z. (bound : ℕ) → IsBoundOf p t.arena.trace z bound → IsUnderBounds p t.arena.trace bound (open_zones t))
    (sym c.in-Some-first_cut.ensures.zone)
    (least-kept p (record s { opens = c.pop.new.self }) t c.first_cut.ensures.opens
    (ap (λ (a : Arena). a.trace) c.first_cut.ensures.arena)
    c.in-Some.zone (taken-least p s.arena.trace (heap_items s.opens.heap) c.in-Some.zone (heap_items c.pop.new.self.heap)
    c.in-Some.ensures.taken
    c.loop-zone.invariant.search.bounds))

pub returns-in-Some-first_cut-clause-needed : goal.returns-in-Some-first_cut-clause-needed
returns-in-Some-first_cut-clause-needed c =
    let p = c.args.problem.now in
    let arena = c.loop-zone.self.arena in
    let found = c.in-Some-first_cut.ensures in
    subst (λ (a : Arena). IsNeededCut p a.trace a.best.height c.in-Some-first_cut.first) (sym c.first_cut.ensures.arena)
    (needed-at p arena.trace arena.best.height c.in-Some.zone c.in-Some-first_cut.first found.zone found.first found.below
    found.below_by_area)

pub loop-zone-preserved : goal.loop-zone-preserved
loop-zone-preserved c =
    let p = c.args.problem.now in
    let s = c.loop-zone.self in
    let same = c.first_cut.ensures.arena in
    let zones = map zone_in (heap_items c.pop.new.self.heap) in
    let left = taken-frontier p s.arena.trace (heap_items s.opens.heap) c.in-Some.zone (heap_items c.pop.new.self.heap)
    c.in-Some.ensures.taken
    s.arena.best.height c.loop-zone.invariant.left in
    let shut = not-some c.first_cut.result _ c.first_cut.ensures.shut c.in_default-first_cut.not-Some in
    record {
      arena = same ∙ c.loop-zone.invariant.arena;
      search = c.first_cut.ensures.search;
      left = left-kept p (record s { opens = c.pop.new.self }) c.first_cut.new.self c.first_cut.ensures.opens
          (ap (λ (a : Arena). a.trace) same)
          (λ zs. zs) (omega (arith, ap (λ (a : Arena). a.best.height) same))
          (frontier-shut p s.arena.trace s.arena.best.height c.in-Some.zone zones left shut);
      len = omega (
        arith,
        ap (λ (o : OpenZones). heap_len o.heap) c.first_cut.ensures.opens,
        c.in-Some.ensures.len,
        c.loop-zone.invariant.len,
      );
    }

pub returns-clause-search : goal.returns-clause-search
returns-clause-search c =
    let none = not-some c.pop.result _ c.pop.ensures.still_none c.in_default.not-Some in
    search-popped c.args.problem.now c.loop-zone.self c.pop.new.self c.loop-zone.invariant.search
    (λ k d within. absurd (omega (arith, within, ap length none)))

pub returns-clause-shut : goal.returns-clause-shut
returns-clause-shut c =
    let p = c.args.problem.now in
    let s = c.loop-zone.self in
    let none = not-some c.pop.result _ c.pop.ensures.none c.in_default.not-Some in
    frontier-end p s.arena.trace s.arena.best.height
    (subst (λ es. IsFrontier p s.arena.trace s.arena.best.height (map zone_in es)) none c.loop-zone.invariant.left)
