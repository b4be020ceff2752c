use Rattle.std.proofs.Common.{◌≡◌, sym, ◌∙◌, subst, ap}
use Rattle.tl_base.proofs.Options.{not-some}
use Rattle.tl_problem.specs.declared.placed.Placed.{Placed}
use Rattle.tl_cert.specs.Traces.{IsZoneOf, zone_of}
use Rattle.tl_solve.specs.declared.arena.Arena.{Arena}
use Rattle.tl_solve.specs.Arenas.{HasBoundBelow}
use Rattle.tl_solve.specs.Orders.{IsFirstCut}
use Rattle.tl_solve.proofs.ArenaLaws.{arena-zone}
use Rattle.tl_astar.specs.Best.{IsShut}
use Rattle.tl_astar.specs.inner.Frontier.{HasAreaBelow, IsNeededCut, PartsRange}
use Rattle.tl_astar.proofs.SearchLaws.{zone-there, zone-lent, first-parts, parts-cut}
use Rattle.tl_astar.proofs.search.Search.choose.Goals as goal

pub bounds-zones-zone : goal.bounds-zones-zone
bounds-zones-zone c =
    zone-there c.args.problem.now c.args.self.now.arena c.requires.search.arena c.args.first.zone c.requires.stands.there
    c.zones.result.now c.zones.ensures

pub returns-in_default-clause-shut : goal.returns-in_default-clause-shut
returns-in_default-clause-shut c =
    let p = c.args.problem.now in
    let t = c.offer_greedy.new.self in
    let z = c.args.first.zone in
    let trace = c.in_ok-offer_greedy.ensures.trace ∙ c.in_ok-offer_fit.ensures.trace in
    let shut = not-some c.needed_still.result _ c.needed_still.ensures.shut c.in_default.not-Some in
    subst (λ (a : Arena). IsShut p (zone_of p c.args.self.now.arena.trace z) a.best.height) (sym c.needed_still.ensures.arena)
    (subst (λ cuts. IsShut p (zone_of p cuts z) t.arena.best.height) trace shut)

pub cut_at-requires : goal.cut_at-requires
cut_at-requires c =
    let p = c.args.problem.now in
    let s = c.args.self.now in
    let u = c.needed_still.new.self in
    let z = c.args.first.zone in
    let trace = c.in_ok-offer_greedy.ensures.trace ∙ c.in_ok-offer_fit.ensures.trace in
    let same : u.arena.trace ≡ s.arena.trace = ap (λ (a : Arena). a.trace) c.needed_still.ensures.arena ∙ trace in
    let there = subst (λ cuts. IsZoneOf cuts z) (sym same) c.requires.stands.there in
    let lent = zone-lent p u.arena c.needed_still.ensures.search.arena z there c.zones-2.result.now c.index-zones-zone-2.result
    c.zones-2.ensures
    c.index-zones-zone-2.is in
    let ranges = c.ranges-ranges-2.ensures ∙ lent ∙ ap (λ cuts. zone_of p cuts z) same in
    let first = subst (λ cuts. IsFirstCut (zone_of p cuts z) c.in-Some.first) trace
    (subst (λ y. IsFirstCut (zone_of p c.offer_greedy.new.self.arena.trace y) c.in-Some.first) c.in-Some.ensures.zone
    c.in-Some.ensures.needed.first) in
    subst (λ zone. PartsRange zone c.in-Some.first) (sym ranges)
    (first-parts p (zone_of p s.arena.trace z) (arena-zone p s.arena c.requires.search.arena z c.requires.stands.there)
    c.in-Some.first first)

pub returns-clause-cut : goal.returns-clause-cut
returns-clause-cut c =
    let p = c.args.problem.now in
    let s = c.args.self.now in
    let u = c.needed_still.new.self in
    let z = c.args.first.zone in
    let trace = c.in_ok-offer_greedy.ensures.trace ∙ c.in_ok-offer_fit.ensures.trace in
    let same : u.arena.trace ≡ s.arena.trace = ap (λ (a : Arena). a.trace) c.needed_still.ensures.arena ∙ trace in
    let there = subst (λ cuts. IsZoneOf cuts z) (sym same) c.requires.stands.there in
    let lent = zone-lent p u.arena c.needed_still.ensures.search.arena z there c.zones-2.result.now c.index-zones-zone-2.result
    c.zones-2.ensures
    c.index-zones-zone-2.is in
    let ranges = c.ranges-ranges-2.ensures ∙ lent ∙ ap (λ cuts. zone_of p cuts z) same in
    parts-cut p s.arena.trace z c.cut_at.result c.requires.stands
    (arena-zone p s.arena c.requires.search.arena z c.requires.stands.there)
    (c.cut_at.ensures.zone ∙ c.in-Some.ensures.zone) (subst (λ zone. PartsRange zone c.cut_at.result)
    ranges c.cut_at.ensures.parts)

pub needed_still-requires-clause-needed : goal.needed_still-requires-clause-needed
needed_still-requires-clause-needed c =
    let p = c.args.problem.now in
    let t = c.offer_greedy.new.self in
    let trace = c.in_ok-offer_greedy.ensures.trace ∙ c.in_ok-offer_fit.ensures.trace in
    subst (λ h. IsNeededCut p t.arena.trace h c.args.first) (sym (ap (λ (b : Placed). b.height) c.best.ensures))
    (subst (λ cuts. IsNeededCut p cuts c.args.self.now.arena.best.height c.args.first) (sym trace) c.requires.needed)

pub returns-clause-below : goal.returns-clause-below
returns-clause-below c =
    let p = c.args.problem.now in
    let s = c.args.self.now in
    let t = c.offer_greedy.new.self in
    let trace = c.in_ok-offer_greedy.ensures.trace ∙ c.in_ok-offer_fit.ensures.trace in
    subst (λ (a : Arena). HasBoundBelow p s.arena.trace c.args.first.zone a.best.height) (sym c.needed_still.ensures.arena)
    (subst (λ z. HasBoundBelow p s.arena.trace z t.arena.best.height) c.in-Some.ensures.zone
    (subst (λ cuts. HasBoundBelow p cuts c.in-Some.first.zone t.arena.best.height) trace c.in-Some.ensures.needed.below))

pub returns-clause-below_by_area : goal.returns-clause-below_by_area
returns-clause-below_by_area c =
    let p = c.args.problem.now in
    let s = c.args.self.now in
    let t = c.offer_greedy.new.self in
    let trace = c.in_ok-offer_greedy.ensures.trace ∙ c.in_ok-offer_fit.ensures.trace in
    λ same. subst (λ (a : Arena). HasAreaBelow p s.arena.trace c.args.first.zone a.best.height) (sym c.needed_still.ensures.arena)
    (subst (λ z. HasAreaBelow p s.arena.trace z t.arena.best.height) c.in-Some.ensures.zone
    (subst (λ cuts. HasAreaBelow p cuts c.in-Some.first.zone t.arena.best.height) trace
    (c.in-Some.ensures.needed.below_by_area same)))
