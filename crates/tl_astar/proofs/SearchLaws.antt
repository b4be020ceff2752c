-- How the entries of a best-first search go on: a zone that is taken out, and parts that are added.
use Rattle.std.proofs.Common.{◌≡◌, ℕ, ◌+◌, ◌*◌, ◌<◌, ◌≤◌, List, [], ◌∷◌, ◌++◌, inl, inr, length, get_or, map, Option, Some, None}
use Rattle.std.proofs.Common.{sym, ◌∙◌, subst}
use Rattle.std.proofs.Common.{ap, arith, length-append}
use Rattle.std.specs.BinaryHeap.{heap_items}
use Rattle.std.specs.List.{All}
use Rattle.std.specs.Option.{IfSome}
use Rattle.std.proofs.lemmas.Bool.{cases_lt}
use Rattle.std.proofs.lemmas.List.{get_or-map, length-map}
use Rattle.std.proofs.lemmas.List.Elements.{All-cons, All-head, All-tail, All-map}
use Rattle.std.proofs.lemmas.List.Sorted.{All-permutation, IsPermutation-map, IsPermutation-cons, IsPermutation-middle}
use Rattle.std.proofs.lemmas.List.Sorted.{IsPermutation-trans}
use Rattle.tl_problem.specs.declared.zone.Range.{Range}
use Rattle.tl_problem.specs.Problem.{ProblemModel}
use Rattle.tl_problem.specs.Sound.{IsSound}
use Rattle.tl_problem.specs.Zones.{range_at, IsZone, whole_zone, InZone}
use Rattle.tl_problem.proofs.BoundLaws.{bound-unique}
use Rattle.tl_problem.proofs.ZoneLaws.{whole-is_zone}
use Rattle.tl_cert.specs.declared.trace.CutAt.{CutAt}
use Rattle.tl_cert.specs.Traces.{zone_of, IsZoneOf, Stands, IsCut, IsTraceOf}
use Rattle.tl_cert.specs.Worked.{IsBoundOf}
use Rattle.tl_solve.specs.declared.arena.Arena.{Arena}
use Rattle.tl_solve.specs.Arenas.{IsBoundFound, HasBoundBelow, IsArenaOf}
use Rattle.tl_cert.proofs.TraceLaws.{zones-length}
use Rattle.tl_solve.specs.Orders.{IsFirstCut}
use Rattle.tl_solve.proofs.ArenaLaws.{arena-item, arena-keen, lowered-le}
use Rattle.tl_astar.specs.inner.Entries.{HeapEntry, entry, bound_in, zone_in, IsTakenOut, IsAdded}
use Rattle.tl_astar.specs.declared.opens.OpenZones.{OpenZones}
use Rattle.tl_astar.specs.declared.search.Search.{Search}
use Rattle.tl_astar.specs.Best.{HaveSameSteps}
use Rattle.tl_astar.specs.inner.Frontier.{HasAreaBelow, IsNeededCut, IsUnderBounds, IsFrontier, KeepsBoundOrder, PartsRange}
use Rattle.tl_astar.specs.inner.Searches.{HaveBounds, AreLeft, IsSearchOf, open_zones}
use Rattle.tl_astar.proofs.FrontierLaws.{frontier-lower, frontier-permuted, frontier-shut, frontier-cut, bound-kept}
use Rattle.tl_astar.proofs.OrderLaws.{HasBoundOrNone, order-lower, order-cut}

module _ (problem : ProblemModel) (trace : List CutAt) where
  -- ---- a zone is taken out

  module _ (old : List HeapEntry) (zone : ℕ) (left : List HeapEntry) (out : IsTakenOut old zone left) where
    bounds_out : HaveBounds problem trace old → HaveBounds problem trace (entry out.bound zone ∷ left)
    bounds_out have = All-permutation (λ e. IsBoundOf problem trace (zone_in e) (bound_in e)) old (entry out.bound zone ∷ left)
        out.taken have

    pub taken-bounds : HaveBounds problem trace old → HaveBounds problem trace left
    taken-bounds have = All-tail (λ e. IsBoundOf problem trace (zone_in e) (bound_in e)) (entry out.bound zone) left
        (bounds_out have)

    pub taken-frontier : (height : ℕ) → IsFrontier problem trace height (map zone_in old) →
        IsFrontier problem trace height (zone ∷ map zone_in left)
    taken-frontier height is =
        frontier-permuted problem trace height (map zone_in old) (zone ∷ map zone_in left)
        (IsPermutation-map zone_in old (entry out.bound zone ∷ left) out.taken) is

    -- its bound is at most those of the others
    pub taken-least : HaveBounds problem trace old → (bound : ℕ) → IsBoundOf problem trace zone bound →
        IsUnderBounds problem trace bound (map zone_in left)
    taken-least have bound is =
        let here = All-head (λ e. IsBoundOf problem trace (zone_in e) (bound_in e)) (entry out.bound zone) left
        (bounds_out have) in
        let same = bound-unique problem (InZone problem (zone_of problem trace zone)) bound out.bound is here in
        let rest = taken-bounds have in
        All-map (λ z. (other : ℕ) → IsBoundOf problem trace z other → bound ≤ other) zone_in left (λ k d within other has.
        let e = get_or left k d in
        let least = out.least k d within in
        let equal = bound-unique problem (InZone problem (zone_of problem trace (zone_in e))) other (bound_in e) has
        (rest k d within) in
        omega (arith, same, least, equal))

  -- ---- a zone is added

  pub added-bounds : (zone : ℕ) (found : Option ℕ) (old new : List HeapEntry) → IsAdded zone found old new → IsBoundFound problem
      (zone_of problem trace zone) found →
      HaveBounds problem trace old → HaveBounds problem trace new
  added-bounds zone None old new same none have = subst (HaveBounds problem trace) (sym same) have
  added-bounds zone (Some bound) old new added is have =
      All-permutation (λ e. IsBoundOf problem trace (zone_in e) (bound_in e)) (entry bound zone ∷ old) new added
      (All-cons (λ e. IsBoundOf problem trace (zone_in e) (bound_in e)) (entry bound zone) old is have)

  pub added-frontier : (height zone : ℕ) (found : Option ℕ) (old new : List HeapEntry) → IsAdded zone found old new →
      IsBoundFound problem (zone_of problem trace zone) found → IsFrontier problem trace height (zone ∷ map zone_in old) →
      IsFrontier problem trace height (map zone_in new)
  added-frontier height zone None old new same none is =
      subst (λ es. IsFrontier problem trace height (map zone_in es)) (sym same)
      (frontier-shut problem trace height zone (map zone_in old) is (inl (inl none)))
  added-frontier height zone (Some bound) old new added found is =
      frontier-permuted problem trace height (zone ∷ map zone_in old) (map zone_in new)
      (IsPermutation-map zone_in (entry bound zone ∷ old) new added) is

  -- the first of two
  pub added-first : (height zone other : ℕ) (found : Option ℕ) (old new : List HeapEntry) → IsAdded zone found old new →
      IsBoundFound problem (zone_of problem trace zone) found → IsFrontier problem trace height (zone ∷ other ∷ map zone_in old) →
      IsFrontier problem trace height (other ∷ map zone_in new)
  added-first height zone other None old new same none is =
      subst (λ es. IsFrontier problem trace height (other ∷ map zone_in es)) (sym same)
      (frontier-shut problem trace height zone (other ∷ map zone_in old) is (inl (inl none)))
  added-first height zone other (Some bound) old new added found is =
      frontier-permuted problem trace height (zone ∷ other ∷ map zone_in old) (other ∷ map zone_in new)
      (IsPermutation-trans (zone ∷ other ∷ map zone_in old) (other ∷ zone ∷ map zone_in old) (other ∷ map zone_in new)
      (IsPermutation-middle (zone ∷ []) other (map zone_in old))
      (IsPermutation-cons other (zone ∷ map zone_in old) (map zone_in new)
      (IsPermutation-map zone_in (entry bound zone ∷ old) new added))) is

-- the entries keep their bounds through a cut
pub bounds-more : (problem : ProblemModel) → IsSound problem → (trace : List CutAt) → IsTraceOf problem trace → (cut : CutAt) →
    IsCut (whole_zone problem) trace cut → (entries : List HeapEntry) → All (λ e. Stands trace (zone_in e)) entries →
    HaveBounds problem trace entries → HaveBounds problem (trace ++ cut ∷ []) entries
bounds-more problem sound trace is cut now entries standing have k d within =
    let e = get_or entries k d in
    bound-kept problem sound trace is cut now (zone_in e) (bound_in e) (standing k d within).there (have k d within)

-- ---- the arena

pub found-or_none : (problem : ProblemModel) (arena : Arena) → IsArenaOf problem arena → (z : ℕ) → IsZoneOf arena.trace z →
    HasBoundOrNone problem arena.trace z
found-or_none problem arena is z there =
    found (get_or arena.bounds.items z None) (is.bounds.each z None (omega (arith, there, is.bounds.count))) where
      found : (o : Option ℕ) → IsBoundFound problem (zone_of problem arena.trace z) o → HasBoundOrNone problem arena.trace z
      found None none = inl none
      found (Some bound) is_bound = inr (bound, is_bound)

-- what the arena lends of a zone: its ranges and its bound
pub zone-there : (problem : ProblemModel) (arena : Arena) → IsArenaOf problem arena → (z : ℕ) → IsZoneOf arena.trace z →
    (zones : List (List Range)) →
    zones ≡ arena.zones.items → z < length zones
zone-there problem arena is z there zones lent =
    omega (arith, there, ap length lent, ap length is.zones, zones-length (whole_zone problem ∷ []) arena.trace)

pub zone-lent : (problem : ProblemModel) (arena : Arena) → IsArenaOf problem arena → (z : ℕ) → IsZoneOf arena.trace z →
    (zones : List (List Range))
    (item : List Range) → zones ≡ arena.zones.items → item ≡ get_or zones z item → item ≡ zone_of problem arena.trace z
zone-lent problem arena is z there zones item lent at =
    arena-item problem arena is z item there (at ∙ ap (λ zs. get_or zs z item) lent)

pub bound-lent : (problem : ProblemModel) (arena : Arena) → IsArenaOf problem arena → (z : ℕ) → IsZoneOf arena.trace z →
    (bounds : List (Option ℕ))
    (d : Option ℕ) (bound : ℕ) → bounds ≡ arena.bounds.items → get_or bounds z d ≡ Some bound →
    IsBoundOf problem arena.trace z bound
bound-lent problem arena is z there bounds d bound lent at =
    subst (IsBoundFound problem (zone_of problem arena.trace z)) (sym (ap (λ bs. get_or bs z d) lent) ∙ at)
    (is.bounds.each z d (omega (arith, there, is.bounds.count)))

-- a bound below the best height is below that of the opening
pub below-opening : (problem : ProblemModel) (arena : Arena) → IsArenaOf problem arena → (z : ℕ) →
    HasBoundBelow problem arena.trace z arena.best.height →
    HasBoundBelow problem arena.trace z arena.opening
below-opening problem arena is z has =
    let less = lowered-le is.opening.0 arena.best is.opening.3 in
    (has.0, has.1, omega (arith, has.2, less, is.opening.2))

-- ---- the search

-- the search once a zone is taken out
pub search-popped : (problem : ProblemModel) (search : Search) (opens : OpenZones) → IsSearchOf problem search →
    HaveBounds problem search.arena.trace (heap_items opens.heap) → IsSearchOf problem (record search { opens = opens })
search-popped problem search opens is bounds = record {
  arena = is.arena;
  bounds = bounds;
  same_steps = is.same_steps;
  order = is.order;
}

module _ (problem : ProblemModel) (old new : Search) (opens : new.opens ≡ old.opens)
    (trace : new.arena.trace ≡ old.arena.trace) where
  -- a lower placement leaves the zones that may be cut
  pub left-kept : (extended : List ℕ → List ℕ) → new.arena.best.height ≤ old.arena.best.height →
      AreLeft problem old (extended (open_zones old)) →
      AreLeft problem new (extended (open_zones new))
  left-kept extended less left =
      let lower = frontier-lower problem old.arena.trace old.arena.best.height new.arena.best.height (extended (open_zones old))
      less left in
      subst (λ (o : OpenZones). IsFrontier problem new.arena.trace new.arena.best.height
      (extended (map zone_in (heap_items o.heap)))) (sym opens)
      (subst (λ t. IsFrontier problem t new.arena.best.height (extended (open_zones old))) (sym trace) lower)

  -- and the bounds among which one is least
  pub least-kept : (z : ℕ) → ((bound : ℕ) → IsBoundOf problem old.arena.trace z bound →
      IsUnderBounds problem old.arena.trace bound (open_zones old)) →
      (bound : ℕ) → IsBoundOf problem new.arena.trace z bound → IsUnderBounds problem new.arena.trace bound (open_zones new)
  least-kept z least =
      subst (λ (o : OpenZones). (bound : ℕ) → IsBoundOf problem new.arena.trace z bound →
      IsUnderBounds problem new.arena.trace bound (map zone_in (heap_items o.heap))) (sym opens)
      (subst (λ t. (bound : ℕ) → IsBoundOf problem t z bound → IsUnderBounds problem t bound (open_zones old)) (sym trace) least)

-- ---- a cut, and both parts added

module _ (problem : ProblemModel) (A B : Arena) (is : IsArenaOf problem A) (also : IsArenaOf problem B) (cut : CutAt)
    (now : IsCut (whole_zone problem) A.trace cut) (longer : B.trace ≡ A.trace ++ cut ∷ [])
    (lowered : B.best.height ≤ A.best.height)
    (old mid new : List HeapEntry) (first : IsAdded (2 * length A.trace + 1) (get_or B.bounds.items (2 * length A.trace + 1) None)
    old mid)
    (second : IsAdded (2 * length A.trace + 2) (get_or B.bounds.items (2 * length A.trace + 2) None) mid new)
    (left : IsFrontier problem A.trace A.best.height (cut.zone ∷ map zone_in old))
    (below : HasBoundBelow problem A.trace cut.zone A.best.height)
    (least : IsUnderBounds problem A.trace below.0 (map zone_in old)) where
  found_at : (z : ℕ) → z ≤ 2 * length A.trace + 2 → IsBoundFound problem (zone_of problem (A.trace ++ cut ∷ []) z)
      (get_or B.bounds.items z None)
  found_at z within =
      let count = length-append A.trace (cut ∷ []) in
      subst (λ t. IsBoundFound problem (zone_of problem t z) (get_or B.bounds.items z None)) longer
      (also.bounds.each z None (omega (arith, within, also.bounds.count, ap length longer, count)))

  entries_stand : All (λ e. Stands A.trace (zone_in e)) old
  entries_stand k d within =
      let here = All-tail (Stands A.trace) cut.zone (map zone_in old) left.standing k (zone_in d)
      (omega (arith, within, length-map old zone_in)) in
      subst (Stands A.trace) (get_or-map zone_in old k d (zone_in d) within) here

  pub cut-bounds : HaveBounds problem A.trace old → HaveBounds problem B.trace new
  cut-bounds have =
      let more = bounds-more problem is.work.sound A.trace is.trace_of cut now old entries_stand have in
      let one = added-bounds problem (A.trace ++ cut ∷ []) (2 * length A.trace + 1)
      (get_or B.bounds.items (2 * length A.trace + 1) None) old mid first
      (found_at (2 * length A.trace + 1) (omega arith)) more in
      subst (λ t. HaveBounds problem t new) (sym longer)
      (added-bounds problem (A.trace ++ cut ∷ []) (2 * length A.trace + 2) (get_or B.bounds.items (2 * length A.trace + 2) None)
      mid new second
      (found_at (2 * length A.trace + 2) (omega arith)) one)

  pub cut-left : IsFrontier problem B.trace B.best.height (map zone_in new)
  cut-left =
      let more = A.trace ++ cut ∷ [] in
      let low = 2 * length A.trace + 1 in
      let high = 2 * length A.trace + 2 in
      let both = frontier-lower problem more A.best.height B.best.height (low ∷ high ∷ map zone_in old) lowered
      (frontier-cut problem is.work.sound A.trace is.trace_of cut now A.best.height (map zone_in old) left (below.0, below.1)
      least) in
      subst (λ t. IsFrontier problem t B.best.height (map zone_in new)) (sym longer)
      (added-frontier problem more B.best.height high (get_or B.bounds.items high None) mid new second
      (found_at high (omega arith))
      (added-first problem more B.best.height low high (get_or B.bounds.items low None) old mid first
      (found_at low (omega arith)) both))

  pub cut-order : (HaveSameSteps problem → HasAreaBelow problem A.trace cut.zone A.best.height) →
      KeepsBoundOrder problem A.trace A.best.height → KeepsBoundOrder problem B.trace B.best.height
  cut-order small keeps =
      let more = A.trace ++ cut ∷ [] in
      subst (λ t. KeepsBoundOrder problem t B.best.height) (sym longer)
      (order-lower problem more A.best.height B.best.height lowered
      (order-cut problem is.work.sound A.trace is.trace_of cut now A.best.height (map zone_in old) left below least keeps small
      (arena-keen problem is.work.sound A is) (found-or_none problem A is)
      (subst (λ t. (z : ℕ) → IsZoneOf t z → HasBoundOrNone problem t z) longer (found-or_none problem B also))))

-- the search whose arena was asked and is as it was
pub search-asked : (problem : ProblemModel) (search : Search) (arena : Arena) → IsSearchOf problem search → arena ≡ search.arena →
    IsSearchOf problem (record search { arena = arena })
search-asked problem search arena is same =
    subst (λ (a : Arena). IsSearchOf problem (record search { arena = a })) (sym same) is

-- the search once a placement was offered to its arena
pub search-offered : (problem : ProblemModel) (search : Search) (arena : Arena) → IsSearchOf problem search →
    IsArenaOf problem arena →
    arena.trace ≡ search.arena.trace → arena.best.height ≤ search.arena.best.height →
    IsSearchOf problem (record search { arena = arena })
search-offered problem search arena is offered trace less = record {
  arena = offered;
  bounds = subst (λ t. HaveBounds problem t (heap_items search.opens.heap)) (sym trace) is.bounds;
  same_steps = is.same_steps;
  order = subst (λ t. KeepsBoundOrder problem t arena.best.height) (sym trace)
      (order-lower problem search.arena.trace search.arena.best.height arena.best.height less is.order);
}

-- ---- where a zone is cut

-- the first cut of a zone splits a range of it
pub first-parts : (problem : ProblemModel) (zone : List Range) → IsZone problem zone → (cut : CutAt) → IsFirstCut zone cut →
    PartsRange zone cut
first-parts problem zone is cut first =
    let range = is.ranges cut.span first.span.there in (
      first.span.there,
      omega (arith, first.class),
      elim (cases_lt (range_at zone cut.span).first (range_at zone cut.span).last) [
        | inl below ↦ omega (arith, below, first.class)
        | inr above ↦ absurd (first.span.more (omega (arith, above, range.0)))
      ],
    )

-- a cut that splits a range of a zone that stands is one
pub parts-cut : (problem : ProblemModel) (trace : List CutAt) (z : ℕ) (cut : CutAt) → Stands trace z →
    IsZone problem (zone_of problem trace z) →
    cut.zone ≡ z → PartsRange (zone_of problem trace z) cut → IsCut (whole_zone problem) trace cut
parts-cut problem trace z cut stands is top parts =
    let same = sym top in
    record {
      stands = subst (Stands trace) same stands;
      span = omega (arith, parts.0, is.spans, (whole-is_zone problem).spans);
      lower = subst (λ y. (range_at (zone_of problem trace y) cut.span).first ≤ cut.class) same parts.1;
      upper = subst (λ y. cut.class < (range_at (zone_of problem trace y) cut.span).last) same parts.2;
    }

-- a first cut of the zone that needs one is needed
pub needed-at : (problem : ProblemModel) (trace : List CutAt) (height z : ℕ) (cut : CutAt) → cut.zone ≡ z →
    IsFirstCut (zone_of problem trace z) cut → HasBoundBelow problem trace z height →
    (HaveSameSteps problem → HasAreaBelow problem trace z height) → IsNeededCut problem trace height cut
needed-at problem trace height z cut same first below by_area = record {
  first = subst (λ y. IsFirstCut (zone_of problem trace y) cut) (sym same) first;
  below = subst (λ y. HasBoundBelow problem trace y height) (sym same) below;
  below_by_area = subst (λ y. HaveSameSteps problem → HasAreaBelow problem trace y height) (sym same) by_area;
}

-- so is one that may be none
pub needed-some : (problem : ProblemModel) (trace : List CutAt) (height z : ℕ) (found : Option CutAt) →
    IfSome found (λ cut. cut.zone ≡ z) → IfSome found (IsFirstCut (zone_of problem trace z)) →
    IfSome found (λ cut. HasBoundBelow problem trace z height) →
    IfSome found (λ cut. HaveSameSteps problem → HasAreaBelow problem trace z height) →
    IfSome found (IsNeededCut problem trace height)
needed-some problem trace height z None same first below by_area = tt
needed-some problem trace height z (Some cut) same first below by_area =
    needed-at problem trace height z cut same first below by_area
