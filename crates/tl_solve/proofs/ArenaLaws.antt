-- The arena of a problem when it is opened, and after a further cut.
use Rattle.std.proofs.Common.{◌≡◌, ℕ, ◌+◌, ◌*◌, ◌<◌, ◌≤◌, List, [], ◌∷◌, ◌++◌, inl, inr, length, get_or, Option, Some, None, IsSome, MatchOption, refl, sym, ap}
use Rattle.std.proofs.Common.{◌∙◌, subst, arith}
use Rattle.std.proofs.Common.{append_assoc, length-append}
use Rattle.std.specs.List.{All}
use Rattle.std.proofs.lemmas.List.Elements.{All-nil, All-push}
use Rattle.tl_base.specs.declared.limits.TheConstants.{MAX_BUDGET}
use Rattle.tl_problem.specs.declared.placed.Placed.{Placed}
use Rattle.tl_problem.specs.declared.zone.Range.{Range}
use Rattle.tl_problem.specs.Problem.{ProblemModel}
use Rattle.tl_problem.specs.Sound.{IsSound}
use Rattle.tl_problem.specs.Zones.{whole_zone, IsZone, InZone, lower_part, upper_part}
use Rattle.tl_problem.specs.Bounds.{HasNoWidths, IsBound}
use Rattle.tl_problem.specs.Layouts.{GiveHigh}
use Rattle.tl_problem.specs.Placements.{AreLeast, HasNoLower, IsPlacement, IsPlacementIn, IsOpening}
use Rattle.tl_problem.specs.Tight.{IsTight}
use Rattle.tl_problem.specs.Works.{IsWorkOf}
use Rattle.tl_problem.proofs.BoundLaws.{bound-below_placement}
use Rattle.tl_problem.proofs.SetLaws.{opening-in_whole, bound-within}
use Rattle.tl_problem.proofs.TightLaws.{least-total, least-unique}
use Rattle.tl_problem.proofs.ZoneLaws.{whole-is_zone}
use Rattle.tl_cert.specs.declared.trace.CutAt.{CutAt}
use Rattle.tl_cert.specs.Traces.{with_parts, zones_of, zone_of, IsZoneOf, IsCut, IsTraceOf, IsKeen}
use Rattle.tl_cert.proofs.TraceLaws.{zone-old, zone-lower, zone-upper, zone-cases, cuts-there, zones-are, zones-push, trace-push}
use Rattle.tl_solve.specs.declared.arena.Arena.{Arena}
use Rattle.tl_solve.specs.Arenas.{IsBoundFound, AreBoundsOf, HasBoundBelow, IsLookedAt, IsKnownFor, IsLowered, IsArenaOf}
use Rattle.tl_solve.proofs.ZoneLists.{zones-count, zone-item, found-more}

-- a lower placement is below what the old one was
pub lowered-le : (old new : Placed) → IsLowered old new → new.height ≤ old.height
lowered-le old new (inl same) = omega (arith, ap (λ (p : Placed). p.height) same)
lowered-le old new (inr less) = omega (arith, less)

pub lowered-next : (first second third : Placed) → IsLowered first second → IsLowered second third → IsLowered first third
lowered-next first second third (inl same) (inl again) = inl (again ∙ same)
lowered-next first second third (inl same) (inr less) = inr (omega (arith, less, ap (λ (p : Placed). p.height) same))
lowered-next first second third (inr less) (inl same) = inr (omega (arith, less, ap (λ (p : Placed). p.height) same))
lowered-next first second third (inr less) (inr more) = inr (omega (arith, less, more))

-- a zone that was looked at for a height was so for a lower one
pub looked-lower : (problem : ProblemModel) (zone : List Range) (height best : ℕ) → best ≤ height →
    IsLookedAt problem zone height →
    IsLookedAt problem zone best
looked-lower problem zone height best less (inl none) = inl none
looked-lower problem zone height best less (inr (inl high)) = inr (inl (high.0, high.1, omega (arith, less, high.2)))
looked-lower problem zone height best less (inr (inr found)) = inr (inr (
  found.0,
  found.1,
  λ heights give. omega (arith, less, found.2 heights give),
))

-- under the widths of a placement no rows are lower than its own
pub no_lower-placement : (problem : ProblemModel) (placed : Placed) (height : ℕ) → IsPlacement problem placed →
    height ≤ placed.height → HasNoLower problem placed.widths height
no_lower-placement problem placed height is upto heights give =
    let less = least-total problem.spacing.row_gap problem.spacing.lines (GiveHigh problem placed.widths) placed.heights
    heights is.rows give (is.rows.kind.rows ∙ sym give.rows) in
    omega (arith, less, is.height, upto)

-- a zone whose placement is no lower was looked at
pub looked-placed : (problem : ProblemModel) (zone : List Range) (placed : Placed) (height : ℕ) →
    IsPlacementIn problem (InZone problem zone) placed → height ≤ placed.height → IsLookedAt problem zone height
looked-placed problem zone placed height is upto =
    inr (inr (placed.widths, is.columns, no_lower-placement problem placed height is.placement upto))

-- a zone that was looked at has no lower placement
pub looked-keen : (problem : ProblemModel) → IsSound problem → (zone : List Range) (height : ℕ) → IsLookedAt problem zone height →
    (placed : Placed) → IsPlacementIn problem (InZone problem zone) placed → height ≤ placed.height
looked-keen problem sound zone height (inl none) placed is = absurd (none placed.widths is.columns.kind)
looked-keen problem sound zone height (inr (inl high)) placed is =
    let below = bound-below_placement problem sound (InZone problem zone) high.0 placed high.1 is.columns.kind is.placement in
    omega (arith, below, high.2)
looked-keen problem sound zone height (inr (inr found)) placed is =
    let same = least-unique problem.spacing.gap (InZone problem zone) placed.widths found.0
    (is.placement.page.columns ∙ sym found.1.kind.page.columns) is.columns found.1 in
    let give = subst (λ widths. GiveHigh problem widths placed.heights) same is.placement.rows.kind in
    omega (arith, found.2 placed.heights give, is.placement.height)

-- the widths at the least positions of a zone that was looked at are known for each part of it
pub known-part : (problem : ProblemModel) → IsSound problem → (zone part : List Range) (widths : List ℕ) (height : ℕ) →
    ((ws : List ℕ) → InZone problem part ws → InZone problem zone ws) → IsLookedAt problem zone height →
    AreLeast problem.spacing.gap (InZone problem zone) widths → IsKnownFor problem part widths height
known-part problem sound zone part widths height within (inl none) least bound is below =
    absurd (none is.some.0 (within is.some.0 is.some.1))
known-part problem sound zone part widths height within (inr (inl high)) least bound is below =
    let less = bound-within problem sound (InZone problem part) (InZone problem zone) within (λ ws inside. inside.page) bound high.0
    is high.1 in
    absurd (omega (arith, less, high.2, below))
known-part problem sound zone part widths height within (inr (inr found)) least bound is below =
    let same = least-unique problem.spacing.gap (InZone problem zone) found.0 widths
    (found.1.kind.page.columns ∙ sym least.kind.page.columns) found.1 least in
    subst (λ ws. HasNoLower problem ws height) same found.2

-- a zone with widths has some at its least positions
pub least-some : (problem : ProblemModel) (zone : List Range) (found : Option (List ℕ)) (bound : ℕ) →
    IsBound problem (InZone problem zone) bound →
    MatchOption found (HasNoWidths (InZone problem zone)) (AreLeast problem.spacing.gap (InZone problem zone)) → IsSome found
least-some problem zone None bound is none = absurd (none is.some.0 is.some.1)
least-some problem zone (Some widths) bound is least = refl

-- and so they are for a lower height
pub known-lower : (problem : ProblemModel) (part : List Range) (widths : List ℕ) (height best : ℕ) → best ≤ height →
    IsKnownFor problem part widths height → IsKnownFor problem part widths best
known-lower problem part widths height best less known bound is below heights give =
    omega (arith, less, known bound is (omega (arith, below, less)) heights give)

-- ---- before any cut

module _ (problem : ProblemModel) (sound : IsSound problem) where
  -- the opening is the placement in the one zone
  open-looked : (opening : Placed) → IsOpening problem opening → (z : ℕ) → IsZoneOf [] z →
      IsLookedAt problem (zone_of problem [] z) opening.height
  open-looked opening is z there =
      let first : z ≡ 0 = omega (arith, there) in
      subst (λ n. IsLookedAt problem (zone_of problem [] n) opening.height) (sym first)
      (looked-placed problem (whole_zone problem) opening opening.height (opening-in_whole problem sound opening is) (omega arith))

  open-bounds : (found : Option ℕ) → IsBoundFound problem (whole_zone problem) found → AreBoundsOf problem [] (found ∷ [])
  open-bounds found is = record {
    count = omega arith;
    each = λ z d within.
        let first : z ≡ 0 = omega (arith, within) in
        subst (λ n. IsBoundFound problem (zone_of problem [] n) (get_or (found ∷ []) n d)) (sym first) is;
  }

  pub arena-opened : (arena : Arena) (found : Option ℕ) → IsOpening problem arena.best → IsTight problem arena.best →
      IsWorkOf problem arena.work → arena.trace ≡ [] →
      arena.zones.items ≡ whole_zone problem ∷ [] → arena.bounds.items ≡ found ∷ [] →
      IsBoundFound problem (whole_zone problem) found →
      arena.opening ≡ arena.best.height → IsArenaOf problem arena
  arena-opened arena found is tight work none zones bounds bound height = record {
    work = work;
    trace_of = subst (IsTraceOf problem) (sym none) (λ i d within. absurd (omega (arith, within)));
    few = omega (arith, ap length none);
    zones = zones ∙ ap (zones_of (whole_zone problem)) (sym none);
    bounds = subst (λ t. AreBoundsOf problem t arena.bounds.items) (sym none)
        (subst (AreBoundsOf problem []) (sym bounds) (open-bounds found bound));
    cut_zones = subst (λ t. All (λ cut. HasBoundBelow problem t cut.zone arena.opening) t) (sym none)
        (All-nil (λ (cut : CutAt). HasBoundBelow problem [] cut.zone arena.opening));
    opening = (arena.best, is, sym height, inl refl);
    tight = tight;
    looked = subst (λ t. (z : ℕ) → IsZoneOf t z → IsLookedAt problem (zone_of problem t z) arena.best.height) (sym none)
        (open-looked arena.best is);
  }

-- ---- after a further cut

module _ (problem : ProblemModel) (trace : List CutAt) (is : IsTraceOf problem trace) (cut : CutAt)
    (now : IsCut (whole_zone problem) trace cut) where
  -- the bound of a zone that was there stays
  pub bound_below-more : (z height : ℕ) → IsZoneOf trace z → HasBoundBelow problem trace z height →
      HasBoundBelow problem (trace ++ cut ∷ []) z height
  bound_below-more z height there has = (
    has.0,
    subst (λ zone. IsBound problem (InZone problem zone) has.0) (sym (zone-old (whole_zone problem) trace cut z there)) has.1,
    has.2,
  )

  pub cut_zones-more : (height : ℕ) → All (λ c. HasBoundBelow problem trace c.zone height) trace →
      HasBoundBelow problem trace cut.zone height →
      All (λ c. HasBoundBelow problem (trace ++ cut ∷ []) c.zone height) (trace ++ cut ∷ [])
  cut_zones-more height before below =
      All-push (λ c. HasBoundBelow problem (trace ++ cut ∷ []) c.zone height) trace cut
      (λ i d within. bound_below-more (get_or trace i d).zone height (cuts-there (whole_zone problem) trace is i d within)
      (before i d within))
      (bound_below-more cut.zone height now.stands.there below)

  module _ (low high : List Range) (low_is : low ≡ lower_part (zone_of problem trace cut.zone) cut.span cut.class)
      (high_is : high ≡ upper_part (zone_of problem trace cut.zone) cut.span cut.class) where
    low_zone : low ≡ zone_of problem (trace ++ cut ∷ []) (2 * length trace + 1)
    low_zone = low_is ∙ sym (zone-lower (whole_zone problem) trace cut)

    high_zone : high ≡ zone_of problem (trace ++ cut ∷ []) (2 * length trace + 2)
    high_zone = high_is ∙ sym (zone-upper (whole_zone problem) trace cut)

    pub zones-two : (zones : List (List Range)) → zones ≡ zones_of (whole_zone problem) trace →
        (zones ++ low ∷ []) ++ high ∷ [] ≡ zones_of (whole_zone problem) (trace ++ cut ∷ [])
    zones-two zones are =
        let parts : zones ++ low ∷ high ∷ [] ≡ with_parts (zones_of (whole_zone problem) trace) cut =
        ap (λ zs. zs ++ low ∷ high ∷ []) are
        ∙ ap (λ l. zones_of (whole_zone problem) trace ++ l ∷ high ∷ []) low_is
        ∙ ap (λ h. zones_of (whole_zone problem) trace ++ lower_part (zone_of problem trace cut.zone)
        cut.span cut.class ∷ h ∷ []) high_is in
        append_assoc zones (low ∷ []) (high ∷ []) ∙ parts ∙ sym (zones-push (whole_zone problem ∷ []) trace cut)

    pub bounds-two : (bounds : List (Option ℕ)) (first second : Option ℕ) → AreBoundsOf problem trace bounds →
        IsBoundFound problem low first →
        IsBoundFound problem high second → AreBoundsOf problem (trace ++ cut ∷ []) ((bounds ++ first ∷ []) ++ second ∷ [])
    bounds-two bounds first second are one other =
        let more = trace ++ cut ∷ [] in
        let n = length bounds in
        let number : n ≡ 2 * length trace + 1 = are.count in
        let next : n + 1 ≡ 2 * length trace + 2 = omega (arith, number) in
        let old : (z : ℕ) (d : Option ℕ) → z < n → IsBoundFound problem (zone_of problem more z) (get_or bounds z d) =
        λ z d within. subst (λ zone. IsBoundFound problem zone (get_or bounds z d))
        (sym (zone-old (whole_zone problem) trace cut z (omega (arith, within, number)))) (are.each z d within) in
        let with_first = found-more problem more bounds n first refl old
        (subst (λ m. IsBoundFound problem (zone_of problem more m) first) (sym number)
        (subst (λ zone. IsBoundFound problem zone first) low_zone one)) in
        let with_both = found-more problem more (bounds ++ first ∷ []) (n + 1) second (length-append bounds (first ∷ []))
        with_first
        (subst (λ m. IsBoundFound problem (zone_of problem more m) second) (sym next)
        (subst (λ zone. IsBoundFound problem zone second) high_zone other)) in
        let count = length-append (bounds ++ first ∷ []) (second ∷ []) in
        let before = length-append bounds (first ∷ []) in
        record {
          count = omega (arith, count, before, number, length-append trace (cut ∷ []));
          each = λ z d within. with_both z d (omega (arith, within, count, before));
        }

    -- both parts are looked at
    pub looked-two : (height best : ℕ) → ((z : ℕ) → IsZoneOf trace z → IsLookedAt problem (zone_of problem trace z) height) →
        best ≤ height →
        IsLookedAt problem low best → IsLookedAt problem high best →
        (z : ℕ) → IsZoneOf (trace ++ cut ∷ []) z → IsLookedAt problem (zone_of problem (trace ++ cut ∷ []) z) best
    looked-two height best looked less one other z there =
        elim (zone-cases (whole_zone problem) trace cut z there) [
          | inl old ↦ subst (λ zone. IsLookedAt problem zone best) (sym (zone-old (whole_zone problem) trace cut z old))
              (looked-lower problem (zone_of problem trace z) height best less (looked z old))
          | inr (inl first) ↦ subst (λ zone. IsLookedAt problem zone best)
              (low_zone ∙ ap (λ n. zone_of problem (trace ++ cut ∷ []) n) (sym first)) one
          | inr (inr second) ↦ subst (λ zone. IsLookedAt problem zone best)
              (high_zone ∙ ap (λ n. zone_of problem (trace ++ cut ∷ []) n) (sym second)) other
        ]

-- the arena after a cut, by what the cut changes
pub record IsCutInto (problem : ProblemModel) (old new : Arena) (cut : CutAt) (low high : List Range)
    (first second : Option ℕ) : Type 0 where
  pub low_is : low ≡ lower_part (zone_of problem old.trace cut.zone) cut.span cut.class
  pub high_is : high ≡ upper_part (zone_of problem old.trace cut.zone) cut.span cut.class
  pub trace : new.trace ≡ old.trace ++ cut ∷ []
  pub zones : new.zones.items ≡ (old.zones.items ++ low ∷ []) ++ high ∷ []
  pub bounds : new.bounds.items ≡ (old.bounds.items ++ first ∷ []) ++ second ∷ []
  pub first_is : IsBoundFound problem low first
  pub second_is : IsBoundFound problem high second
  pub first_looked : IsLookedAt problem low new.best.height
  pub second_looked : IsLookedAt problem high new.best.height
  pub lowered : IsLowered old.best new.best
  pub tight : IsTight problem new.best
  pub opening : new.opening ≡ old.opening
  pub work : IsWorkOf problem new.work

pub arena-more : (problem : ProblemModel) (old new : Arena) (cut : CutAt) (low high : List Range) (first second : Option ℕ) →
    IsArenaOf problem old →
    IsCut (whole_zone problem) old.trace cut → HasBoundBelow problem old.trace cut.zone old.opening →
    length old.trace < MAX_BUDGET →
    IsCutInto problem old new cut low high first second → IsArenaOf problem new
arena-more problem old new cut low high first second is now below few into =
    let more = old.trace ++ cut ∷ [] in
    let back = sym into.trace in
    let height = sym into.opening in
    let best = is.opening in
    record {
      work = into.work;
      trace_of = subst (IsTraceOf problem) back (trace-push (whole_zone problem) old.trace cut is.trace_of now);
      few = omega (arith, few, ap length into.trace, length-append old.trace (cut ∷ []));
      zones = into.zones ∙ zones-two problem old.trace is.trace_of cut now low high into.low_is into.high_is old.zones.items
          is.zones
          ∙ ap (zones_of (whole_zone problem)) back;
      bounds = subst (λ t. AreBoundsOf problem t new.bounds.items) back (subst (AreBoundsOf problem more) (sym into.bounds)
          (bounds-two problem old.trace is.trace_of cut now low high into.low_is into.high_is old.bounds.items first second
          is.bounds
          into.first_is into.second_is));
      cut_zones = subst (λ t. All (λ c. HasBoundBelow problem t c.zone new.opening) t) back
          (subst (λ h. All (λ c. HasBoundBelow problem more c.zone h) more) height
          (cut_zones-more problem old.trace is.trace_of cut now old.opening is.cut_zones below));
      opening = (best.0, best.1, best.2 ∙ height, lowered-next best.0 old.best new.best best.3 into.lowered);
      tight = into.tight;
      looked = subst (λ t. (z : ℕ) → IsZoneOf t z → IsLookedAt problem (zone_of problem t z) new.best.height) back
          (looked-two problem old.trace is.trace_of cut now low high into.low_is into.high_is old.best.height new.best.height
          is.looked
          (lowered-le old.best new.best into.lowered) into.first_looked into.second_looked);
    }

-- ---- what it has of each zone

-- an arena that was looked at is keen
pub arena-keen : (problem : ProblemModel) → IsSound problem → (arena : Arena) → IsArenaOf problem arena →
    IsKeen problem (whole_zone problem) arena.trace arena.best.height
arena-keen problem sound arena is z placed there placement =
    looked-keen problem sound (zone_of problem arena.trace z) arena.best.height (is.looked z there) placed placement

-- the zones of the arena are those of its trace, and zones of the problem
pub arena-item : (problem : ProblemModel) (arena : Arena) → IsArenaOf problem arena → (z : ℕ) (item : List Range) →
    IsZoneOf arena.trace z →
    item ≡ get_or arena.zones.items z item → item ≡ zone_of problem arena.trace z
arena-item problem arena is z item there at =
    let count = zones-count (whole_zone problem) arena.trace arena.zones.items is.zones in
    zone-item problem arena.trace arena.zones.items z item is.zones (omega (arith, there, count)) at

pub arena-zone : (problem : ProblemModel) (arena : Arena) → IsArenaOf problem arena → (z : ℕ) → IsZoneOf arena.trace z →
    IsZone problem (zone_of problem arena.trace z)
arena-zone problem arena is z there = zones-are problem is.work.sound arena.trace is.trace_of z there

-- the span of a cut is one of the zone that is cut
pub cut-span : (problem : ProblemModel) (arena : Arena) → IsArenaOf problem arena → (cut : CutAt) →
    IsCut (whole_zone problem) arena.trace cut →
    cut.span < length (zone_of problem arena.trace cut.zone)
cut-span problem arena is cut now =
    omega (arith, now.span, (arena-zone problem arena is cut.zone now.stands.there).spans, (whole-is_zone problem).spans)

-- a tight placement that is lower may become the best
pub arena-better : (problem : ProblemModel) (arena : Arena) (best : Placed) → IsArenaOf problem arena → IsTight problem best →
    IsLowered arena.best best →
    IsArenaOf problem (record arena { best = best })
arena-better problem arena best is tight lowered = record {
  work = is.work;
  trace_of = is.trace_of;
  few = is.few;
  zones = is.zones;
  bounds = is.bounds;
  cut_zones = is.cut_zones;
  opening = (is.opening.0, is.opening.1, is.opening.2, lowered-next is.opening.0 arena.best best is.opening.3 lowered);
  tight = tight;
  looked = λ z there. looked-lower problem (zone_of problem arena.trace z) arena.best.height best.height
      (lowered-le arena.best best lowered)
      (is.looked z there);
}
