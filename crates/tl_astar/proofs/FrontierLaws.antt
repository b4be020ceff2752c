-- The zones that may still be cut, on the way of a best-first search.
use Rattle.std.proofs.Common.{◌≡◌, ◌≢◌, ℕ, ◌+◌, ◌*◌, ◌<◌, ◌≤◌, List, [], ◌∷◌, ◌++◌, inl, inr, length, get_or, sym, subst, arith}
use Rattle.std.specs.List.{Contains}
use Rattle.std.specs.List.Sorted.{IsPermutation}
use Rattle.std.proofs.lemmas.List.Elements.{All-nil, All-cons, All-head, All-tail, All-push}
use Rattle.std.proofs.lemmas.List.Kept.{AllPairs-cons}
use Rattle.std.proofs.lemmas.List.Sorted.{All-permutation, Contains-permutation}
use Rattle.tl_base.proofs.Members.{Contains-first, Contains-later, Contains-cases, Contains-none, AllPairs-head, AllPairs-tail}
use Rattle.tl_problem.specs.declared.zone.Range.{Range}
use Rattle.tl_problem.specs.Problem.{ProblemModel}
use Rattle.tl_problem.specs.Sound.{IsSound}
use Rattle.tl_problem.specs.Zones.{whole_zone, InZone}
use Rattle.tl_problem.specs.Bounds.{IsBound}
use Rattle.tl_problem.proofs.BoundLaws.{bound-unique}
use Rattle.tl_problem.proofs.SetLaws.{bound-within}
use Rattle.tl_problem.proofs.ZoneLaws.{whole-is_zone, lower-inside, upper-inside}
use Rattle.tl_cert.specs.declared.trace.CutAt.{CutAt}
use Rattle.tl_cert.specs.Traces.{zone_of, IsZoneOf, Stands, IsCut, IsTraceOf}
use Rattle.tl_cert.specs.Worked.{IsBoundOf}
use Rattle.tl_cert.proofs.TraceLaws.{zone-old, zone-lower, zone-upper, zone-cases, stands-old, stood-before, stands-new}
use Rattle.tl_cert.proofs.TraceLaws.{cuts-there, zones-are}
use Rattle.tl_solve.proofs.WalkLaws.{closed-lower}
use Rattle.tl_astar.specs.Best.{IsShut, AreShut}
use Rattle.tl_astar.specs.inner.Frontier.{IsUnderBounds, IsFrontier}
use Rattle.tl_astar.proofs.Lists.{apart-permuted}

-- a zone that is shut for a height is shut for a lower one
pub shut-lower : (problem : ProblemModel) (zone : List Range) (height best : ℕ) → best ≤ height → IsShut problem zone height →
    IsShut problem zone best
shut-lower problem zone height best less (inl closed) = inl (closed-lower problem zone height best less closed)
shut-lower problem zone height best less (inr area) = inr (area.0, (area.1.0, area.1.1, omega (arith, less, area.1.2)))

-- before any cut the whole may be cut
pub frontier-whole : (problem : ProblemModel) (height : ℕ) → IsFrontier problem [] height (0 ∷ [])
frontier-whole problem height = record {
  standing = All-cons (Stands []) 0 [] (record { there = omega arith; not_cut = All-nil (λ (c : CutAt). c.zone ≢ 0) })
      (All-nil (Stands []));
  once = AllPairs-cons (λ (a b : ℕ). a ≢ b) 0 [] (All-nil (λ (b : ℕ). 0 ≢ b))
      (λ i j d less within. absurd (omega (arith, within)));
  others = λ z stands.
      let first : 0 ≡ z = omega (arith, stands.there) in
      inl (subst (Contains (0 ∷ [])) first (Contains-first 0 []));
  rising = λ i d within. absurd (omega (arith, within));
}

module _ (problem : ProblemModel) (trace : List CutAt) where
  -- a lower placement shuts more zones
  pub frontier-lower : (height best : ℕ) (zones : List ℕ) → best ≤ height → IsFrontier problem trace height zones →
      IsFrontier problem trace best zones
  frontier-lower height best zones less is = record {
    standing = is.standing;
    once = is.once;
    others = λ z stands. elim (is.others z stands) [
      | inl has ↦ inl has
      | inr shut ↦ inr (shut-lower problem (zone_of problem trace z) height best less shut)
    ];
    rising = is.rising;
  }

  module _ (height : ℕ) where
    -- the order of the zones is free
    pub frontier-permuted : (xs ys : List ℕ) → IsPermutation xs ys → IsFrontier problem trace height xs →
        IsFrontier problem trace height ys
    frontier-permuted xs ys same is = record {
      standing = All-permutation (Stands trace) xs ys same is.standing;
      once = apart-permuted xs ys same is.once;
      others = λ z stands. elim (is.others z stands) [
        | inl has ↦ inl (Contains-permutation xs ys z same has)
        | inr shut ↦ inr shut
      ];
      rising = λ i d within bound has.
          All-permutation (λ z. (other : ℕ) → IsBoundOf problem trace z other →
          bound ≤ other) xs ys same (is.rising i d within bound has);
    }

    -- a zone that is shut may be left out
    pub frontier-shut : (z : ℕ) (zones : List ℕ) → IsFrontier problem trace height (z ∷ zones) →
        IsShut problem (zone_of problem trace z) height →
        IsFrontier problem trace height zones
    frontier-shut z zones is shut = record {
      standing = All-tail (Stands trace) z zones is.standing;
      once = AllPairs-tail (λ a b. a ≢ b) z zones is.once;
      others = λ y stands. elim (is.others y stands) [
        | inr other ↦ inr other
        | inl has ↦ elim (Contains-cases z zones y has) [
          | inl same ↦ inr (subst (λ n. IsShut problem (zone_of problem trace n) height) same shut)
          | inr later ↦ inl later
        ]
      ];
      rising = λ i d within bound has.
          All-tail (λ y. (other : ℕ) → IsBoundOf problem trace y other → bound ≤ other) z zones (is.rising i d within bound has);
    }

    -- where no zone is left, each that stands is shut
    pub frontier-end : IsFrontier problem trace height [] → AreShut problem trace height
    frontier-end is z stands = elim (is.others z stands) [ inl has ↦ absurd (Contains-none z has) | inr shut ↦ shut ]

-- ---- a further cut

module _ (problem : ProblemModel) (sound : IsSound problem) (trace : List CutAt) (is : IsTraceOf problem trace) (cut : CutAt)
    (now : IsCut (whole_zone problem) trace cut) where
  -- the bounds of the zones that were there stay
  pub bound-before : (z bound : ℕ) → IsZoneOf trace z → IsBoundOf problem (trace ++ cut ∷ []) z bound →
      IsBoundOf problem trace z bound
  bound-before z bound there = subst (λ zone. IsBound problem (InZone problem zone) bound)
      (zone-old (whole_zone problem) trace cut z there)

  pub bound-kept : (z bound : ℕ) → IsZoneOf trace z → IsBoundOf problem trace z bound →
      IsBoundOf problem (trace ++ cut ∷ []) z bound
  bound-kept z bound there = subst (λ zone. IsBound problem (InZone problem zone) bound)
      (sym (zone-old (whole_zone problem) trace cut z there))

  cut_there : cut.span < length (zone_of problem trace cut.zone)
  cut_there =
      let zone = zones-are problem sound trace is cut.zone now.stands.there in
      omega (arith, now.span, zone.spans, (whole-is_zone problem).spans)

  -- what is in a part is in the zone
  lower_within : (widths : List ℕ) → InZone problem (zone_of problem (trace ++ cut ∷ []) (2 * length trace + 1)) widths →
      InZone problem (zone_of problem trace cut.zone) widths
  lower_within widths inside =
      lower-inside problem sound (zone_of problem trace cut.zone) (zones-are problem sound trace is cut.zone now.stands.there)
      cut.span cut.class
      cut_there now.lower now.upper widths (subst (λ zone. InZone problem zone widths)
      (zone-lower (whole_zone problem) trace cut) inside)

  upper_within : (widths : List ℕ) → InZone problem (zone_of problem (trace ++ cut ∷ []) (2 * length trace + 2)) widths →
      InZone problem (zone_of problem trace cut.zone) widths
  upper_within widths inside =
      upper-inside problem sound (zone_of problem trace cut.zone) (zones-are problem sound trace is cut.zone now.stands.there)
      cut.span cut.class
      cut_there now.lower now.upper widths (subst (λ zone. InZone problem zone widths)
      (zone-upper (whole_zone problem) trace cut) inside)

  -- so the bound of a part is no less
  pub lower_bound-more : (bound other : ℕ) → IsBoundOf problem trace cut.zone bound →
      IsBoundOf problem (trace ++ cut ∷ []) (2 * length trace + 1) other → bound ≤ other
  lower_bound-more bound other has part =
      bound-within problem sound (InZone problem (zone_of problem (trace ++ cut ∷ []) (2 * length trace + 1)))
      (InZone problem (zone_of problem trace cut.zone)) lower_within (λ widths inside. inside.page) other bound part has

  pub upper_bound-more : (bound other : ℕ) → IsBoundOf problem trace cut.zone bound →
      IsBoundOf problem (trace ++ cut ∷ []) (2 * length trace + 2) other → bound ≤ other
  upper_bound-more bound other has part =
      bound-within problem sound (InZone problem (zone_of problem (trace ++ cut ∷ []) (2 * length trace + 2)))
      (InZone problem (zone_of problem trace cut.zone)) upper_within (λ widths inside. inside.page) other bound part has

  module _ (height : ℕ) (zones : List ℕ) (before : IsFrontier problem trace height (cut.zone ∷ zones))
      (found : (bound : ℕ) × IsBoundOf problem trace cut.zone bound) where
    -- what is at most the bounds of the zone and of all others is at most those of its parts and of the others
    under-more : (bound : ℕ) → IsUnderBounds problem trace bound (cut.zone ∷ zones) →
        IsUnderBounds problem (trace ++ cut ∷ []) bound ((2 * length trace + 1) ∷ (2 * length trace + 2) ∷ zones)
    under-more bound under =
        let Old = λ (z : ℕ). (other : ℕ) → IsBoundOf problem trace z other → bound ≤ other in
        let New = λ (z : ℕ). (other : ℕ) → IsBoundOf problem (trace ++ cut ∷ []) z other → bound ≤ other in
        let here : bound ≤ found.0 = All-head Old cut.zone zones under found.0 found.1 in
        let rest = All-tail Old cut.zone zones under in
        let standing = All-tail (Stands trace) cut.zone zones before.standing in
        All-cons New (2 * length trace + 1) ((2 * length trace + 2) ∷ zones)
        (λ other part. let more = lower_bound-more found.0 other found.1 part in omega (arith, here, more))
        (All-cons New (2 * length trace + 2) zones
        (λ other part. let more = upper_bound-more found.0 other found.1 part in omega (arith, here, more))
        (λ k d within other has.
        rest k d within other (bound-before (get_or zones k d) other (standing k d within).there has)))

    pub frontier-cut : IsUnderBounds problem trace found.0 zones →
        IsFrontier problem (trace ++ cut ∷ []) height ((2 * length trace + 1) ∷ (2 * length trace + 2) ∷ zones)
    frontier-cut least =
        let low = 2 * length trace + 1 in
        let high = 2 * length trace + 2 in
        let standing = All-tail (Stands trace) cut.zone zones before.standing in
        let apart = AllPairs-head (λ (a b : ℕ). a ≢ b) cut.zone zones before.once in
        let Old = λ (z : ℕ). (other : ℕ) → IsBoundOf problem trace z other → found.0 ≤ other in
        record {
          standing = All-cons (Stands (trace ++ cut ∷ [])) low (high ∷ zones)
              (stands-new (whole_zone problem) trace cut is now low (omega arith) (omega arith))
              (All-cons (Stands (trace ++ cut ∷ [])) high zones
              (stands-new (whole_zone problem) trace cut is now high (omega arith) (omega arith))
              (λ k d within. stands-old (whole_zone problem) trace cut (get_or zones k d) (standing k d within)
              (apart k d within)));
          once = AllPairs-cons (λ (a b : ℕ). a ≢ b) low (high ∷ zones)
              (All-cons (λ (b : ℕ). low ≢ b) high zones (λ same. omega (arith, same))
              (λ k d within same. omega (arith, same, (standing k d within).there)))
              (AllPairs-cons (λ (a b : ℕ). a ≢ b) high zones
              (λ k d within same. omega (arith, same, (standing k d within).there))
              (AllPairs-tail (λ (a b : ℕ). a ≢ b) cut.zone zones before.once));
          others = λ z stands. elim (zone-cases (whole_zone problem) trace cut z stands.there) [
            | inr (inl first) ↦ inl (subst (Contains (low ∷ high ∷ zones)) (sym first) (Contains-first low (high ∷ zones)))
            | inr (inr second) ↦ inl (subst (Contains (low ∷ high ∷ zones)) (sym second)
                (Contains-later low (high ∷ zones) high (Contains-first high zones)))
            | inl old ↦
                let stood = stood-before (whole_zone problem) trace cut z stands old in
                elim (before.others z stood.0) [
                  | inr shut ↦ inr (subst (λ zone. IsShut problem zone height)
                      (sym (zone-old (whole_zone problem) trace cut z old)) shut)
                  | inl has ↦ elim (Contains-cases cut.zone zones z has) [
                    | inl same ↦ absurd (stood.1 same)
                    | inr later ↦ inl (Contains-later low (high ∷ zones) z (Contains-later high zones z later))
                  ]
                ]
          ];
          rising = All-push (λ (c : CutAt). (bound : ℕ) → IsBoundOf problem (trace ++ cut ∷ []) c.zone bound →
              IsUnderBounds problem (trace ++ cut ∷ []) bound (low ∷ high ∷ zones)) trace cut
              (λ i d within bound has.
              let there = cuts-there (whole_zone problem) trace is i d within in
              under-more bound (before.rising i d within bound (bound-before (get_or trace i d).zone bound there has)))
              (λ bound has.
              let old = bound-before cut.zone bound now.stands.there has in
              let same = bound-unique problem (InZone problem (zone_of problem trace cut.zone)) bound found.0 old found.1 in
              under-more bound (subst (λ b. IsUnderBounds problem trace b (cut.zone ∷ zones)) (sym same)
              (All-cons Old cut.zone zones
              (λ other has_other.
              let equal = bound-unique problem (InZone problem (zone_of problem trace cut.zone))
              found.0 other found.1 has_other in
              omega (arith, equal))
              least)));
        }
