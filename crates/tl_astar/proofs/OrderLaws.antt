-- The order in which a best-first search cuts zones, cut by cut.
use Rattle.std.proofs.Common.{ℕ, ◌≤◌, List, [], ◌∷◌, ◌++◌, ◌⊎◌, inl, inr, get_or, sym, subst, arith}
use Rattle.std.proofs.lemmas.List.Elements.{All-head, All-push, All-contains}
use Rattle.tl_base.proofs.Members.{Contains-cases}
use Rattle.tl_problem.specs.declared.zone.Range.{Range}
use Rattle.tl_problem.specs.Problem.{ProblemModel}
use Rattle.tl_problem.specs.Sound.{IsSound}
use Rattle.tl_problem.specs.Zones.{whole_zone, InZone}
use Rattle.tl_problem.specs.Agreement.{LowIsHigh}
use Rattle.tl_problem.specs.Bounds.{HasNoWidths}
use Rattle.tl_problem.proofs.AreaLaws.{area-unique}
use Rattle.tl_problem.proofs.BoundLaws.{bound-unique}
use Rattle.tl_cert.specs.declared.trace.CutAt.{CutAt}
use Rattle.tl_cert.specs.Traces.{zone_of, IsZoneOf, Stands, IsCut, IsTraceOf, IsKeen}
use Rattle.tl_cert.specs.Worked.{IsBoundOf}
use Rattle.tl_cert.proofs.TraceLaws.{zone-old, zone-cases, stood-before, cuts-there, zones-are}
use Rattle.tl_cert.proofs.WorkedLaws.{agree-everywhere}
use Rattle.tl_solve.specs.Arenas.{HasBoundBelow}
use Rattle.tl_solve.specs.Logs.{Proves}
use Rattle.tl_solve.specs.Orders.{IsBelowPlacements}
use Rattle.tl_solve.proofs.OrderLaws.{at-each-push}
use Rattle.tl_astar.specs.Best.{HaveSameSteps, IsAreaOf, MayBeLower, IsOfLeastBound}
use Rattle.tl_astar.specs.inner.Frontier.{HasAreaBelow, IsUnderBounds, IsFrontier, IsCutProved, KeepsBoundOrder}
use Rattle.tl_astar.proofs.FrontierLaws.{bound-kept, lower_bound-more, upper_bound-more}

-- a zone has a bound or no widths
abbrev pub HasBoundOrNone : ProblemModel → List CutAt → ℕ → Type 0
HasBoundOrNone problem trace z = HasNoWidths (InZone problem (zone_of problem trace z)) ⊎
    ((bound : ℕ) × IsBoundOf problem trace z bound)

-- no cuts keep the order
pub order-none : (problem : ProblemModel) (height : ℕ) → KeepsBoundOrder problem [] height
order-none problem height = record {
  order = λ i d within. absurd (omega (arith, within));
  below = λ i d within. absurd (omega (arith, within));
  below_by_area = λ same i d within. absurd (omega (arith, within));
  proved = λ low i d within. absurd (omega (arith, within));
}

-- the order is kept for a lower placement too: fewer zones may hold a layout below it
pub order-lower : (problem : ProblemModel) (trace : List CutAt) (height best : ℕ) → best ≤ height →
    KeepsBoundOrder problem trace height → KeepsBoundOrder problem trace best
order-lower problem trace height best less keeps = record {
  order = λ i d within.
      let cut = keeps.order i d within in (
        cut.0,
        cut.1,
        λ z other stands has may. cut.2 z other stands has (record {
          classes = may.classes;
          area = λ low. let area = may.area low in (area.0, area.1, omega (arith, less, area.2));
        }),
      );
  below = keeps.below;
  below_by_area = keeps.below_by_area;
  proved = keeps.proved;
}

-- a zone proves less where it proves more
pub proves-less : (problem : ProblemModel) (zone : List Range) (least lower : ℕ) → lower ≤ least → Proves problem zone least →
    Proves problem zone lower
proves-less problem zone least lower less (inl none) = inl none
proves-less problem zone least lower less (inr (inl bound)) = inr (inl (bound.0, bound.1, omega (arith, less, bound.2)))
proves-less problem zone least lower less (inr (inr area)) = inr (inr (area.0, area.1, omega (arith, less, area.2)))

module _ (problem : ProblemModel) (sound : IsSound problem) (trace : List CutAt) (is : IsTraceOf problem trace) (cut : CutAt)
    (now : IsCut (whole_zone problem) trace cut) (height : ℕ) (zones : List ℕ)
    (before : IsFrontier problem trace height (cut.zone ∷ zones))
    (has : HasBoundBelow problem trace cut.zone height) (least : IsUnderBounds problem trace has.0 zones) where
  -- the bound of the zone that is cut is at most that of each zone that may hold a layout below the height
  is_least : (z other : ℕ) → Stands trace z → IsBoundOf problem trace z other →
      MayBeLower problem (zone_of problem trace z) height → has.0 ≤ other
  is_least z other stands bound may =
      let Among = InZone problem (zone_of problem trace z) in
      elim (before.others z stands) [
        | inl there ↦ elim (Contains-cases cut.zone zones z there) [
          | inl same ↦
              let here = subst (λ y. IsBoundOf problem trace y has.0) same has.1 in
              let equal = bound-unique problem Among has.0 other here bound in
              omega (arith, equal)
          | inr later ↦ All-contains (λ y. (b : ℕ) → IsBoundOf problem trace y b → has.0 ≤ b) zones z least later other bound
        ]
        | inr (inl (inl none)) ↦ absurd (none bound.some.0 bound.some.1)
        | inr (inl (inr (inl high))) ↦
            let equal = bound-unique problem Among high.0 other high.1 bound in
            omega (arith, equal, high.2, has.2)
        | inr (inl (inr (inr single))) ↦ absurd (may.classes single.0)
        | inr (inr shut) ↦
            let area = may.area shut.0 in
            let equal = area-unique problem Among area.0 shut.1.0 area.1 shut.1.1 in
            absurd (omega (arith, equal, area.2, shut.1.2))
      ]

  -- where `low` is `high`, each zone that stands proves the bound of the zone that is cut
  proved-now : LowIsHigh problem → ((z : ℕ) → IsZoneOf trace z → HasBoundOrNone problem trace z) → (z : ℕ) → Stands trace z →
      Proves problem (zone_of problem trace z) has.0
  proved-now low found z stands =
      elim (before.others z stands) [
        | inl there ↦ elim (found z stands.there) [
          | inl none ↦ inl none
          | inr bound ↦ elim (Contains-cases cut.zone zones z there) [
            | inl same ↦ inr (inl (has.0, subst (λ y. IsBoundOf problem trace y has.0) same has.1, omega arith))
            | inr later ↦
                let more = All-contains (λ y. (b : ℕ) → IsBoundOf problem trace y b →
                has.0 ≤ b) zones z least later bound.0 bound.1 in
                inr (inl (bound.0, bound.1, more))
          ]
        ]
        | inr (inl (inl none)) ↦ inl none
        | inr (inl (inr (inl high))) ↦ inr (inl (high.0, high.1, omega (arith, high.2, has.2)))
        | inr (inl (inr (inr single))) ↦
            absurd (agree-everywhere problem sound (zone_of problem trace z) (zones-are problem sound trace is z stands.there)
            low single.1)
        | inr (inr shut) ↦ inr (inr (shut.1.0, shut.1.1, omega (arith, shut.1.2, has.2)))
      ]

  -- what each zone proved, and the zone that is cut had as its bound or more, each zone proves after the cut
  proved-more : (bound : ℕ) → bound ≤ has.0 → ((z : ℕ) → Stands trace z → Proves problem (zone_of problem trace z) bound) →
      ((z : ℕ) → IsZoneOf (trace ++ cut ∷ []) z → HasBoundOrNone problem (trace ++ cut ∷ []) z) →
      (z : ℕ) → Stands (trace ++ cut ∷ []) z → Proves problem (zone_of problem (trace ++ cut ∷ []) z) bound
  proved-more bound less proves found z stands =
      elim (zone-cases (whole_zone problem) trace cut z stands.there) [
        | inl old ↦
            let stood = stood-before (whole_zone problem) trace cut z stands old in
            subst (λ zone. Proves problem zone bound) (sym (zone-old (whole_zone problem) trace cut z old)) (proves z stood.0)
        | inr (inl first) ↦ elim (found z stands.there) [
          | inl none ↦ inl none
          | inr part ↦
              let more = lower_bound-more problem sound trace is cut now has.0 part.0 has.1
              (subst (λ y. IsBoundOf problem (trace ++ cut ∷ []) y part.0) first part.1) in
              inr (inl (part.0, part.1, omega (arith, less, more)))
        ]
        | inr (inr second) ↦ elim (found z stands.there) [
          | inl none ↦ inl none
          | inr part ↦
              let more = upper_bound-more problem sound trace is cut now has.0 part.0 has.1
              (subst (λ y. IsBoundOf problem (trace ++ cut ∷ []) y part.0) second part.1) in
              inr (inl (part.0, part.1, omega (arith, less, more)))
        ]
      ]

  pub order-cut : KeepsBoundOrder problem trace height → (HaveSameSteps problem → HasAreaBelow problem trace cut.zone height) →
      IsKeen problem (whole_zone problem) trace height →
      ((z : ℕ) → IsZoneOf trace z → HasBoundOrNone problem trace z) →
      ((z : ℕ) → IsZoneOf (trace ++ cut ∷ []) z → HasBoundOrNone problem (trace ++ cut ∷ []) z) →
      KeepsBoundOrder problem (trace ++ cut ∷ []) height
  order-cut keeps small keen found found_more =
      let low : IsBelowPlacements problem trace has.0 = λ y placed there placement.
      let above = keen y placed there placement in omega (arith, above, has.2) in
      record {
        order = at-each-push (IsOfLeastBound problem height) trace cut keeps.order (has.0, has.1, is_least);
        below = at-each-push (λ cuts c. (bound : ℕ) × IsBoundOf problem cuts c.zone bound ×
            IsBelowPlacements problem cuts bound) trace cut
            keeps.below (has.0, has.1, low);
        below_by_area = λ same.
            let area = small same in
            at-each-push (λ cuts c. (a : ℕ) × IsAreaOf problem cuts c.zone a × IsBelowPlacements problem cuts a) trace cut
            (keeps.below_by_area same) (
              area.0,
              area.1,
              λ y placed there placement. let above = keen y placed there placement in
                  omega (arith, above, area.2),
            );
        proved = λ agree. All-push (IsCutProved problem (trace ++ cut ∷ [])) trace cut
            (λ i d within.
            let old = keeps.proved agree i d within in
            let there = cuts-there (whole_zone problem) trace is i d within in
            let Under = λ (z : ℕ). (other : ℕ) → IsBoundOf problem trace z other → old.0 ≤ other in
            let less = All-head Under cut.zone zones (before.rising i d within old.0 old.1) has.0 has.1 in (
              old.0,
              bound-kept problem sound trace is cut now (get_or trace i d).zone old.0 there old.1,
              proved-more old.0 less old.2 found_more,
            )) (
              has.0,
              bound-kept problem sound trace is cut now cut.zone has.0 now.stands.there has.1,
              proved-more has.0 (omega arith) (proved-now agree found) found_more,
            );
      }
