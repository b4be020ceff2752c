-- The two parts of a zone that is cut at its first span of more than one class, after the first of them: the layouts in
-- them, and their class vectors, of which those of the lower part come before those of the upper.
use Rattle.std.proofs.Common.{ℕ, ◌+◌, ◌<◌, ◌≤◌, List, ◌⊎◌, inl, inr, length, get_or, set, sym, subst, arith, length-set}
use Rattle.std.proofs.lemmas.Bool.{cases_lt}
use Rattle.std.proofs.lemmas.List.{get_or-set_same, get_or-set_other}
use Rattle.tl_problem.specs.declared.zone.Range.{Range}
use Rattle.tl_problem.specs.Problem.{ProblemModel}
use Rattle.tl_problem.specs.Sound.{IsSound}
use Rattle.tl_problem.specs.Zones.{range, range_at, IsZone, HasVector, InZone, IsFirstOpen}
use Rattle.tl_problem.proofs.ZoneLaws.{cases_eq, cut-cases, lower-inside, upper-inside, lower-is_zone, upper-is_zone}
use Rattle.tl_tidy.specs.Classes.{zone_of_vector, IsBefore}
use Rattle.tl_tidy.specs.Needs.{ZoneHoldsLow, first_part, rest_part}
use Rattle.tl_tidy.specs.inner.Walk.{HoldsNone, IsFirstIn}
use Rattle.tl_tidy.proofs.Vectors.{holds-within, vector-inside}

-- ---- vectors of a zone with another range at a span

-- what a vector's class lies in
abbrev InClasses : List ℕ → ℕ → Range → Type 0
InClasses vector s r = (r.first ≤ get_or vector s 0) × (get_or vector s 0 ≤ r.last)

module _ (zone : List Range) (s : ℕ) (r : Range) (vector : List ℕ) (there : s < length zone) where
  vector-set : InClasses vector s r → HasVector zone vector → HasVector (set zone s r) vector
  vector-set here has t within =
      elim (cases_eq t s) [
        | inl same ↦ subst (λ u. InClasses vector u (range_at (set zone s r) u)) (sym same)
            (subst (InClasses vector s) (sym (get_or-set_same zone s r (range 0 0) there)) here)
        | inr apart ↦ subst (InClasses vector t) (sym (get_or-set_other zone s t r (range 0 0) apart))
            (has t (omega (arith, within, length-set zone s r)))
      ]

  vector-at : HasVector (set zone s r) vector → InClasses vector s r
  vector-at has = subst (InClasses vector s) (get_or-set_same zone s r (range 0 0) there)
      (has s (omega (arith, there, length-set zone s r)))

  vector-unset : (range_at zone s).first ≤ r.first → r.last ≤ (range_at zone s).last → HasVector (set zone s r) vector →
      HasVector zone vector
  vector-unset from upto has t within =
      elim (cases_eq t s) [
        | inl same ↦
            let here = vector-at has in
            subst (λ u. InClasses vector u (range_at zone u)) (sym same) (omega (arith, here.0, from), omega (arith, here.1, upto))
        | inr apart ↦ subst (InClasses vector t) (get_or-set_other zone s t r (range 0 0) apart)
            (has t (omega (arith, within, length-set zone s r)))
      ]

-- ---- the cut

module _ (problem : ProblemModel) (sound : IsSound problem) (height : ℕ) (zone : List Range) (is : IsZone problem zone) (s : ℕ)
    (opens : IsFirstOpen zone s) where
  pub some-classes : (range_at zone s).first < (range_at zone s).last
  some-classes =
      let inside = is.ranges s opens.there in
      elim (cases_lt (range_at zone s).first (range_at zone s).last) [
        | inl less ↦ less
        | inr more ↦ absurd (opens.more (omega (arith, more, inside.0)))
      ]

  pub first-zone : IsZone problem (first_part zone s)
  first-zone = lower-is_zone problem sound zone is s (range_at zone s).first opens.there (omega arith) some-classes

  pub rest-zone : IsZone problem (rest_part zone s)
  rest-zone = upper-is_zone problem sound zone is s (range_at zone s).first opens.there (omega arith) some-classes

  pub first-holds : ZoneHoldsLow problem height (first_part zone s) → ZoneHoldsLow problem height zone
  first-holds = holds-within problem height (InZone problem (first_part zone s)) (InZone problem zone)
      (lower-inside problem sound zone is s (range_at zone s).first opens.there (omega arith) some-classes)

  pub rest-holds : ZoneHoldsLow problem height (rest_part zone s) → ZoneHoldsLow problem height zone
  rest-holds = holds-within problem height (InZone problem (rest_part zone s)) (InZone problem zone)
      (upper-inside problem sound zone is s (range_at zone s).first opens.there (omega arith) some-classes)

  -- where neither part holds a layout that is low enough the zone holds none
  pub parts-none : HoldsNone problem height (first_part zone s) → HoldsNone problem height (rest_part zone s) →
      HoldsNone problem height zone
  parts-none first rest holds =
      elim (cut-cases problem sound zone is s (range_at zone s).first opens.there (omega arith) some-classes holds.widths
      holds.among) [
        | inl low ↦ first (record {
          widths = holds.widths;
          heights = holds.heights;
          among = low;
          layout = holds.layout;
          low = holds.low;
        })
        | inr high ↦ rest (record {
          widths = holds.widths;
          heights = holds.heights;
          among = high;
          layout = holds.layout;
          low = holds.low;
        })
      ]

  -- ---- vectors

  first-vector : (vector : List ℕ) → HasVector (first_part zone s) vector → HasVector zone vector
  first-vector vector has = vector-unset zone s (range (range_at zone s).first (range_at zone s).first) vector opens.there
      (omega arith) (omega (arith, some-classes)) has

  rest-vector : (vector : List ℕ) → HasVector (rest_part zone s) vector → HasVector zone vector
  rest-vector vector has = vector-unset zone s (range ((range_at zone s).first + 1) (range_at zone s).last) vector opens.there
      (omega arith) (omega arith) has

  vector-cases : (vector : List ℕ) → HasVector zone vector →
      HasVector (first_part zone s) vector ⊎ HasVector (rest_part zone s) vector
  vector-cases vector has =
      let here = has s opens.there in
      elim (cases_lt (range_at zone s).first (get_or vector s 0)) [
        | inr low ↦ inl (vector-set zone s (range (range_at zone s).first (range_at zone s).first) vector opens.there
            (here.0, low) has)
        | inl high ↦ inr (vector-set zone s (range ((range_at zone s).first + 1) (range_at zone s).last) vector opens.there
            (omega (arith, high), here.1) has)
      ]

  -- each vector of the lower part comes before each of the upper part
  parts-before : (vector other : List ℕ) → HasVector (first_part zone s) vector → HasVector (rest_part zone s) other →
      IsBefore vector other
  parts-before vector other first rest = record {
    span = s;
    same = λ t less.
        let inside : t < length zone = omega (arith, less, opens.there) in
        let one = first-vector vector first t inside in
        let two = rest-vector other rest t inside in
        omega (arith, opens.before t less, one.0, one.1, two.0, two.1);
    less =
        let low = vector-at zone s (range (range_at zone s).first (range_at zone s).first) vector opens.there first in
        let high = vector-at zone s (range ((range_at zone s).first + 1) (range_at zone s).last) other opens.there rest in
        omega (arith, low.1, high.0);
  }

  -- what comes first in the lower part does so in the zone
  pub first-first : (vector : List ℕ) → IsFirstIn problem height (first_part zone s) vector →
      IsFirstIn problem height zone vector
  first-first vector first = record {
    inside = first-vector vector first.inside;
    low = first.low;
    first = λ other has low. elim (vector-cases other has) [
      | inl lower ↦ first.first other lower low
      | inr upper ↦ inr (parts-before vector other first.inside upper)
    ];
  }

  -- and what comes first in the upper part, if the lower one has none
  pub rest-first : (vector : List ℕ) → HoldsNone problem height (first_part zone s) →
      IsFirstIn problem height (rest_part zone s) vector → IsFirstIn problem height zone vector
  rest-first vector none first = record {
    inside = rest-vector vector first.inside;
    low = first.low;
    first = λ other has low. elim (vector-cases other has) [
      | inl lower ↦ absurd (none (holds-within problem height (InZone problem (zone_of_vector other))
          (InZone problem (first_part zone s))
          (vector-inside problem sound (first_part zone s) first-zone other low.vectors lower) low.holds))
      | inr upper ↦ first.first other upper low
    ];
  }
