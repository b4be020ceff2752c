-- The bounds of a zone, span by span.
use Rattle.std.proofs.Common.{◌≡◌, ℕ, ◌+◌, ◌<◌, zero, suc, Bool, true, false, List, [], ◌∷◌}
use Rattle.std.proofs.Common.{◌++◌, inl, inr, length, Option, None, refl, sym, ap, ◌∙◌, subst, arith}
use Rattle.std.specs.Prelude.{nat_lt, if◌then◌else◌}
use Rattle.std.specs.List.{Contains, flat_map, range_with_len}
use Rattle.std.proofs.lemmas.Bool.{cases_lt}
use Rattle.std.proofs.lemmas.Grind.{flat_map-append}
use Rattle.std.proofs.lemmas.List.{append-nil}
use Rattle.std.proofs.lemmas.List.Elements.{Contains-append_left, Contains-append_right, Contains-append_cases, All-contains}
use Rattle.tl_base.proofs.Members.{Contains-none}
use Rattle.tl_problem.specs.declared.zone.Range.{Range}
use Rattle.tl_problem.specs.Problem.{ProblemModel}
use Rattle.tl_problem.specs.Sound.{IsSound}
use Rattle.tl_problem.specs.Spans.{spans_of}
use Rattle.tl_problem.specs.Zones.{classes_at, first_in_class, last_in_class, range_at, IsZone}
use Rattle.tl_cert.specs.declared.log.Bound.{Bound}
use Rattle.tl_cert.specs.declared.log.Nogood.{Nogood}
use Rattle.tl_cert.specs.declared.log.Nogood.TheVariants.{Zone, Bounds}
use Rattle.tl_cert.specs.declared.trace.CutAt.{CutAt}
use Rattle.tl_cert.specs.Traces.{IsTraceOf, zone_of}
use Rattle.tl_cert.specs.Nogoods.{at_most, at_least, range_bounds, zone_bounds, nogood_bounds, NamesAreThere}
use Rattle.tl_cert.proofs.TraceLaws.{zones-are}
use Rattle.tl_cert.proofs.ZoneBounds.{lt_test, not_lt_test, given-Contains, Contains-given, bound-of_range, range-bound_of}
use Rattle.tl_check.specs.inner.Matrices.{some_list}
use Rattle.tl_check.specs.inner.Zones.{bounds_upto}

-- ---- one span more

range-next : (a n j : ℕ) → a + n ≡ j → range_with_len a (suc n) ≡ range_with_len a n ++ j ∷ []
range-next a zero j e = let same : a ≡ j = omega arith in ap (λ k. k ∷ []) same
range-next a (suc n) j e = ap (λ l. a ∷ l) (range-next (a + 1) n j (omega arith))

pub upto-next : (problem : ProblemModel) (zone : List Range) (s : ℕ) → bounds_upto problem zone (s + 1)
    ≡ bounds_upto problem zone s ++ range_bounds problem s (range_at zone s)
upto-next problem zone s =
    let f : ℕ → List Bound = λ t. range_bounds problem t (range_at zone t) in
    let next : s + 1 ≡ suc s = omega arith in
    let numbers = ap (range_with_len 0) next ∙ range-next 0 s s (omega arith) in
    ap (flat_map f) numbers ∙ flat_map-append f (range_with_len 0 s) (s ∷ []) ∙ ap (λ l. flat_map f (range_with_len 0 s) ++ l)
    (append-nil (f s))

-- by the bound from above and the one from below
pub range-bounds : (problem : ProblemModel) (s : ℕ) (r : Range) (upper lower : Option Bound) →
    some_list upper ≡ (if nat_lt (r.last + 1) (length (classes_at problem s)) then at_most s
    (last_in_class problem s r.last) ∷ [] else []) →
    some_list lower ≡ (if nat_lt 0 r.first then at_least s (first_in_class problem s r.first) ∷ [] else []) →
    some_list upper ++ some_list lower ≡ range_bounds problem s r
range-bounds problem s r upper lower above below = ap (λ l. l ++ some_list lower) above ∙ ap (λ l.
    (if nat_lt (r.last + 1) (length (classes_at problem s)) then at_most s (last_in_class problem s r.last) ∷ [] else []) ++ l)
    below

-- ---- no bounds

module _ (problem : ProblemModel) (zone : List Range) (is : IsZone problem zone) where
  none-in : zone_bounds problem zone ≡ [] → (s : ℕ) → s < length zone → (bound : Bound) →
      Contains (range_bounds problem s (range_at zone s)) bound → ⊥
  none-in none s within bound has =
      let there = range-bound_of problem zone s within bound has in
      Contains-none bound (subst (λ bounds. Contains bounds bound) none there)

  -- where a zone has no bounds each span has all its classes
  pub bare-first : zone_bounds problem zone ≡ [] → (s : ℕ) → s < length zone → (range_at zone s).first ≡ 0
  bare-first none s within =
      let r = range_at zone s in
      let upper = if nat_lt (r.last + 1) (length (classes_at problem s)) then at_most s
      (last_in_class problem s r.last) ∷ [] else [] in
      let least = at_least s (first_in_class problem s r.first) in
      elim (cases_lt 0 r.first) [
        | inr same ↦ omega (arith, same)
        | inl some ↦ absurd (none-in none s within least (Contains-append_right upper
            (if nat_lt 0 r.first then least ∷ [] else []) least
            (given-Contains (nat_lt 0 r.first) least (lt_test 0 r.first some))))
      ]

  pub bare-last : zone_bounds problem zone ≡ [] → (s : ℕ) → s < length zone →
      (range_at zone s).last + 1 ≡ length (classes_at problem s)
  bare-last none s within =
      let r = range_at zone s in
      let most = at_most s (last_in_class problem s r.last) in
      let lower = if nat_lt 0 r.first then at_least s (first_in_class problem s r.first) ∷ [] else [] in
      elim (cases_lt (r.last + 1) (length (classes_at problem s))) [
        | inr past ↦ omega (arith, past, (is.ranges s within).1)
        | inl some ↦ absurd (none-in none s within most (Contains-append_left
            (if nat_lt (r.last + 1) (length (classes_at problem s)) then most ∷ [] else [])
            lower most (given-Contains (nat_lt (r.last + 1) (length (classes_at problem s))) most
            (lt_test (r.last + 1) (length (classes_at problem s)) some))))
      ]

-- and the bounds of a span with all its classes are none
pub bare-next : (problem : ProblemModel) (zone : List Range) (s : ℕ) → bounds_upto problem zone s ≡ [] →
    (range_at zone s).first ≡ 0 →
    (range_at zone s).last + 1 ≡ length (classes_at problem s) → bounds_upto problem zone (s + 1) ≡ []
bare-next problem zone s before first last =
    let r = range_at zone s in
    let upper : (if nat_lt (r.last + 1) (length (classes_at problem s)) then at_most s
    (last_in_class problem s r.last) ∷ [] else []) ≡ [] =
    none_if (nat_lt (r.last + 1) (length (classes_at problem s))) (at_most s (last_in_class problem s r.last))
    (not_lt_test (r.last + 1) (length (classes_at problem s)) (omega (arith, last))) in
    let lower : (if nat_lt 0 r.first then at_least s (first_in_class problem s r.first) ∷ [] else []) ≡ [] =
    none_if (nat_lt 0 r.first) (at_least s (first_in_class problem s r.first)) (not_lt_test 0 r.first (omega (arith, first))) in
    upto-next problem zone s ∙ ap (λ l. bounds_upto problem zone s ++ l)
    (sym (range-bounds problem s r None None (sym upper) (sym lower)))
    ∙ append-nil (bounds_upto problem zone s) ∙ before
  where
    none_if : (b : Bool) (x : Bound) → b ≡ false → (if b then x ∷ [] else []) ≡ []
    none_if true x is = absurd cc
    none_if false x is = refl

-- ---- the bounds of a nogood are on spans that are there

pub range_bounds-span : (problem : ProblemModel) (s : ℕ) (r : Range) (bound : Bound) →
    Contains (range_bounds problem s r) bound → bound.span ≡ s
range_bounds-span problem s r bound has =
    let upper = nat_lt (r.last + 1) (length (classes_at problem s)) in
    let lower = nat_lt 0 r.first in
    elim (Contains-append_cases (if upper then at_most s (last_in_class problem s r.last) ∷ [] else [])
    (if lower then at_least s (first_in_class problem s r.first) ∷ [] else []) bound has) [
      | inl most ↦ sym (ap (λ (b : Bound). b.span) (Contains-given upper (at_most s (last_in_class problem s r.last)) bound most))
      | inr least ↦ sym (ap (λ (b : Bound). b.span) (Contains-given lower (at_least s (first_in_class problem s r.first))
          bound least))
    ]

-- a bound of a zone that is on a span is one of that span's range
pub on-span : (problem : ProblemModel) (zone : List Range) (s : ℕ) (bound : Bound) → bound.span ≡ s →
    Contains (zone_bounds problem zone) bound →
    Contains (range_bounds problem s (range_at zone s)) bound
on-span problem zone s bound is has =
    let found = bound-of_range problem zone bound has in
    subst (λ t. Contains (range_bounds problem t (range_at zone t)) bound)
    (sym (range_bounds-span problem found.0 (range_at zone found.0) bound found.2) ∙ is) found.2

pub nogood-span : (problem : ProblemModel) → IsSound problem → (trace : List CutAt) → IsTraceOf problem trace →
    (nogood : Nogood) →
    NamesAreThere problem trace nogood → (bound : Bound) → Contains (nogood_bounds problem trace nogood) bound →
    bound.span < length (spans_of problem)
nogood-span problem sound trace is (Zone z) names bound has =
    let zone = zone_of problem trace z in
    let found = bound-of_range problem zone bound has in
    let span = range_bounds-span problem found.0 (range_at zone found.0) bound found.2 in
    omega (arith, found.1, span, (zones-are problem sound trace is z names).spans)
nogood-span problem sound trace is (Bounds bounds) names bound has =
    All-contains (λ b. b.span < length (spans_of problem)) bounds bound names has
