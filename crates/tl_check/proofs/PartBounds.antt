-- The bounds of a zone of a trace: that of the cut by which it came to be, and those of the zone that was cut.
use Rattle.std.proofs.Common.{◌≡◌, ◌≢◌, ℕ, ◌+◌, ◌-◌, ◌/◌, ◌%◌, ◌<◌, Bool, true, false, List, [], ◌∷◌, ◌++◌, ◌⊎◌}
use Rattle.std.proofs.Common.{inl, inr, length, refl, sym, ap, ◌∙◌, subst, arith}
use Rattle.std.specs.Prelude.{nat_lt, if◌then◌else◌}
use Rattle.std.specs.List.{Contains}
use Rattle.std.proofs.lemmas.List.Elements.{All-contains, Contains-append_left, Contains-append_right, Contains-append_cases}
use Rattle.tl_base.proofs.Members.{All-from_Contains, Contains-none}
use Rattle.tl_problem.specs.declared.zone.Range.{Range}
use Rattle.tl_problem.specs.Problem.{ProblemModel}
use Rattle.tl_problem.specs.Sound.{IsSound}
use Rattle.tl_problem.specs.Spans.{spans_of}
use Rattle.tl_problem.specs.Zones.{classes_at, first_in_class, last_in_class, range, range_at, whole_zone, lower_part, upper_part}
use Rattle.tl_problem.specs.Zones.{span_width, InZone, IsWidthOf}
use Rattle.tl_problem.proofs.ZoneLaws.{cases_eq, whole-range, whole-is_zone, lower-inside, upper-inside}
use Rattle.tl_cert.specs.declared.log.Bound.{Bound}
use Rattle.tl_cert.specs.declared.trace.CutAt.{CutAt}
use Rattle.tl_cert.specs.Traces.{IsTraceOf, IsZoneOf, zone_of}
use Rattle.tl_cert.specs.Nogoods.{at_least, at_most, range_bounds, zone_bounds, Meets}
use Rattle.tl_cert.proofs.TraceLaws.{zones-are}
use Rattle.tl_cert.proofs.ZoneBounds.{zone-meets, zone-from_meets, bound-of_range, range-bound_of, not_lt_test, Contains-given}
use Rattle.tl_cert.specs.Implied.{Implied}
use Rattle.tl_check.specs.declared.left.Left.{Left}
use Rattle.tl_check.specs.inner.Firing.{HasLeft, HasLeftBut}
use Rattle.tl_check.specs.inner.Zones.{IsPartBound}
use Rattle.tl_check.proofs.LeftLaws.{but-implied, but-looked_at}
use Rattle.tl_check.proofs.Spans.{on-span}
use Rattle.tl_check.proofs.ZoneWalks.{cut_to, cut-known, cut-there, parent-there, halves-odd, halves-even, low-here, high-here}
use Rattle.tl_check.proofs.ZoneWalks.{low-other, high-other}

-- a bound of a range is that of its last class, or that of its first
range-cases : (problem : ProblemModel) (s : ℕ) (r : Range) (bound : Bound) → Contains (range_bounds problem s r) bound →
    Contains (if nat_lt (r.last + 1) (length (classes_at problem s)) then at_most s
    (last_in_class problem s r.last) ∷ [] else []) bound
    ⊎ Contains (if nat_lt 0 r.first then at_least s (first_in_class problem s r.first) ∷ [] else []) bound
range-cases problem s r bound has = Contains-append_cases
    (if nat_lt (r.last + 1) (length (classes_at problem s)) then at_most s (last_in_class problem s r.last) ∷ [] else [])
    (if nat_lt 0 r.first then at_least s (first_in_class problem s r.first) ∷ [] else []) bound has

-- the whole has no bounds
pub whole-no_bounds : (problem : ProblemModel) (bound : Bound) → Contains (zone_bounds problem (whole_zone problem)) bound → ⊥
whole-no_bounds problem bound has =
    let found = bound-of_range problem (whole_zone problem) bound has in
    let s = found.0 in
    let inside : s < length (spans_of problem) = omega (arith, found.1, (whole-is_zone problem).spans) in
    let at = whole-range problem s inside in
    let r = range_at (whole_zone problem) s in
    let some = ((whole-is_zone problem).ranges s found.1).1 in
    elim (range-cases problem s r bound found.2) [
      | inl most ↦ none (nat_lt (r.last + 1) (length (classes_at problem s))) (at_most s (last_in_class problem s r.last))
          (not_lt_test (r.last + 1) (length (classes_at problem s)) (omega (arith, ap (λ (q : Range). q.last) at, some))) most
      | inr least ↦ none (nat_lt 0 r.first) (at_least s (first_in_class problem s r.first))
          (not_lt_test 0 r.first (omega (arith, ap (λ (q : Range). q.first) at))) least
    ] where
      none : (test : Bool) (x : Bound) → test ≡ false → Contains (if test then x ∷ [] else []) bound → ⊥
      none true x is has = absurd cc
      none false x is has = Contains-none bound has

module _ (problem : ProblemModel) (sound : IsSound problem) (trace : List CutAt) (is_trace : IsTraceOf problem trace) (zone : ℕ)
    (some : 0 < zone)
    (there : IsZoneOf trace zone) (d : CutAt) where
  abbrev cut : CutAt
  cut = cut_to trace zone d

  abbrev i : ℕ
  i = (zone - 1) / 2

  abbrev part : List Range
  part = zone_of problem trace zone

  abbrev parent : List Range
  parent = zone_of problem trace cut.zone

  before : IsZoneOf trace cut.zone
  before = parent-there problem trace is_trace zone some there d

  within : i < length trace
  within = cut-there zone (length trace) some there

  -- the cut's span, and the class after its own, are there
  pub cut-span : cut.span < length (spans_of problem)
  cut-span = omega (arith, (cut-known problem trace is_trace zone some there d).span, (whole-is_zone problem).spans)

  span-there : cut.span < length parent
  span-there = omega (arith, cut-span, (zones-are problem sound trace is_trace cut.zone before).spans)

  pub cut-next : cut.class + 1 < length (classes_at problem cut.span)
  cut-next = omega (
    arith,
    (cut-known problem trace is_trace zone some there d).upper,
    ((zones-are problem sound trace is_trace cut.zone before).ranges cut.span span-there).1,
  )

  odd-is : zone % 2 ≡ 1 → part ≡ lower_part parent cut.span cut.class
  odd-is odd = ap (zone_of problem trace) (sym (halves-odd zone some odd)) ∙
      (cut-known problem trace is_trace zone some there d).low_is

  even-is : zone % 2 ≢ 1 → part ≡ upper_part parent cut.span cut.class
  even-is even = ap (zone_of problem trace) (sym (halves-even zone some even)) ∙
      (cut-known problem trace is_trace zone some there d).high_is

  -- widths in the part are in the zone that was cut
  pub part-inside : (widths : List ℕ) → InZone problem part widths → InZone problem parent widths
  part-inside widths inside =
      let known = cut-known problem trace is_trace zone some there d in
      let is = zones-are problem sound trace is_trace cut.zone before in
      elim (cases_eq (zone % 2) 1) [
        | inl odd ↦ lower-inside problem sound parent is cut.span cut.class span-there known.lower known.upper widths
            (subst (λ (z : List Range). InZone problem z widths) (odd-is odd) inside)
        | inr even ↦ upper-inside problem sound parent is cut.span cut.class span-there known.lower known.upper widths
            (subst (λ (z : List Range). InZone problem z widths) (even-is even) inside)
      ]

  -- the range of the cut's span in the part
  odd-range : zone % 2 ≡ 1 → range_at part cut.span ≡ range (range_at parent cut.span).first cut.class
  odd-range odd = ap (λ z. range_at (zone_of problem trace z) cut.span) (sym (halves-odd zone some odd))
      ∙ low-here problem sound trace is_trace cut.span cut-span i cut within
      (cut-known problem trace is_trace zone some there d) refl

  even-range : zone % 2 ≢ 1 → range_at part cut.span ≡ range (cut.class + 1) (range_at parent cut.span).last
  even-range even = ap (λ z. range_at (zone_of problem trace z) cut.span) (sym (halves-even zone some even))
      ∙ high-here problem sound trace is_trace cut.span cut-span i cut within
      (cut-known problem trace is_trace zone some there d) refl

  other-range : (s : ℕ) → s < length (spans_of problem) → cut.span ≢ s → range_at part s ≡ range_at parent s
  other-range s inside apart =
      let known = cut-known problem trace is_trace zone some there d in
      elim (cases_eq (zone % 2) 1) [
        | inl odd ↦ ap (λ z. range_at (zone_of problem trace z) s) (sym (halves-odd zone some odd))
            ∙ low-other problem sound trace is_trace s inside i cut known apart
        | inr even ↦ ap (λ z. range_at (zone_of problem trace z) s) (sym (halves-even zone some even))
            ∙ high-other problem sound trace is_trace s inside i cut known apart
      ]

  module _ (bound : Bound) (is_bound : IsPartBound problem cut zone bound) where
    -- and they meet the part's bound
    pub part-meets : (widths : List ℕ) → InZone problem part widths → Meets problem widths bound
    part-meets widths inside =
        let here : IsWidthOf problem part cut.span (span_width problem widths cut.span) =
        inside.ranges cut.span (omega (arith, cut-span, (zones-are problem sound trace is_trace zone there).spans)) in
        elim (cases_eq (zone % 2) 1) [
          | inl odd ↦ subst (Meets problem widths) (sym (is_bound.lower odd))
              (omega (arith, here.1, ap (λ (r : Range). last_in_class problem cut.span r.last) (odd-range odd)))
          | inr even ↦ subst (Meets problem widths) (sym (is_bound.upper even))
              (omega (arith, here.0, ap (λ (r : Range). first_in_class problem cut.span r.first) (even-range even)))
        ]

    -- a bound of the part is that of the cut, or one of the zone that was cut
    pub part-bounds : (other : Bound) → Contains (zone_bounds problem part) other →
        (other ≡ bound) ⊎ Contains (zone_bounds problem parent) other
    part-bounds other has =
        let found = bound-of_range problem part other has in
        let s = found.0 in
        let inside : s < length (spans_of problem) = omega (
          arith,
          found.1,
          (zones-are problem sound trace is_trace zone there).spans,
        ) in
        let long : s < length parent = omega (arith, inside, (zones-are problem sound trace is_trace cut.zone before).spans) in
        elim (cases_eq cut.span s) [
          | inr apart ↦ inr (range-bound_of problem parent s long other
              (subst (λ (r : Range). Contains (range_bounds problem s r) other) (other-range s inside apart) found.2))
          | inl same ↦ at_cut (subst (λ (t : ℕ). Contains (range_bounds problem t (range_at part t)) other) (sym same) found.2)
        ] where
          kept : Contains (range_bounds problem cut.span (range_at parent cut.span)) other →
              Contains (zone_bounds problem parent) other
          kept has = range-bound_of problem parent cut.span span-there other has

          at_cut : Contains (range_bounds problem cut.span (range_at part cut.span)) other →
              (other ≡ bound) ⊎ Contains (zone_bounds problem parent) other
          at_cut has = elim (cases_eq (zone % 2) 1) [
            | inl odd ↦
                let r = range (range_at parent cut.span).first cut.class in
                elim (range-cases problem cut.span r other (subst
                (λ (q : Range). Contains (range_bounds problem cut.span q) other) (odd-range odd) has)) [
                  | inl most ↦ inl (sym (Contains-given (nat_lt (cut.class + 1) (length (classes_at problem cut.span)))
                      (at_most cut.span (last_in_class problem cut.span cut.class)) other most) ∙ sym (is_bound.lower odd))
                  | inr least ↦ inr (kept (Contains-append_right
                      (if nat_lt ((range_at parent cut.span).last + 1) (length (classes_at problem cut.span))
                      then at_most cut.span (last_in_class problem cut.span (range_at parent cut.span).last) ∷ [] else [])
                      (if nat_lt 0 (range_at parent cut.span).first
                      then at_least cut.span (first_in_class problem cut.span (range_at parent cut.span).first) ∷ [] else [])
                      other least))
                ]
            | inr even ↦
                let r = range (cut.class + 1) (range_at parent cut.span).last in
                elim (range-cases problem cut.span r other (subst
                (λ (q : Range). Contains (range_bounds problem cut.span q) other) (even-range even) has)) [
                  | inl most ↦ inr (kept (Contains-append_left
                      (if nat_lt ((range_at parent cut.span).last + 1) (length (classes_at problem cut.span))
                      then at_most cut.span (last_in_class problem cut.span (range_at parent cut.span).last) ∷ [] else [])
                      (if nat_lt 0 (range_at parent cut.span).first
                      then at_least cut.span (first_in_class problem cut.span (range_at parent cut.span).first) ∷ [] else [])
                      other most))
                  | inr least ↦ inl (sym (Contains-given (nat_lt 0 (cut.class + 1))
                      (at_least cut.span (first_in_class problem cut.span (cut.class + 1))) other least) ∙ sym
                      (is_bound.upper even))
                ]
          ]

    -- widths in the zone that was cut are in the part where they meet its bound
    pub part-from : (widths : List ℕ) → InZone problem parent widths → Meets problem widths bound → InZone problem part widths
    part-from widths inside meets = zone-from_meets problem sound part (zones-are problem sound trace is_trace zone there)
        widths inside.page
        (All-from_Contains (Meets problem widths) (zone_bounds problem part) each) where
          each : (other : Bound) → Contains (zone_bounds problem part) other → Meets problem widths other
          each other has = elim (part-bounds other has) [
            | inl same ↦ subst (Meets problem widths) (sym same) meets
            | inr kept ↦ All-contains (Meets problem widths) (zone_bounds problem parent) other
                (zone-meets problem sound parent (zones-are problem sound trace is_trace cut.zone before) widths inside) kept
          ]

    -- what is left of a zone's bounds, as one cut by which it came to be is looked at
    module _ (Among : List ℕ → Type 0) (z : ℕ) where
      abbrev top : List Range
      top = zone_of problem trace z

      -- its bound is implied
      pub part-implied : (left : Left) → Implied problem Among bound →
          HasLeftBut problem Among (zone_bounds problem top) (zone_bounds problem part) left →
          HasLeftBut problem Among (zone_bounds problem top) (zone_bounds problem parent) left
      part-implied left implied found = but-implied problem Among (zone_bounds problem top) (zone_bounds problem part)
          (zone_bounds problem parent) bound
          part-bounds left implied found

      -- or all bounds of its span are looked at
      pub part-looked_at : IsZoneOf trace z → (left found : Left) →
          ((seen : List Bound) → HasLeft problem Among seen left →
          HasLeft problem Among (seen ++ range_bounds problem cut.span (range_at top cut.span)) found) →
          HasLeftBut problem Among (zone_bounds problem top) (zone_bounds problem part) left →
          HasLeftBut problem Among (zone_bounds problem top) (zone_bounds problem parent) found
      part-looked_at is_zone left found finds h =
          let s = cut.span in
          let long : s < length top = omega (arith, cut-span, (zones-are problem sound trace is_trace z is_zone).spans) in
          but-looked_at problem Among (zone_bounds problem top) (zone_bounds problem part) (zone_bounds problem parent)
          bound part-bounds left found
          (range_bounds problem s (range_at top s)) (λ b has. range-bound_of problem top s long b has)
          (λ b same has. on-span problem top s b (ap (λ (x : Bound). x.span) same ∙ on_cut) has) finds h
        where
          on_cut : bound.span ≡ cut.span
          on_cut = elim (cases_eq (zone % 2) 1) [
            | inl odd ↦ ap (λ (x : Bound). x.span) (is_bound.lower odd)
            | inr even ↦ ap (λ (x : Bound). x.span) (is_bound.upper even)
          ]
