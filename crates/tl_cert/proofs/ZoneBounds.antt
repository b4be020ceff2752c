-- The widths of a zone are those within the page that meet its bounds.
use Rattle.std.proofs.Common.{◌≡◌, ℕ, ◌+◌, ◌<◌, ◌≤◌, Bool, true, false, nat_lt, if◌then◌else◌}
use Rattle.std.proofs.Common.{List, [], ◌∷◌, inl, inr, length, ap, subst, arith}
use Rattle.std.specs.List.{All, Contains, range_with_len}
use Rattle.std.proofs.lemmas.Bool.{cases_lt}
use Rattle.std.proofs.lemmas.Bool.Decides.{nat_tests}
use Rattle.std.proofs.lemmas.List.{get_or_past}
use Rattle.std.proofs.lemmas.List.Elements.{All-contains, Contains-append_left, Contains-append_right, Contains-append_cases}
use Rattle.tl_base.proofs.Members.{All-from_Contains, Contains-first, Contains-cases, Contains-none}
use Rattle.tl_base.proofs.Members.{Contains-flat_map, flat_map-Contains, Contains-range, range-Contains}
use Rattle.tl_problem.specs.declared.zone.Range.{Range}
use Rattle.tl_problem.specs.Problem.{ProblemModel}
use Rattle.tl_problem.specs.Layouts.{WithinPage}
use Rattle.tl_problem.specs.Sound.{IsSound}
use Rattle.tl_problem.specs.Spans.{page_room}
use Rattle.tl_problem.specs.Zones.{span_at, classes_at, first_in_class, last_in_class, range_at, IsZone, span_width, IsWidthOf}
use Rattle.tl_problem.specs.Zones.{InZone}
use Rattle.tl_problem.proofs.SpanLaws.{least_width-within, classes-first, room-in_page}
use Rattle.tl_problem.proofs.ZoneLaws.{span-within}
use Rattle.tl_cert.specs.declared.log.Bound.{Bound}
use Rattle.tl_cert.specs.Nogoods.{Meets, at_most, at_least, range_bounds, zone_bounds}

pub lt_test : (a b : ℕ) → a < b → nat_lt a b ≡ true
lt_test a b less = grind (arith, nat_tests)

pub not_lt_test : (a b : ℕ) → b ≤ a → nat_lt a b ≡ false
not_lt_test a b less = grind (arith, nat_tests)

-- the list of one element that a test gives has it where the test holds, and nothing else ever
pub given-Contains : {X : Type 0} (b : Bool) (x : X) → b ≡ true → Contains (if b then x ∷ [] else []) x
given-Contains true x is = Contains-first x []
given-Contains false x is = cc

pub Contains-given : {X : Type 0} (b : Bool) (x y : X) → Contains (if b then x ∷ [] else []) y → x ≡ y
Contains-given true x y has = elim (Contains-cases x [] y has) [ inl here ↦ here | inr later ↦ absurd (Contains-none y later) ]
Contains-given false x y has = absurd (Contains-none y has)

module _ (problem : ProblemModel) (zone : List Range) where
  -- a bound of a zone is one of a span's range
  pub bound-of_range : (bound : Bound) → Contains (zone_bounds problem zone) bound →
      (s : ℕ) × (s < length zone) × Contains (range_bounds problem s (range_at zone s)) bound
  bound-of_range bound has =
      let found = flat_map-Contains (λ s. range_bounds problem s (range_at zone s)) (range_with_len 0 (length zone)) bound has in
      let number = range-Contains 0 (length zone) found.0 found.1 in
      (found.0, omega (arith, number.1), found.2)

  pub range-bound_of : (s : ℕ) → s < length zone → (bound : Bound) → Contains (range_bounds problem s (range_at zone s)) bound →
      Contains (zone_bounds problem zone) bound
  range-bound_of s within bound has = Contains-flat_map (λ t. range_bounds problem t (range_at zone t))
      (range_with_len 0 (length zone)) s bound
      (Contains-range 0 (length zone) s (omega arith) (omega arith)) has

module _ (problem : ProblemModel) (sound : IsSound problem) (zone : List Range) (is : IsZone problem zone) (widths : List ℕ) where
  pub zone-meets : InZone problem zone widths → All (Meets problem widths) (zone_bounds problem zone)
  zone-meets inside = All-from_Contains (Meets problem widths) (zone_bounds problem zone) meets where
    meets : (bound : Bound) → Contains (zone_bounds problem zone) bound → Meets problem widths bound
    meets bound has =
        let found = bound-of_range problem zone bound has in
        let s = found.0 in
        let r = range_at zone s in
        let here = inside.ranges s found.1 in
        let upper = nat_lt (r.last + 1) (length (classes_at problem s)) in
        let lower = nat_lt 0 r.first in
        elim (Contains-append_cases (if upper then at_most s (last_in_class problem s r.last) ∷ [] else [])
        (if lower then at_least s (first_in_class problem s r.first) ∷ [] else []) bound found.2) [
          | inl most ↦ subst (Meets problem widths) (Contains-given upper (at_most s (last_in_class problem s r.last))
              bound most) here.1
          | inr least ↦ subst (Meets problem widths) (Contains-given lower (at_least s (first_in_class problem s r.first))
              bound least) here.0
        ]

  pub zone-from_meets : WithinPage problem widths → All (Meets problem widths) (zone_bounds problem zone) →
      InZone problem zone widths
  zone-from_meets page meets = record { page = page; ranges = in_range } where
    in_range : (s : ℕ) → s < length zone → IsWidthOf problem zone s (span_width problem widths s)
    in_range s within = (from, upto) where
      r : Range
      r = range_at zone s

      upper : Bool
      upper = nat_lt (r.last + 1) (length (classes_at problem s))

      lower : Bool
      lower = nat_lt 0 r.first

      from : first_in_class problem s r.first ≤ span_width problem widths s
      from =
          elim (cases_lt 0 r.first) [
            | inl past ↦ All-contains (Meets problem widths) (zone_bounds problem zone)
                (at_least s (first_in_class problem s r.first)) meets
                (range-bound_of problem zone s within (at_least s (first_in_class problem s r.first))
                (Contains-append_right (if upper then at_most s (last_in_class problem s r.last) ∷ [] else [])
                (if lower then at_least s (first_in_class problem s r.first) ∷ [] else [])
                (at_least s (first_in_class problem s r.first))
                (given-Contains lower (at_least s (first_in_class problem s r.first)) (lt_test 0 r.first past))))
            | inr none ↦
                let first : r.first ≡ 0 = omega arith in
                let least = least_width-within problem (span_at problem s) widths page in
                omega (arith, ap (first_in_class problem s) first, classes-first problem (span_at problem s) 0, least)
          ]

      upto : span_width problem widths s ≤ last_in_class problem s r.last
      upto =
          elim (cases_lt (r.last + 1) (length (classes_at problem s))) [
            | inl before ↦ All-contains (Meets problem widths) (zone_bounds problem zone)
                (at_most s (last_in_class problem s r.last)) meets
                (range-bound_of problem zone s within (at_most s (last_in_class problem s r.last))
                (Contains-append_left (if upper then at_most s (last_in_class problem s r.last) ∷ [] else [])
                (if lower then at_least s (first_in_class problem s r.first) ∷ [] else [])
                (at_most s (last_in_class problem s r.last))
                (given-Contains upper (at_most s (last_in_class problem s r.last))
                (lt_test (r.last + 1) (length (classes_at problem s)) before))))
            | inr last ↦
                let end = get_or_past (classes_at problem s) (r.last + 1) (page_room problem + 1) last in
                let columns = span-within problem sound s (omega (arith, within, is.spans)) in
                let room = room-in_page problem widths page (span_at problem s).left
                (span_at problem s).right columns.0 columns.1 in
                omega (arith, end, room)
          ]
