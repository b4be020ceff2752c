-- A zone that is cut follows from its parts: what is left of it lies in the lower part, or in the upper one once the bound
-- that the cut made is broken.
use Rattle.std.proofs.Common.{◌≡◌, ◌≢◌, ℕ, ◌+◌, ◌-◌, ◌<◌, ◌≤◌, Bool, true, false, nat_lt, if◌then◌else◌, List, [], ◌∷◌, inl, inr}
use Rattle.std.proofs.Common.{length, sym}
use Rattle.std.proofs.Common.{ap, subst, arith}
use Rattle.std.specs.List.{All, Contains, range_with_len}
use Rattle.std.proofs.lemmas.List.{get_or-set_other, length-set, get_or_default}
use Rattle.std.proofs.lemmas.List.Elements.{All-nil, All-contains, Contains-append_left, Contains-append_cases}
use Rattle.tl_base.proofs.Members.{Contains-none, Contains-flat_map, flat_map-Contains}
use Rattle.tl_base.proofs.Members.{Contains-range, range-Contains, none-Contains}
use Rattle.tl_problem.specs.declared.zone.Range.{Range}
use Rattle.tl_problem.specs.Problem.{ProblemModel}
use Rattle.tl_problem.specs.Sound.{IsSound}
use Rattle.tl_problem.specs.Spans.{spans_of, page_room}
use Rattle.tl_problem.specs.Zones.{span_at, classes_at, first_in_class, last_in_class, range, range_at, IsZone, whole_zone}
use Rattle.tl_problem.specs.Zones.{lower_part, upper_part}
use Rattle.tl_problem.specs.Zones.{span_width, InZone}
use Rattle.tl_problem.specs.Bounds.{HasNoWidths}
use Rattle.tl_problem.proofs.SpanLaws.{classes-rising}
use Rattle.tl_problem.proofs.ZoneLaws.{cases_eq, cut-cases, upper-inside, lower-is_zone, upper-is_zone, whole-range, lower_at}
use Rattle.tl_problem.proofs.ZoneLaws.{whole-is_zone, upper_at}
use Rattle.tl_cert.specs.declared.log.Bound.{Bound}
use Rattle.tl_cert.specs.Nogoods.{Meets, Breaks, at_most, at_least, range_bounds, zone_bounds}
use Rattle.tl_cert.specs.Implied.{IsLeft, Implied, OneLeft}
use Rattle.tl_cert.proofs.ZoneBounds.{zone-meets, zone-from_meets, lt_test, not_lt_test, given-Contains, Contains-given}

-- what a test gives not
given-none : (b : Bool) (x y : Bound) → b ≡ false → Contains (if b then x ∷ [] else []) y → ⊥
given-none true x y is has = cc
given-none false x y is has = Contains-none y has

-- all bounds of a zone are implied by widths in it
pub all-implied : (problem : ProblemModel) → IsSound problem → (zone : List Range) → IsZone problem zone →
    (Among : List ℕ → Type 0) →
    ((widths : List ℕ) → Among widths → InZone problem zone widths) → All (Implied problem Among) (zone_bounds problem zone)
all-implied problem sound zone is Among inside = λ i d within widths among. zone-meets problem sound zone is widths
    (inside widths among) i d within

-- what is left under a zone's bounds is in the zone, and back
pub left-inside : (problem : ProblemModel) → IsSound problem → (zone : List Range) → IsZone problem zone →
    (joined : List Bound) (widths : List ℕ) →
    IsLeft problem (zone_bounds problem zone) joined widths → InZone problem zone widths
left-inside problem sound zone is joined widths left = zone-from_meets problem sound zone is widths left.page left.meets

pub inside-left : (problem : ProblemModel) → IsSound problem → (zone : List Range) → IsZone problem zone → (widths : List ℕ) →
    InZone problem zone widths → IsLeft problem (zone_bounds problem zone) [] widths
inside-left problem sound zone is widths inside = record {
  page = inside.page;
  meets = zone-meets problem sound zone is widths inside;
  breaks = All-nil (Breaks problem widths);
}

module _ (problem : ProblemModel) (sound : IsSound problem) (zone : List Range) (is : IsZone problem zone) (s class : ℕ)
    (there : s < length zone)
    (from : (range_at zone s).first ≤ class) (before : class < (range_at zone s).last) where
  more_classes : class + 1 < length (classes_at problem s)
  more_classes = let ends = (is.ranges s there).1 in omega (arith, ends, before)

  -- the upper part begins just past the end of the lower one
  next_class : last_in_class problem s class + 1 ≡ first_in_class problem s (class + 1)
  next_class =
      let same = get_or_default (classes_at problem s) (class + 1) 0 (page_room problem + 1) more_classes in
      let rise = classes-rising problem (span_at problem s) class (class + 1) 0 (omega arith) more_classes in
      omega (arith, same, rise)

  -- widths in a part give the span a room of that part
  pub low_room : (widths : List ℕ) → InZone problem (lower_part zone s class) widths →
      span_width problem widths s ≤ last_in_class problem s class
  low_room widths low =
      let here = low.ranges s (omega (arith, there, length-set zone s (range (range_at zone s).first class))) in
      omega (arith, here.1, ap (λ r. last_in_class problem s r.last) (lower_at problem sound zone is s class there from before))

  pub high_room : (widths : List ℕ) → InZone problem (upper_part zone s class) widths →
      last_in_class problem s class + 1 ≤ span_width problem widths s
  high_room widths high =
      let here = high.ranges s (omega (arith, there, length-set zone s (range (class + 1) (range_at zone s).last))) in
      omega (arith, here.0, ap (λ r. first_in_class problem s r.first) (upper_at problem sound zone is s class there from before), next_class)

  low_zone : IsZone problem (lower_part zone s class)
  low_zone = lower-is_zone problem sound zone is s class there from before

  -- where the upper part has no widths, all bounds of the lower part are implied
  pub lower-implied : HasNoWidths (InZone problem (upper_part zone s class)) →
      All (Implied problem (IsLeft problem (zone_bounds problem zone) [])) (zone_bounds problem (lower_part zone s class))
  lower-implied none = all-implied problem sound (lower_part zone s class) low_zone (IsLeft problem (zone_bounds problem zone) [])
      (λ widths left. elim (cut-cases problem sound zone is s class there from before widths
      (left-inside problem sound zone is [] widths left)) [
        | inl low ↦ low
        | inr high ↦ absurd (none widths high)
      ])

  -- once the bound that the cut made is broken, all bounds of the upper part are implied
  pub upper-implied : All (Implied problem (IsLeft problem (zone_bounds problem zone)
      (at_most s (last_in_class problem s class) ∷ [])))
      (zone_bounds problem (upper_part zone s class))
  upper-implied = all-implied problem sound (upper_part zone s class)
      (upper-is_zone problem sound zone is s class there from before)
      (IsLeft problem (zone_bounds problem zone) (at_most s (last_in_class problem s class) ∷ []))
      (λ widths left. elim (cut-cases problem sound zone is s class there from before widths
      (left-inside problem sound zone is (at_most s (last_in_class problem s class) ∷ []) widths left)) [
        | inl low ↦
            let broken : last_in_class problem s class + 1 ≤ span_width problem widths s =
            left.breaks 0 (at_most 0 0) (omega arith) in
            absurd (omega (arith, broken, low_room widths low))
        | inr high ↦ high
      ])

  -- the lower part has the bound that the cut made
  has_bound : Contains (zone_bounds problem (lower_part zone s class)) (at_most s (last_in_class problem s class))
  has_bound =
      let part = lower_part zone s class in
      let b = at_most s (last_in_class problem s class) in
      Contains-flat_map (λ t. range_bounds problem t (range_at part t)) (range_with_len 0 (length part)) s b
      (Contains-range 0 (length part) s (omega arith) (omega
      (arith, there, length-set zone s (range (range_at zone s).first class))))
      (subst (λ r. Contains (range_bounds problem s r) b) (sym (lower_at problem sound zone is s class there from before))
      (Contains-append_left (if nat_lt (class + 1) (length (classes_at problem s)) then b ∷ [] else [])
      (if nat_lt 0 (range_at zone s).first then at_least s (first_in_class problem s (range_at zone s).first) ∷ [] else []) b
      (given-Contains (nat_lt (class + 1) (length (classes_at problem s))) b
      (lt_test (class + 1) (length (classes_at problem s)) more_classes))))

  -- and its other bounds are met in the whole zone
  others-met : (widths : List ℕ) → InZone problem zone widths → (other : Bound) →
      Contains (zone_bounds problem (lower_part zone s class)) other →
      other ≢ at_most s (last_in_class problem s class) → Meets problem widths other
  others-met widths inside other has apart =
      let part = lower_part zone s class in
      let found = flat_map-Contains (λ t. range_bounds problem t (range_at part t)) (range_with_len 0 (length part)) other has in
      let t = found.0 in
      let within : t < length zone = omega (
        arith,
        (range-Contains 0 (length part) t found.1).1,
        length-set zone s (range (range_at zone s).first class),
      ) in
      elim (cases_eq t s) [
        | inl same ↦
            let first = (range_at zone s).first in
            let here : Contains (range_bounds problem s (range first class)) other =
            subst (λ r. Contains (range_bounds problem s r) other) (lower_at problem sound zone is s class there from before)
            (subst (λ n. Contains (range_bounds problem n (range_at part n)) other) same found.2) in
            elim (Contains-append_cases (if nat_lt (class + 1) (length (classes_at problem s)) then at_most s
            (last_in_class problem s class) ∷ [] else [])
            (if nat_lt 0 first then at_least s (first_in_class problem s first) ∷ [] else []) other here) [
              | inl most ↦ absurd (apart (sym
                  (Contains-given (nat_lt (class + 1) (length (classes_at problem s))) (at_most s (last_in_class problem s class))
                  other most)))
              | inr least ↦ subst (Meets problem widths) (Contains-given (nat_lt 0 first)
                  (at_least s (first_in_class problem s first)) other least)
                  (inside.ranges s there).0
            ]
        | inr differ ↦
            let same : range_at part t ≡ range_at zone t = get_or-set_other zone s t (range (range_at zone s).first class)
            (range 0 0) differ in
            All-contains (Meets problem widths) (zone_bounds problem zone) other (zone-meets problem sound zone is widths inside)
            (Contains-flat_map (λ u. range_bounds problem u (range_at zone u)) (range_with_len 0 (length zone)) t other
            (Contains-range 0 (length zone) t (omega arith) (omega (arith, within)))
            (subst (λ r. Contains (range_bounds problem t r) other) same found.2))
      ]

  -- so where the upper part has widths, all bounds of the lower part are implied but that one
  pub lower-but_one : (widths : List ℕ) → InZone problem (upper_part zone s class) widths →
      OneLeft problem (IsLeft problem (zone_bounds problem zone) []) (zone_bounds problem (lower_part zone s class))
      (at_most s (last_in_class problem s class))
  lower-but_one widths high = record {
    among = has_bound;
    not_implied = λ implied.
        let inside = upper-inside problem sound zone is s class there from before widths high in
        let met : span_width problem widths s ≤ last_in_class problem s class =
        implied widths (inside-left problem sound zone is widths inside) in
        omega (arith, met, high_room widths high);
    others = λ other has apart ws left. others-met ws (left-inside problem sound zone is [] ws left) other has apart;
  }

-- ---- the whole has no bounds

pub whole-bounds : (problem : ProblemModel) → zone_bounds problem (whole_zone problem) ≡ []
whole-bounds problem = none-Contains (zone_bounds problem (whole_zone problem)) never where
  never : (bound : Bound) → Contains (zone_bounds problem (whole_zone problem)) bound → ⊥
  never bound has =
      let whole = whole_zone problem in
      let found = flat_map-Contains (λ t. range_bounds problem t (range_at whole t)) (range_with_len 0 (length whole))
      bound has in
      let s = found.0 in
      let count = length (classes_at problem s) in
      let within : s < length (spans_of problem) = omega (
        arith,
        (range-Contains 0 (length whole) s found.1).1,
        (whole-is_zone problem).spans,
      ) in
      let here : Contains (range_bounds problem s (range 0 (count - 1))) bound =
      subst (λ r. Contains (range_bounds problem s r) bound)
      (whole-range problem s within) found.2 in
      elim (Contains-append_cases (if nat_lt (count - 1 + 1) count then at_most s
      (last_in_class problem s (count - 1)) ∷ [] else [])
      (if nat_lt 0 0 then at_least s (first_in_class problem s 0) ∷ [] else []) bound here) [
        | inl most ↦ given-none (nat_lt (count - 1 + 1) count) (at_most s (last_in_class problem s (count - 1))) bound
            (not_lt_test (count - 1 + 1) count (omega arith)) most
        | inr least ↦ given-none (nat_lt 0 0) (at_least s (first_in_class problem s 0)) bound (not_lt_test 0 0 (omega arith))
            least
      ]
