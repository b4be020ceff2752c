-- Zones: the whole has all widths within the page, and the two parts of a cut have between them those of the zone.
use Rattle.std.proofs.Common.{◌≡◌, ◌≢◌, ℕ, ◌+◌, ◌-◌, ◌<◌, ◌≤◌, List, ◌⊎◌, inl, inr, length, set, sym, ap, ◌∙◌, subst, arith}
use Rattle.std.proofs.Common.{length-set}
use Rattle.std.proofs.lemmas.Bool.{cases_lt}
use Rattle.std.proofs.lemmas.List.{length-map, get_or-map, get_or_default, get_or_past, get_or-set_same, get_or-set_other}
use Rattle.std.proofs.lemmas.List.Elements.{All-contains, Contains-get_or}
use Rattle.tl_problem.specs.declared.zone.Range.{Range}
use Rattle.tl_problem.specs.Problem.{ProblemModel}
use Rattle.tl_problem.specs.Layouts.{WithinPage}
use Rattle.tl_problem.specs.Sound.{IsSound, IsSoundCell}
use Rattle.tl_problem.specs.Spans.{span, spans_of, classes_of, page_room}
use Rattle.tl_problem.specs.Zones.{span_at, classes_at, first_in_class, last_in_class, range, range_at, IsZone, whole_zone}
use Rattle.tl_problem.specs.Zones.{lower_part, upper_part, IsVector, HasVector}
use Rattle.tl_problem.specs.Zones.{span_width, InZone}
use Rattle.tl_problem.proofs.SpanLaws.{has_span-parts, spans-cell, least_width-within, classes-rising, classes-first}
use Rattle.tl_problem.proofs.SpanLaws.{classes-some, class-in_page, room-in_page}

-- the room of a span is a width of its range's classes
abbrev pub InRange : ProblemModel → List ℕ → ℕ → Range → Type 0
InRange problem widths s r = (first_in_class problem s r.first ≤ span_width problem widths s) ×
    (span_width problem widths s ≤ last_in_class problem s r.last)

-- ---- the whole

-- the range of a span in the whole
pub whole-range : (problem : ProblemModel) (s : ℕ) → s < length (spans_of problem) →
    range_at (whole_zone problem) s ≡ range 0 (length (classes_at problem s) - 1)
whole-range problem s within = get_or-map (λ columns. range 0 (length (classes_of problem columns) - 1)) (spans_of problem) s
    (span 0 0) (range 0 0) within

pub whole-is_zone : (problem : ProblemModel) → IsZone problem (whole_zone problem)
whole-is_zone problem = record {
  spans = length-map (spans_of problem) (λ columns. range 0 (length (classes_of problem columns) - 1));
  ranges = λ s within.
      let is = whole-range problem s (omega (
        arith,
        within,
        length-map (spans_of problem)
            (λ columns. range 0 (length (classes_of problem columns) - 1)),
      )) in
      let some = classes-some problem (span_at problem s) in
      (omega (arith, ap (λ r. r.first) is), omega (arith, ap (λ r. r.last) is, some));
}

-- a span of the problem lies within its columns
pub span-within : (problem : ProblemModel) → IsSound problem → (s : ℕ) → s < length (spans_of problem) →
    ((span_at problem s).left < (span_at problem s).right) × ((span_at problem s).right ≤ problem.cols)
span-within problem sound s within =
    let found = spans-cell problem (span_at problem s) (Contains-get_or (spans_of problem) s (span 0 0) within) in
    let parts = has_span-parts (span_at problem s) found.0 found.2 in
    let cell = All-contains (IsSoundCell problem) problem.cells found.0 sound.cells found.1 in
    (omega (arith, parts.0, parts.1, cell.columns.0), omega (arith, parts.1, cell.columns.1))

pub whole-all : (problem : ProblemModel) → IsSound problem → (widths : List ℕ) → WithinPage problem widths →
    InZone problem (whole_zone problem) widths
whole-all problem sound widths page = record {
  page = page;
  ranges = λ s inside.
      let within : s < length (spans_of problem) = omega (
        arith,
        inside,
        length-map (spans_of problem) (λ columns. range 0 (length (classes_of problem columns) - 1)),
      ) in
      let some = classes-some problem (span_at problem s) in
      let columns = span-within problem sound s within in
      let least = least_width-within problem (span_at problem s) widths page in
      let most = room-in_page problem widths page (span_at problem s).left (span_at problem s).right columns.0 columns.1 in
      let end = get_or_past (classes_at problem s) (length (classes_at problem s) - 1 + 1) (page_room problem + 1)
      (omega arith) in
      subst (InRange problem widths s) (sym (whole-range problem s within)) (
        omega (arith, least, classes-first problem (span_at problem s) 0),
        omega (arith, most, end),
      );
}

-- it has every class vector
pub whole-vector : (problem : ProblemModel) (vector : List ℕ) → IsVector problem vector → HasVector (whole_zone problem) vector
whole-vector problem vector is s within =
    let inside : s < length (spans_of problem) = omega (arith, within, (whole-is_zone problem).spans) in
    let class = is.classes s (omega (arith, inside, is.spans)) in
    let whole = whole-range problem s inside in
    (omega (arith, ap (λ r. r.first) whole), omega (arith, ap (λ r. r.last) whole, class))

-- ---- a cut

-- two numbers are the same or not
pub cases_eq : (t s : ℕ) → (t ≡ s) ⊎ (t ≢ s)
cases_eq t s = elim (cases_lt t s) [
  | inl less ↦ inr (λ e. omega arith)
  | inr more ↦
      elim (cases_lt s t) [ inl above ↦ inr (λ e. omega arith) | inr same ↦ inl (omega arith) ]
]

module _ (problem : ProblemModel) (sound : IsSound problem) (zone : List Range) (is : IsZone problem zone) (s class : ℕ)
    (there : s < length zone)
    (from : (range_at zone s).first ≤ class) (before : class < (range_at zone s).last) where
  pub lower_at : range_at (lower_part zone s class) s ≡ range (range_at zone s).first class
  lower_at = get_or-set_same zone s (range (range_at zone s).first class) (range 0 0) there

  pub upper_at : range_at (upper_part zone s class) s ≡ range (class + 1) (range_at zone s).last
  upper_at = get_or-set_same zone s (range (class + 1) (range_at zone s).last) (range 0 0) there

  -- the class after the cut begins just past the end of the class before it
  next_class : (last_in_class problem s class + 1 ≡ first_in_class problem s (class + 1)) ×
      (first_in_class problem s class < first_in_class problem s (class + 1))
  next_class =
      let inside = is.ranges s there in
      let more : class + 1 < length (classes_at problem s) = omega (arith, inside.1) in
      let same = get_or_default (classes_at problem s) (class + 1) 0 (page_room problem + 1) more in
      let rise = classes-rising problem (span_at problem s) class (class + 1) 0 (omega arith) more in
      (omega (arith, same, rise), omega (arith, rise))

  -- an earlier class ends no later
  pub earlier_end : (a b : ℕ) → a ≤ b → b < length (classes_at problem s) → last_in_class problem s a ≤ last_in_class problem s b
  earlier_end a b le within =
      elim (cases_lt a b) [
        | inr same ↦ let here : a ≡ b = omega arith in omega (arith, ap (last_in_class problem s) here)
        | inl less ↦ elim (cases_lt (b + 1) (length (classes_at problem s))) [
          | inr last ↦
              let end = get_or_past (classes_at problem s) (b + 1) (page_room problem + 1) last in
              let page = class-in_page problem sound s a (omega arith) in
              omega (arith, end, page)
          | inl more ↦
              let start = get_or_default (classes_at problem s) (a + 1) 0 (page_room problem + 1) (omega arith) in
              let stop = get_or_default (classes_at problem s) (b + 1) 0 (page_room problem + 1) more in
              let rise = classes-rising problem (span_at problem s) (a + 1) (b + 1) 0 (omega arith) more in
              omega (arith, start, stop, rise)
        ]
      ]

  -- and a later class begins no earlier
  pub later_start : (a b : ℕ) → a ≤ b → b < length (classes_at problem s) → first_in_class problem s a ≤ first_in_class problem s b
  later_start a b le within =
      elim (cases_lt a b) [
        | inr same ↦ let here : a ≡ b = omega arith in omega (arith, ap (first_in_class problem s) here)
        | inl less ↦ let rise = classes-rising problem (span_at problem s) a b 0 less within in omega (arith, rise)
      ]

  -- at the other spans the zone's ranges stay
  other_at : (r : Range) (t : ℕ) → t ≢ s → range_at (set zone s r) t ≡ range_at zone t
  other_at r t apart = get_or-set_other zone s t r (range 0 0) apart

  -- of any list of ranges, what is so of the cut one and of each other is so of all
  each_range : (widths : List ℕ) (r : Range) → InRange problem widths s r →
      ((t : ℕ) → t < length zone → t ≢ s → InRange problem widths t (range_at zone t)) →
      (t : ℕ) → t < length (set zone s r) → InRange problem widths t (range_at (set zone s r) t)
  each_range widths r here others t within =
      let inside : t < length zone = omega (arith, within, length-set zone s r) in
      elim (cases_eq t s) [
        | inl same ↦ subst (λ u. InRange problem widths u (range_at (set zone s r) u)) (sym same)
            (subst (InRange problem widths s) (sym (get_or-set_same zone s r (range 0 0) there)) here)
        | inr apart ↦ subst (InRange problem widths t) (sym (other_at r t apart)) (others t inside apart)
      ]

  -- widths in the zone are in the lower part or in the upper one
  pub cut-cases : (widths : List ℕ) → InZone problem zone widths →
      InZone problem (lower_part zone s class) widths ⊎ InZone problem (upper_part zone s class) widths
  cut-cases widths inside =
      let here = inside.ranges s there in
      elim (cases_lt (last_in_class problem s class) (span_width problem widths s)) [
        | inr narrow ↦ inl (record {
          page = inside.page;
          ranges =
              each_range widths (range (range_at zone s).first class) (here.0, narrow) (λ t within apart. inside.ranges t within);
        })
        | inl wide ↦ inr (record {
          page = inside.page;
          ranges =
              each_range widths (range (class + 1) (range_at zone s).last) (
                omega (arith, next_class.0, wide),
                here.1,
              ) (λ t within apart. inside.ranges t within);
        })
      ]

  part_inside : (r : Range) (widths : List ℕ) → (InRange problem widths s r → InRange problem widths s (range_at zone s)) →
      InZone problem (set zone s r) widths → InZone problem zone widths
  part_inside r widths wider inside = record {
    page = inside.page;
    ranges = λ t within.
        let long : t < length (set zone s r) = omega (arith, within, length-set zone s r) in
        elim (cases_eq t s) [
          | inl same ↦ subst (λ u. InRange problem widths u (range_at zone u)) (sym same)
              (wider (subst (InRange problem widths s) (get_or-set_same zone s r (range 0 0) there)
              (inside.ranges s (omega (arith, there, length-set zone s r)))))
          | inr apart ↦ subst (InRange problem widths t) (other_at r t apart) (inside.ranges t long)
        ];
  }

  -- and what is in a part is in the zone
  pub lower-inside : (widths : List ℕ) → InZone problem (lower_part zone s class) widths → InZone problem zone widths
  lower-inside widths inside =
      part_inside (range (range_at zone s).first class) widths
      (λ here. (here.0, omega (arith, here.1, earlier_end class (range_at zone s).last (omega arith) (is.ranges s there).1)))
      inside

  pub upper-inside : (widths : List ℕ) → InZone problem (upper_part zone s class) widths → InZone problem zone widths
  upper-inside widths inside =
      part_inside (range (class + 1) (range_at zone s).last) widths
      (λ here. (
        omega (
          arith,
          here.0,
          later_start (range_at zone s).first (class + 1) (omega arith)
              (omega (arith, (is.ranges s there).1)),
        ),
        here.1,
      )) inside

  -- no widths are in both parts
  pub parts-apart : (widths : List ℕ) → InZone problem (lower_part zone s class) widths →
      InZone problem (upper_part zone s class) widths → ⊥
  parts-apart widths low high =
      let below = subst (InRange problem widths s) lower_at (low.ranges s
      (omega (arith, there, length-set zone s (range (range_at zone s).first class)))) in
      let above = subst (InRange problem widths s) upper_at (high.ranges s
      (omega (arith, there, length-set zone s (range (class + 1) (range_at zone s).last)))) in
      omega (arith, below.1, above.0, next_class.0)

  -- both parts are zones
  part_is_zone : (r : Range) → r.first ≤ r.last → r.last < length (classes_at problem s) → IsZone problem (set zone s r)
  part_is_zone r ordered within = record {
    spans = length-set zone s r ∙ is.spans;
    ranges = λ t long.
        let inside : t < length zone = omega (arith, long, length-set zone s r) in
        elim (cases_eq t s) [
          | inl same ↦ subst (λ u. ((range_at (set zone s r) u).first ≤ (range_at (set zone s r) u).last) ×
              ((range_at (set zone s r) u).last < length (classes_at problem u))) (sym same)
              (subst (λ q. (q.first ≤ q.last) × (q.last < length (classes_at problem s)))
              (sym (get_or-set_same zone s r (range 0 0) there)) (ordered, within))
          | inr apart ↦ subst (λ q. (q.first ≤ q.last) × (q.last < length (classes_at problem t))) (sym (other_at r t apart))
              (is.ranges t inside)
        ];
  }

  pub lower-is_zone : IsZone problem (lower_part zone s class)
  lower-is_zone = part_is_zone (range (range_at zone s).first class) from (omega (arith, (is.ranges s there).1))

  pub upper-is_zone : IsZone problem (upper_part zone s class)
  upper-is_zone = part_is_zone (range (class + 1) (range_at zone s).last) (omega arith) (is.ranges s there).1
