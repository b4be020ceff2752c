-- A zone of a trace from the zone that it was cut from, span by span.
use Rattle.std.proofs.Common.{◌≡◌, ◌≢◌, ℕ, ◌+◌, ◌-◌, ◌*◌, ◌/◌, ◌%◌, ◌<◌, ◌≤◌, min, max, List}
use Rattle.std.proofs.Common.{inl, inr, length, get_or, refl, sym, ap, ◌∙◌, subst, arith}
use Rattle.std.proofs.lemmas.List.{get_or-set_same, get_or-set_other}
use Rattle.tl_problem.specs.declared.zone.Range.{Range}
use Rattle.tl_problem.specs.Problem.{ProblemModel}
use Rattle.tl_problem.specs.Sound.{IsSound}
use Rattle.tl_problem.specs.Spans.{spans_of}
use Rattle.tl_problem.specs.Zones.{classes_at, range, range_at, whole_zone, lower_part, upper_part}
use Rattle.tl_problem.proofs.ZoneLaws.{cases_eq, whole-range}
use Rattle.tl_cert.specs.declared.trace.CutAt.{CutAt}
use Rattle.tl_cert.specs.Traces.{IsTraceOf, IsZoneOf, zone_of}
use Rattle.tl_cert.proofs.TraceLaws.{zone-old, trace-by, zones-are}
use Rattle.tl_cert.proofs.CutParts.{HasParts, has-parts}
use Rattle.tl_check.specs.inner.Zones.{IsWithinClasses}

-- ---- the number of the cut by which a zone came to be

pub halves-odd : (z : ℕ) → 0 < z → z % 2 ≡ 1 → 2 * ((z - 1) / 2) + 1 ≡ z
halves-odd z some odd = omega (arith, some, odd)

pub halves-even : (z : ℕ) → 0 < z → z % 2 ≢ 1 → 2 * ((z - 1) / 2) + 2 ≡ z
halves-even z some even = omega (arith, some, even)

pub cut-there : (z n : ℕ) → 0 < z → z < 2 * n + 1 → (z - 1) / 2 < n
cut-there z n some there = omega (arith, some, there)

-- the cut by which a zone came to be
abbrev pub cut_to : List CutAt → ℕ → CutAt → CutAt
cut_to trace zone d = get_or trace ((zone - 1) / 2) d

module _ (problem : ProblemModel) (trace : List CutAt) (is_trace : IsTraceOf problem trace) (zone : ℕ) (some : 0 < zone)
    (there : IsZoneOf trace zone)
    (d : CutAt) where
  pub cut-known : HasParts (whole_zone problem) trace ((zone - 1) / 2) (cut_to trace zone d)
  cut-known = has-parts (whole_zone problem) trace is_trace ((zone - 1) / 2) d (cut-there zone (length trace) some there)

  pub parent-there : IsZoneOf trace (cut_to trace zone d).zone
  parent-there = omega (arith, cut-known.before, cut-there zone (length trace) some there)

  pub parent-less : (cut_to trace zone d).zone < zone
  parent-less = elim (cases_eq (zone % 2) 1) [
    | inl odd ↦ omega (arith, cut-known.before, halves-odd zone some odd)
    | inr even ↦ omega (arith, cut-known.before, halves-even zone some even)
  ]

-- zone 0 is the whole
pub zone-first : (problem : ProblemModel) (trace : List CutAt) → IsTraceOf problem trace →
    zone_of problem trace 0 ≡ whole_zone problem
zone-first problem trace is_trace = trace-by (whole_zone problem) (λ cuts. zone_of problem cuts 0 ≡ whole_zone problem) refl
    (λ cuts cut before now same. zone-old (whole_zone problem) cuts cut 0 (omega arith) ∙ same) trace is_trace

-- ---- span by span

module _ (problem : ProblemModel) (sound : IsSound problem) (trace : List CutAt) (is_trace : IsTraceOf problem trace) (s : ℕ)
    (inside : s < length (spans_of problem)) where
  abbrev range_of : ℕ → Range
  range_of z = range_at (zone_of problem trace z) s

  long : (z : ℕ) → IsZoneOf trace z → s < length (zone_of problem trace z)
  long z there = omega (arith, inside, (zones-are problem sound trace is_trace z there).spans)

  -- the lower part of a cut ends at the cut's class, the upper part begins after it, and other spans keep their classes
  pub low-here : (i : ℕ) (cut : CutAt) → i < length trace → HasParts (whole_zone problem) trace i cut → cut.span ≡ s →
      range_of (2 * i + 1) ≡ range (range_of cut.zone).first cut.class
  low-here i cut within h here =
      let zone = zone_of problem trace cut.zone in
      ap (λ z. range_at z s) h.low_is ∙ ap (λ t. range_at (lower_part zone t cut.class) s) here
      ∙ get_or-set_same zone s (range (range_at zone s).first cut.class) (range 0 0)
      (long cut.zone (omega (arith, h.before, within)))

  pub high-here : (i : ℕ) (cut : CutAt) → i < length trace → HasParts (whole_zone problem) trace i cut → cut.span ≡ s →
      range_of (2 * i + 2) ≡ range (cut.class + 1) (range_of cut.zone).last
  high-here i cut within h here =
      let zone = zone_of problem trace cut.zone in
      ap (λ z. range_at z s) h.high_is ∙ ap (λ t. range_at (upper_part zone t cut.class) s) here
      ∙ get_or-set_same zone s (range (cut.class + 1) (range_at zone s).last) (range 0 0)
      (long cut.zone (omega (arith, h.before, within)))

  pub low-other : (i : ℕ) (cut : CutAt) → HasParts (whole_zone problem) trace i cut → cut.span ≢ s →
      range_of (2 * i + 1) ≡ range_of cut.zone
  low-other i cut h apart =
      let zone = zone_of problem trace cut.zone in
      ap (λ z. range_at z s) h.low_is
      ∙ get_or-set_other zone cut.span s (range (range_at zone cut.span).first cut.class) (range 0 0) (λ same. apart (sym same))

  pub high-other : (i : ℕ) (cut : CutAt) → HasParts (whole_zone problem) trace i cut → cut.span ≢ s →
      range_of (2 * i + 2) ≡ range_of cut.zone
  high-other i cut h apart =
      let zone = zone_of problem trace cut.zone in
      ap (λ z. range_at z s) h.high_is
      ∙ get_or-set_other zone cut.span s (range (cut.class + 1) (range_at zone cut.span).last) (range 0 0)
      (λ same. apart (sym same))

  -- the classes of a zone in the range of the zone that was cut, one cut further up
  module _ (top zone first last : ℕ) (some : 0 < zone) (there : IsZoneOf trace zone) (d : CutAt)
      (within : IsWithinClasses (range_of top) (range_of zone) first last) where
    abbrev cut_of : CutAt
    cut_of = cut_to trace zone d

    known : HasParts (whole_zone problem) trace ((zone - 1) / 2) cut_of
    known = cut-known problem trace is_trace zone some there d

    -- the class of the cut, and the one after it, are classes of the span
    pub cut-class : cut_of.span ≡ s → cut_of.class + 1 < length (classes_at problem s)
    cut-class here =
        let before : IsZoneOf trace cut_of.zone = parent-there problem trace is_trace zone some there d in
        let ranges = (zones-are problem sound trace is_trace cut_of.zone before).ranges s (long cut_of.zone before) in
        let upper = subst (λ t. cut_of.class < (range_at (zone_of problem trace cut_of.zone) t).last) here known.upper in
        omega (arith, ranges.1, upper)

    pub walk-low : zone % 2 ≡ 1 → cut_of.span ≡ s → IsWithinClasses (range_of top) (range_of cut_of.zone) first
        (min cut_of.class last)
    walk-low odd here =
        let at = ap range_of (sym (halves-odd zone some odd)) ∙ low-here ((zone - 1) / 2) cut_of
        (cut-there zone (length trace) some there) known here in
        let upper = subst (λ t. cut_of.class < (range_at (zone_of problem trace cut_of.zone) t).last) here known.upper in
        record {
          from = within.from ∙ ap (λ r. max first r.first) at;
          upto = omega (arith, within.upto, ap (λ r. r.last) at, upper);
        }

    pub walk-high : zone % 2 ≢ 1 → cut_of.span ≡ s → IsWithinClasses (range_of top) (range_of cut_of.zone)
        (max (cut_of.class + 1) first) last
    walk-high even here =
        let at = ap range_of (sym (halves-even zone some even)) ∙ high-here ((zone - 1) / 2) cut_of
        (cut-there zone (length trace) some there) known here in
        let lower = subst (λ t. (range_at (zone_of problem trace cut_of.zone) t).first ≤ cut_of.class) here known.lower in
        record {
          from = omega (arith, within.from, ap (λ r. r.first) at, lower);
          upto = within.upto ∙ ap (λ r. min last r.last) at;
        }

    pub walk-other : cut_of.span ≢ s → IsWithinClasses (range_of top) (range_of cut_of.zone) first last
    walk-other apart =
        let at : range_of zone ≡ range_of cut_of.zone = elim (cases_eq (zone % 2) 1) [
          | inl odd ↦ ap range_of (sym (halves-odd zone some odd)) ∙ low-other ((zone - 1) / 2) cut_of known apart
          | inr even ↦ ap range_of (sym (halves-even zone some even)) ∙ high-other ((zone - 1) / 2) cut_of known apart
        ] in
        record { from = within.from ∙ ap (λ r. max first r.first) at; upto = within.upto ∙ ap (λ r. min last r.last) at }

  -- a class of a cut is one of its span's
  pub class-small : (i : ℕ) (cut : CutAt) → i < length trace → HasParts (whole_zone problem) trace i cut → cut.span ≡ s
      → cut.class < length (classes_at problem s)
  class-small i cut within h here =
      let ranges = (zones-are problem sound trace is_trace cut.zone (omega (arith, h.before, within))).ranges s
      (long cut.zone (omega (arith, h.before, within))) in
      let upper = subst (λ t. cut.class < (range_at (zone_of problem trace cut.zone) t).last) here h.upper in
      omega (arith, ranges.1, upper)

  -- at the whole the walk has found the classes
  pub walk-start : (top last : ℕ) → IsZoneOf trace top → last + 1 ≡ length (classes_at problem s) →
      IsWithinClasses (range_of top) (range_of top) 0 last
  walk-start top last there is_last =
      let ranges = (zones-are problem sound trace is_trace top there).ranges s (long top there) in
      record { from = omega arith; upto = omega (arith, ranges.1, is_last) }

  pub walk-end : (top first last : ℕ) → last < length (classes_at problem s) →
      IsWithinClasses (range_of top) (range_of 0) first last →
      range first last ≡ range_of top
  walk-end top first last small within =
      let whole : range_of 0 ≡ range 0 (length (classes_at problem s) - 1) =
      ap (λ z. range_at z s) (zone-first problem trace is_trace) ∙ whole-range problem s inside in
      let one : first ≡ (range_of top).first = omega (arith, within.from, ap (λ r. r.first) whole) in
      let other : last ≡ (range_of top).last = omega (arith, within.upto, ap (λ r. r.last) whole, small) in
      ap (λ f. range f last) one ∙ ap (range (range_of top).first) other

  -- the range of a zone is among the span's classes
  pub range-small : (z : ℕ) → IsZoneOf trace z → (r : Range) → r ≡ range_of z →
      (r.first < length (classes_at problem s)) × (r.last < length (classes_at problem s))
  range-small z there r is =
      let ranges = (zones-are problem sound trace is_trace z there).ranges s (long z there) in
      (omega (arith, ap (λ (q : Range). q.first) is, ranges.0, ranges.1), omega (arith, ap (λ (q : Range). q.last) is, ranges.1))
