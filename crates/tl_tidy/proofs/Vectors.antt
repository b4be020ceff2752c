-- Class vectors: the zone of one, the vectors of a zone, and the one vector of a zone of one class for each span.
use Rattle.std.proofs.Common.{◌≡◌, ℕ, ◌<◌, ◌≤◌, suc, List, [], ◌∷◌, inl, inr, length, map, get_or, refl, sym}
use Rattle.std.proofs.Common.{ap, ap₂, ◌∙◌, subst, arith}
use Rattle.std.proofs.lemmas.Bool.{cases_lt}
use Rattle.std.proofs.lemmas.Grind.{same_number_lists}
use Rattle.std.proofs.lemmas.List.{length-map, get_or-map}
use Rattle.tl_problem.specs.declared.zone.Range.{Range}
use Rattle.tl_problem.specs.Problem.{ProblemModel}
use Rattle.tl_problem.specs.Sound.{IsSound}
use Rattle.tl_problem.specs.Spans.{spans_of}
use Rattle.tl_problem.specs.Zones.{classes_at, first_in_class, last_in_class, range, range_at, IsZone, whole_zone, span_width}
use Rattle.tl_problem.specs.Zones.{IsVector, HasVector, InZone}
use Rattle.tl_problem.specs.Agreement.{HasOneClass}
use Rattle.tl_problem.proofs.ZoneLaws.{whole-range, whole-is_zone, earlier_end, later_start}
use Rattle.tl_tidy.specs.Classes.{HoldsLow, zone_of_vector, IsBefore}
use Rattle.tl_tidy.specs.Needs.{ZoneHoldsLow}
use Rattle.tl_tidy.specs.inner.Walk.{IsFirstIn}

-- a set holds a layout that is low enough if one within it does
pub holds-within : (problem : ProblemModel) (height : ℕ) (A B : List ℕ → Type 0) → ((widths : List ℕ) → A widths → B widths) →
    HoldsLow problem height A → HoldsLow problem height B
holds-within problem height A B within holds = record {
  widths = holds.widths;
  heights = holds.heights;
  among = within holds.widths holds.among;
  layout = holds.layout;
  low = holds.low;
}

-- of two vectors each before the other there are none
pub before-once : (vector other : List ℕ) → IsBefore vector other → IsBefore other vector → ⊥
before-once vector other one two =
    elim (cases_lt one.span two.span) [
      | inl less ↦ omega (arith, one.less, two.same one.span less)
      | inr more ↦ elim (cases_lt two.span one.span) [
        | inl above ↦ omega (arith, two.less, one.same two.span above)
        | inr last ↦
            let same : two.span ≡ one.span = omega (arith, more, last) in
            let here = subst (λ s. get_or other s 0 < get_or vector s 0) same two.less in
            omega (arith, one.less, here)
      ]
    ]

-- ---- the classes of a span

module _ (problem : ProblemModel) (sound : IsSound problem) (s : ℕ) (there : s < length (spans_of problem)) (a b : ℕ) (le : a ≤ b)
    (within : b < length (classes_at problem s)) where
  -- a later class begins no earlier
  start-le : first_in_class problem s a ≤ first_in_class problem s b
  start-le =
      elim (cases_lt a b) [
        | inr last ↦ let same : a ≡ b = omega (arith, le, last) in omega (arith, ap (first_in_class problem s) same)
        | inl less ↦
            let whole = whole-range problem s there in
            later_start problem sound (whole_zone problem) (whole-is_zone problem) s 0
            (omega (arith, there, (whole-is_zone problem).spans)) (omega (arith, ap (λ r. r.first) whole))
            (omega (arith, ap (λ r. r.last) whole, less, within)) a b le within
      ]

  -- and ends no earlier
  end-le : last_in_class problem s a ≤ last_in_class problem s b
  end-le =
      elim (cases_lt a b) [
        | inr last ↦ let same : a ≡ b = omega (arith, le, last) in omega (arith, ap (last_in_class problem s) same)
        | inl less ↦
            let whole = whole-range problem s there in
            earlier_end problem sound (whole_zone problem) (whole-is_zone problem) s 0
            (omega (arith, there, (whole-is_zone problem).spans)) (omega (arith, ap (λ r. r.first) whole))
            (omega (arith, ap (λ r. r.last) whole, less, within)) a b le within
      ]

-- ---- the zone of a vector

-- the range of a span in it
vector-range : (vector : List ℕ) (s : ℕ) → s < length vector →
    range_at (zone_of_vector vector) s ≡ range (get_or vector s 0) (get_or vector s 0)
vector-range vector s within = get_or-map (λ class. range class class) vector s 0 (range 0 0) within

module _ (problem : ProblemModel) (sound : IsSound problem) where
  -- a vector of a zone has its widths within the zone
  pub vector-inside : (zone : List Range) → IsZone problem zone → (vector : List ℕ) → IsVector problem vector →
      HasVector zone vector → (widths : List ℕ) →
      InZone problem (zone_of_vector vector) widths → InZone problem zone widths
  vector-inside zone is vector of has widths inside = record {
    page = inside.page;
    ranges = λ s within.
        let there : s < length (spans_of problem) = omega (arith, within, is.spans) in
        let long : s < length vector = omega (arith, there, of.spans) in
        let class = get_or vector s 0 in
        let here = subst (λ r. (first_in_class problem s r.first ≤ span_width problem widths s) ×
        (span_width problem widths s ≤ last_in_class problem s r.last)) (vector-range vector s long)
        (inside.ranges s (omega (arith, long, length-map vector (λ (c : ℕ). range c c)))) in
        let ranges = has s within in
        let start = start-le problem sound s there (range_at zone s).first class ranges.0 (of.classes s long) in
        let end = end-le problem sound s there class (range_at zone s).last ranges.1 (is.ranges s within).1 in
        (omega (arith, here.0, start), omega (arith, here.1, end));
  }

-- ---- a zone of one class for each span

-- the first classes of a zone
abbrev pub firsts : List Range → List ℕ
firsts zone = map (λ r. r.first) zone

pub firsts-zone : (zone : List Range) → HasOneClass zone → zone_of_vector (firsts zone) ≡ zone
firsts-zone [] one = refl
firsts-zone (r ∷ zone) one =
    let same : r.first ≡ r.last = one 0 r (omega arith) in
    ap₂ (λ (first : Range) (rest : List Range). first ∷ rest) (ap (range r.first) same)
    (firsts-zone zone (λ k d within. one (suc k) d (omega arith)))

module _ (problem : ProblemModel) (zone : List Range) (is : IsZone problem zone) where
  firsts-at : (s : ℕ) → s < length zone → get_or (firsts zone) s 0 ≡ (range_at zone s).first
  firsts-at s within = get_or-map (λ r. r.first) zone s (range 0 0) 0 within

  firsts-vector : IsVector problem (firsts zone)
  firsts-vector = record {
    spans = length-map zone (λ r. r.first) ∙ is.spans;
    classes = λ s within.
        let inside : s < length zone = omega (arith, within, length-map zone (λ (r : Range). r.first)) in
        omega (arith, firsts-at s inside, (is.ranges s inside).0, (is.ranges s inside).1);
  }

  pub firsts-inside : HasVector zone (firsts zone)
  firsts-inside s within =
      (omega (arith, firsts-at s within), omega (arith, firsts-at s within, (is.ranges s within).0))

  -- the one vector of the zone comes first, if a layout in the zone is low enough
  pub one-first : (height : ℕ) → HasOneClass zone → ZoneHoldsLow problem height zone →
      IsFirstIn problem height zone (firsts zone)
  one-first height one holds = record {
    inside = firsts-inside;
    low = record {
      vectors = firsts-vector;
      holds = subst (ZoneHoldsLow problem height) (sym (firsts-zone zone one)) holds;
    };
    first = λ other has low. inl (same_number_lists (firsts zone) other
        (omega (arith, length-map zone (λ (r : Range). r.first), is.spans, low.vectors.spans)) (λ s within.
        let inside : s < length zone = omega (arith, within, length-map zone (λ (r : Range). r.first)) in
        omega (arith, firsts-at s inside, one s (range 0 0) inside, (has s inside).0, (has s inside).1)));
  }
