-- Constraints of the page and of a zone's ranges, one after another, and the sets of widths that they leave.
use Rattle.std.proofs.Common.{◌≡◌, ℕ, ◌+◌, ◌-◌, ◌*◌, ◌<◌, ◌≤◌, ℤ, pos, ◌≤ℤ◌, Bool, true, false, IsTrue, List, [], ◌∷◌, inl, inr}
use Rattle.std.proofs.Common.{length}
use Rattle.std.proofs.Common.{refl, sym, ap, ◌∙◌, arith}
use Rattle.std.proofs.lemmas.Int.{ints}
use Rattle.std.proofs.lemmas.Bool.{cases_eq, cases_lt}
use Rattle.std.proofs.lemmas.List.{get_or_default, get_or_past}
use Rattle.std.proofs.lemmas.List.Elements.{Contains-get_or}
use Rattle.tl_base.specs.declared.limits.TheConstants.{MAX_PAGE_WIDTH}
use Rattle.tl_base.specs.Steps.{first_width}
use Rattle.tl_diff.specs.Bounds.{Bounds, Satisfies, IsSatisfiable, HasNoGreatest, IsLeast}
use Rattle.tl_diff.specs.Marks.{MarkedBounds}
use Rattle.tl_problem.specs.declared.zone.Range.{Range}
use Rattle.tl_base.specs.Sizes.{position, room}
use Rattle.tl_problem.specs.Problem.{ProblemModel, cell_width, total_width}
use Rattle.tl_problem.specs.Layouts.{WithinPage}
use Rattle.tl_problem.specs.Sound.{IsSound}
use Rattle.tl_problem.specs.Spans.{span, spans_of, least_width, page_room}
use Rattle.tl_problem.specs.Zones.{span_at, classes_at, range_at, first_in_class, last_in_class, span_width, IsWidthOf, InZone}
use Rattle.tl_problem.specs.Bounds.{HasNoWidths, IsGreatestRoom}
use Rattle.tl_problem.specs.Placements.{AreLeast}
use Rattle.tl_problem.specs.Works.{places, AreAllowed, KeepsPage, widths_of}
use Rattle.tl_problem.specs.inner.Needs.{IsLeastRoom}
use Rattle.tl_problem.specs.inner.Demands.{cell_at, no_cell}
use Rattle.tl_problem.specs.inner.Constraints.{StandApart, AreNear, PageUpto, AddsFact, HasFirst, HasLast, AddsRanges}
use Rattle.tl_base.proofs.SizeLaws.{total-position, room-position, position-mono, position-gap}
use Rattle.tl_problem.proofs.SpanLaws.{room-in_page, least_width-le, least_width-within, classes-first, classes-cases}
use Rattle.tl_problem.proofs.SpanLaws.{has_span-from, spans-Contains}
use Rattle.tl_problem.proofs.ZoneLaws.{span-within}
use Rattle.tl_problem.proofs.NeedLemmas.{All-from_numbers}
use Rattle.tl_problem.proofs.WorkLemmas.{left-from, left-room, left-position}

position-start : (gap : ℕ) (widths : List ℕ) → position gap widths 0 ≡ 0
position-start gap widths = omega arith

-- ---- the page

pub page-satisfiable : (problem : ProblemModel) (columns spans : ℕ) (matrix : MarkedBounds) →
    PageUpto problem columns spans matrix →
    IsSatisfiable matrix.bounds
page-satisfiable problem columns spans matrix h = let fits = h.sound.fits in
    (places problem fits.0, (h.whole fits.0 fits.1).satisfies)

module _ (problem : ProblemModel) (k : ℕ) (old new : MarkedBounds) where
  pub PageUpto-gap : (spans : ℕ) → k < problem.cols → PageUpto problem k spans old →
      AddsFact old new (λ x. StandApart x k (k + 1) problem.spacing.gap) →
      PageUpto problem (k + 1) spans new
  PageUpto-gap spans inside h adds = record {
    sound = h.sound;
    variables = adds.variables ∙ h.variables;
    marks = adds.marks ∙ h.marks;
    none_held = adds.held ∙ h.none_held;
    whole = λ widths page.
        let before = h.whole widths page in
        let step = position-gap problem.spacing.gap widths k in
        record {
          columns = before.columns;
          satisfies = adds.all (places problem widths) before.satisfies
              (omega (arith, ints, step));
        };
    gaps = λ x meets j below. elim (cases_eq j k) [
      | inl same ↦ rw same (adds.adds x meets)
      | inr apart ↦ h.gaps x (adds.keeps x meets) j (omega arith)
    ];
    rooms = λ x meets j below. h.rooms x (adds.keeps x meets) j below;
  }

  pub PageUpto-room : k < length (spans_of problem) → PageUpto problem 0 k old →
      AddsFact old new (λ x. StandApart x (span_at problem k).left (span_at problem k).right
      (first_in_class problem k 0 + problem.spacing.gap)) → PageUpto problem 0 (k + 1) new
  PageUpto-room inside h adds = record {
    sound = h.sound;
    variables = adds.variables ∙ h.variables;
    marks = adds.marks ∙ h.marks;
    none_held = adds.held ∙ h.none_held;
    whole = λ widths page.
        let before = h.whole widths page in
        let columns = span_at problem k in
        let ahead = (span-within problem h.sound k inside).0 in
        let step = room-position problem.spacing.gap widths columns.left columns.right ahead in
        let least = least_width-within problem columns widths page in
        record {
          columns = before.columns;
          satisfies = adds.all (places problem widths) before.satisfies
              (omega (arith, ints, step, least, classes-first problem columns 0));
        };
    gaps = λ x meets j below. absurd (omega arith);
    rooms = λ x meets j below. elim (cases_eq j k) [
      | inl same ↦ rw same (adds.adds x meets)
      | inr apart ↦ h.rooms x (adds.keeps x meets) j (omega arith)
    ];
  }

-- a cell has its least width where its span has that of its first class
cell-apart : (problem : ProblemModel) → IsSound problem → (x : ℕ → ℤ) →
    ((s : ℕ) → s < length (spans_of problem) →
    StandApart x (span_at problem s).left (span_at problem s).right (first_in_class problem s 0 + problem.spacing.gap)) →
    (k : ℕ) → k < length problem.cells →
    StandApart x (cell_at problem.cells k).left (cell_at problem.cells k).right
    (first_width (cell_at problem.cells k).low + problem.spacing.gap)
cell-apart problem sound x rooms k within =
    let cell = cell_at problem.cells k in
    let has = Contains-get_or problem.cells k no_cell within in
    let (s, inside, is) = spans-Contains problem sound cell has in
    let here : span_at problem s ≡ span cell.left cell.right = get_or_default (spans_of problem) s _ _ inside ∙ is in
    let least = least_width-le problem (span cell.left cell.right) cell has (has_span-from (span cell.left cell.right) cell refl
    refl) in
    let first = ap (λ columns. least_width problem columns) here in
    let room = rw here at (rooms s inside) in
    omega (arith, ints, room, least, classes-first problem (span cell.left cell.right) 0)

module _ (problem : ProblemModel) (old new : MarkedBounds) (h : PageUpto problem problem.cols (length (spans_of problem)) old)
    (adds : AddsFact old new
    (λ x. AreNear x 0 problem.cols (problem.width + problem.spacing.gap - problem.spacing.edges))) where
  total-within : (widths : List ℕ) → length widths ≡ problem.cols →
      position problem.spacing.gap widths problem.cols ≤ problem.width + problem.spacing.gap - problem.spacing.edges →
      total_width problem widths ≤ problem.width
  total-within [] columns ends = omega arith
  total-within (w ∷ widths) columns ends =
      let whole = total-position problem.spacing.gap problem.spacing.edges (w ∷ widths) (omega arith) in
      let at = ap (position problem.spacing.gap (w ∷ widths)) columns in
      let one = position-mono problem.spacing.gap (w ∷ widths) 1 problem.cols (omega (arith, columns)) in
      let first = position-gap problem.spacing.gap (w ∷ widths) 0 in
      let some = h.sound.spaced.apart in
      omega (arith, whole, at, one, first, some, ends)

  ends-within : (widths : List ℕ) → WithinPage problem widths →
      position problem.spacing.gap widths problem.cols ≤ problem.width + problem.spacing.gap - problem.spacing.edges
  ends-within widths page =
      elim (cases_lt 0 problem.cols) [
        | inr none ↦
            let zero_cols : problem.cols ≡ 0 = omega arith in
            rw zero_cols (omega (arith, position-start problem.spacing.gap widths))
        | inl some ↦
            let whole = total-position problem.spacing.gap problem.spacing.edges widths (omega (arith, page.columns)) in
            let at = ap (position problem.spacing.gap widths) page.columns in
            omega (arith, whole, at, page.page)
      ]

  pub KeepsPage-ends : KeepsPage problem new.bounds
  KeepsPage-ends = record {
    variables = adds.variables ∙ h.variables;
    gaps = λ x meets k below. h.gaps x (adds.keeps x meets) k below;
    page = λ widths left.
        let ends = adds.adds (places problem widths) left.satisfies in
        let start = position-start problem.spacing.gap widths in
        record {
          columns = left.columns;
          page = total-within widths left.columns (omega (arith, ints, ends, start));
          cells = All-from_numbers (λ cell. first_width cell.low ≤ cell_width problem widths cell) problem.cells (λ k within.
              let cell = cell_at problem.cells k in
              let apart = cell-apart problem h.sound (places problem widths)
              (h.rooms (places problem widths) (adds.keeps (places problem widths) left.satisfies)) k within in
              let step = room-position problem.spacing.gap widths cell.left cell.right
              (h.sound.cells k no_cell within).columns.0 in
              omega (arith, ints, apart, step));
        };
  }

  pub whole-ends : (widths : List ℕ) → WithinPage problem widths → AreAllowed problem new.bounds widths
  whole-ends widths page =
      let before = h.whole widths page in
      let ends = ends-within widths page in
      let start = position-start problem.spacing.gap widths in
      record {
        columns = before.columns;
        satisfies = adds.all (places problem widths) before.satisfies
            (omega (arith, ints, ends, start));
      }

-- ---- the ranges of a zone

pub KeepsPage-adds : (problem : ProblemModel) (old new : Bounds) → new.n ≡ old.n →
    ((x : ℕ → ℤ) → Satisfies new x → Satisfies old x) →
    KeepsPage problem old → KeepsPage problem new
KeepsPage-adds problem old new same keeps h = record {
  variables = same ∙ h.variables;
  gaps = λ x meets k below. h.gaps x (keeps x meets) k below;
  page = λ widths left. h.page widths (record {
    columns = left.columns;
    satisfies =
        keeps (places problem widths) left.satisfies;
  });
}

pub AddsFact-none : (matrix : MarkedBounds) (Fact : (ℕ → ℤ) → Type 0) → ((x : ℕ → ℤ) → Satisfies matrix.bounds x → Fact x) →
    AddsFact matrix matrix Fact
AddsFact-none matrix Fact so = record {
  variables = refl;
  marks = refl;
  held = refl;
  keeps = λ x meets. meets;
  adds = so;
  all = λ x meets fact. meets;
}

module _ (problem : ProblemModel) (sound : IsSound problem) (zone : List Range) (s : ℕ)
    (inside : s < length (spans_of problem)) where
  abbrev left_of : ℕ
  left_of = (span_at problem s).left

  abbrev right_of : ℕ
  right_of = (span_at problem s).right

  -- the first class begins at the least width, which the page keeps
  pub first-kept : (bounds : Bounds) → KeepsPage problem bounds → (range_at zone s).first ≡ 0 → (x : ℕ → ℤ) →
      Satisfies bounds x → HasFirst problem zone s x
  first-kept bounds keeps none x meets =
      let widths = widths_of x problem.spacing.gap problem.cols in
      let span = span-within problem sound s inside in
      let at = left-room problem bounds keeps left_of right_of span.0 span.1 x meets in
      let page = keeps.page widths (left-from problem bounds keeps x meets) in
      let least = least_width-within problem (span_at problem s) widths page in
      let first = ap (first_in_class problem s) none ∙ classes-first problem (span_at problem s) 0 in
      omega (arith, ints, at, least, first)

  -- the last class ends with the page
  pub last-kept : (bounds : Bounds) → KeepsPage problem bounds → (range_at zone s).last + 1 ≡ length (classes_at problem s) →
      (x : ℕ → ℤ) →
      Satisfies bounds x → HasLast problem zone s x
  last-kept bounds keeps all x meets =
      let widths = widths_of x problem.spacing.gap problem.cols in
      let span = span-within problem sound s inside in
      let at = left-room problem bounds keeps left_of right_of span.0 span.1 x meets in
      let page = keeps.page widths (left-from problem bounds keeps x meets) in
      let most = room-in_page problem widths page left_of right_of span.0 span.1 in
      let last = get_or_past (classes_at problem s) ((range_at zone s).last + 1) (page_room problem + 1) (omega (arith, all)) in
      omega (arith, ints, at, most, last)

  -- widths have the range of a span where their places do
  range-first : (widths : List ℕ) → HasFirst problem zone s (places problem widths) →
      first_in_class problem s (range_at zone s).first ≤ span_width problem widths s
  range-first widths has =
      let step = room-position problem.spacing.gap widths left_of right_of (span-within problem sound s inside).0 in
      omega (arith, ints, step, has)

  first-range : (widths : List ℕ) → first_in_class problem s (range_at zone s).first ≤ span_width problem widths s →
      HasFirst problem zone s (places problem widths)
  first-range widths has =
      let step = room-position problem.spacing.gap widths left_of right_of (span-within problem sound s inside).0 in
      omega (arith, ints, step, has)

  range-last : (widths : List ℕ) → HasLast problem zone s (places problem widths) →
      span_width problem widths s ≤ last_in_class problem s (range_at zone s).last
  range-last widths has =
      let step = room-position problem.spacing.gap widths left_of right_of (span-within problem sound s inside).0 in
      omega (arith, ints, step, has)

  last-range : (widths : List ℕ) → span_width problem widths s ≤ last_in_class problem s (range_at zone s).last →
      HasLast problem zone s (places problem widths)
  last-range widths has =
      let step = room-position problem.spacing.gap widths left_of right_of (span-within problem sound s inside).0 in
      omega (arith, ints, step, has)

  module _ (in_zone : s < length zone) (old mid : MarkedBounds) (h : AddsRanges problem zone s old mid (Unit {0})) where
    -- where the first class of the span leaves no widths
    pub AddsRanges-first : (new : MarkedBounds) → AddsFact mid new (HasFirst problem zone s) → (Whole : Type 0) → (Whole → ⊥) →
        AddsRanges problem zone (length zone) old new Whole
    AddsRanges-first new first Whole none = record {
      variables = first.variables ∙ h.variables;
      marks = first.marks ∙ h.marks;
      held = first.held ∙ h.held;
      keeps = λ x meets. h.keeps x (first.keeps x meets);
      from = λ widths left each.
          let before = h.from widths left each in
          record {
            columns = before.columns;
            satisfies = first.all (places problem widths) before.satisfies
                (first-range widths (each s in_zone).0);
          };
      to = λ whole. absurd (none whole);
    }

    module _ (half new : MarkedBounds) (first : AddsFact mid half (HasFirst problem zone s))
        (last : AddsFact half new (HasLast problem zone s)) where
      left-new : (widths : List ℕ) → AreAllowed problem old.bounds widths →
          ((r : ℕ) → r < length zone → IsWidthOf problem zone r (span_width problem widths r)) →
          AreAllowed problem new.bounds widths
      left-new widths left each =
          let before = h.from widths left each in
          record {
            columns = before.columns;
            satisfies = last.all (places problem widths) (first.all (places problem widths) before.satisfies
                (first-range widths (each s in_zone).0))
                (last-range widths (each s in_zone).1);
          }

      -- where its last class leaves none
      pub AddsRanges-last : (Whole : Type 0) → (Whole → ⊥) → AddsRanges problem zone (length zone) old new Whole
      AddsRanges-last Whole none = record {
        variables = last.variables ∙ first.variables ∙ h.variables;
        marks = last.marks ∙ first.marks ∙ h.marks;
        held = last.held ∙ first.held ∙ h.held;
        keeps = λ x meets. h.keeps x (first.keeps x (last.keeps x meets));
        from = left-new;
        to = λ whole. absurd (none whole);
      }

      pub AddsRanges-more : AddsRanges problem zone (s + 1) old new (Unit {0})
      AddsRanges-more = record {
        variables = last.variables ∙ first.variables ∙ h.variables;
        marks = last.marks ∙ first.marks ∙ h.marks;
        held = last.held ∙ first.held ∙ h.held;
        keeps = λ x meets. h.keeps x (first.keeps x (last.keeps x meets));
        from = left-new;
        to = λ whole widths left r below.
            let half_left = last.keeps (places problem widths) left.satisfies in
            elim (cases_eq r s) [
              | inl same ↦ rw same (
                range-first widths (first.adds (places problem widths) half_left),
                range-last widths
                    (last.adds (places problem widths) left.satisfies),
              )
              | inr apart ↦ h.to tt widths (record {
                columns = left.columns;
                satisfies =
                    first.keeps (places problem widths) half_left;
              }) r (omega arith)
            ];
      }

pub AddsRanges-none : (problem : ProblemModel) (zone : List Range) (matrix : MarkedBounds) →
    AddsRanges problem zone 0 matrix matrix (Unit {0})
AddsRanges-none problem zone matrix = record {
  variables = refl;
  marks = refl;
  held = refl;
  keeps = λ x meets. meets;
  from = λ widths left each. left;
  to = λ whole widths left s below. absurd (omega arith);
}

-- ---- a matrix is its parts

pub same-matrix : (a b : MarkedBounds) → a.marks ≡ b.marks → a.bounds ≡ b.bounds → a.held ≡ b.held → a ≡ b
same-matrix a b marks bounds held = made (λ m n h. record { marks = m; bounds = n; held = h })
    a.marks b.marks a.bounds b.bounds a.held b.held marks
    bounds held where
      made : {X Y Z W : Type 0} (make : X → Y → Z → W) (x x' : X) (y y' : Y) (z z' : Z) → x ≡ x' → y ≡ y' → z ≡ z' →
          make x y z ≡ make x' y' z'
      made make x x' y y' z z' one two three = cc

-- ---- rooms within a page are small, and there is a greatest

pub room-small : (problem : ProblemModel) → IsSound problem → (widths : List ℕ) → WithinPage problem widths → (left right : ℕ) →
    left < right →
    right ≤ problem.cols → room problem.spacing.gap widths left right ≤ MAX_PAGE_WIDTH
room-small problem sound widths page left right ahead within =
    omega (arith, room-in_page problem widths page left right ahead within, sound.narrow)

module _ (problem : ProblemModel) (sound : IsSound problem) (bounds : Bounds) (keeps : KeepsPage problem bounds) (left right : ℕ)
    (ahead : left < right) (within : right ≤ problem.cols) where
  pub greatest-small : (w : ℕ) → IsGreatestRoom problem (AreAllowed problem bounds) left right w → w ≤ MAX_PAGE_WIDTH
  greatest-small w is =
      let small = room-small problem sound is.attained.0 (keeps.page is.attained.0 is.attained.1) left right ahead within in
      omega (arith, small, is.attained.2)

  pub greatest-some : HasNoGreatest bounds left right → ⊥
  greatest-some none =
      let more = none (pos (2 * MAX_PAGE_WIDTH)) in
      let at = left-room problem bounds keeps left right ahead within more.0 more.1.0 in
      let page = keeps.page (widths_of more.0 problem.spacing.gap problem.cols)
      (left-from problem bounds keeps more.0 more.1.0) in
      let small = room-small problem sound (widths_of more.0 problem.spacing.gap problem.cols) page left right ahead within in
      omega (arith, ints, more.1.1, at, small, sound.spaced.near)

  pub least-small : (w : ℕ) → IsLeastRoom problem (AreAllowed problem bounds) left right w → w ≤ MAX_PAGE_WIDTH
  least-small w is =
      let small = room-small problem sound is.attained.0 (keeps.page is.attained.0 is.attained.1) left right ahead within in
      omega (arith, small, is.attained.2)

  pub least-some : HasNoGreatest bounds right left → ⊥
  least-some none =
      let more = none (pos 0) in
      let at = left-room problem bounds keeps left right ahead within more.0 more.1.0 in
      omega (arith, ints, more.1.1, at)

-- a class begins within the page
pub class-small : (problem : ProblemModel) → IsSound problem → (s class : ℕ) → s < length (spans_of problem) →
    class < length (classes_at problem s) →
    first_in_class problem s class ≤ MAX_PAGE_WIDTH
class-small problem sound s class inside within =
    let page = sound.fits in
    let span = span-within problem sound s inside in
    elim (classes-cases problem (span_at problem s) (first_in_class problem s class)
    (Contains-get_or (classes_at problem s) class 0 within)) [
      | inl first ↦
          let least = least_width-within problem (span_at problem s) page.0 page.1 in
          let small = room-small problem sound page.0 page.1 (span_at problem s).left (span_at problem s).right span.0 span.1 in
          omega (arith, first, least, small)
      | inr later ↦ omega (arith, later.1, sound.narrow)
    ]

-- a cell's least width is within the page
-- ---- what a zone's ranges leave

module _ (problem : ProblemModel) (zone : List Range) (marks : ℕ) (held : List Bounds) (base : Bounds) (new : MarkedBounds)
    (whole : Bool)
    (adds : AddsRanges problem zone (length zone) (record { marks = marks; bounds = base; held = held }) new (IsTrue whole)) where
  -- is in the zone,
  pub ranges-zone : whole ≡ true → KeepsPage problem base → (widths : List ℕ) → AreAllowed problem new.bounds widths →
      InZone problem zone widths
  ranges-zone all keeps widths left = record {
    page = keeps.page widths (record { columns = left.columns; satisfies = adds.keeps (places problem widths) left.satisfies });
    ranges = λ s below. adds.to all widths left s below;
  }

  -- and all of the zone is left,
  pub ranges-left : ((widths : List ℕ) → WithinPage problem widths → AreAllowed problem base widths) → (widths : List ℕ) →
      InZone problem zone widths →
      AreAllowed problem new.bounds widths
  ranges-left page widths is = adds.from widths (page widths is.page) is.ranges

  -- so that where nothing is left the zone has no widths
  pub ranges-none : whole ≡ false → ((widths : List ℕ) → WithinPage problem widths → AreAllowed problem base widths) →
      (IsSatisfiable new.bounds → IsTrue whole) → HasNoWidths (InZone problem zone)
  ranges-none none page holds widths is =
      let yes = holds (places problem widths, (ranges-left page widths is).satisfies) in
      let both : true ≡ false = sym yes ∙ none in
      cc

-- ---- the least places

module _ (problem : ProblemModel) (bounds : Bounds) (keeps : KeepsPage problem bounds) where
  -- no place is bounded from above alone
  pub place-bounded : (k : ℕ) → k < bounds.n → HasNoGreatest bounds k 0 → ⊥
  place-bounded k below none =
      let more = none (pos 0) in
      let at = left-position problem bounds keeps more.0 more.1.0 k (omega (arith, keeps.variables)) in
      omega (arith, ints, more.1.1, at)

  module _ (x : ℕ → ℤ) (is : IsLeast bounds x) where
    pub least-left : AreLeast problem.spacing.gap (AreAllowed problem bounds) (widths_of x problem.spacing.gap problem.cols)
    least-left = record {
      kind = left-from problem bounds keeps x is.satisfies;
      earliest = λ other kind place within.
          let inside : place ≤ problem.cols = omega (arith, (left-from problem bounds keeps x is.satisfies).columns) in
          let at = left-position problem bounds keeps x is.satisfies place inside in
          let start = position-start problem.spacing.gap other in
          let less = is.least (places problem other) kind.satisfies (ap pos start) place (omega (arith, keeps.variables)) in
          omega (arith, ints, at, less, is.starts);
    }

    -- the least places are within the page
    pub place-small : IsSound problem → (k : ℕ) → k ≤ problem.cols → (pos 0 ≤ℤ x k) × (x k ≤ℤ pos (MAX_PAGE_WIDTH + 2))
    place-small sound k up =
        let widths = widths_of x problem.spacing.gap problem.cols in
        let left = left-from problem bounds keeps x is.satisfies in
        let at = left-position problem bounds keeps x is.satisfies k up in
        let page = keeps.page widths left in
        elim (cases_lt 0 problem.cols) [
          | inr none ↦
              let here : k ≡ 0 = omega arith in
              rw here (omega (arith, ints, is.starts), omega (arith, ints, is.starts))
          | inl some ↦
              let whole = total-position problem.spacing.gap problem.spacing.edges widths (omega (arith, left.columns)) in
              let ends = ap (position problem.spacing.gap widths) left.columns in
              let before = position-mono problem.spacing.gap widths k problem.cols up in (
                omega (arith, ints, at, is.starts),
                omega (
                  arith,
                  ints,
                  at,
                  is.starts,
                  whole,
                  ends,
                  before,
                  page.page,
                  sound.narrow,
                  sound.spaced.near,
                ),
              )
        ]
