-- The spans of a problem in their order, and the classes of a span: where they begin, and that no height changes within.
use Rattle.std.proofs.Common.{◌≡◌, ℕ, ◌+◌, ◌-◌, ◌<◌, ◌≤◌, true, nat_eq, List, [], ◌∷◌, ◌++◌, ◌⊎◌, inl, inr, length, map, get_or}
use Rattle.std.proofs.Common.{filter, refl, sym}
use Rattle.std.proofs.Common.{ap, ◌∙◌, subst, arith}
use Rattle.std.specs.List.{AllPairs, Contains, list_any, range_with_len}
use Rattle.std.proofs.lemmas.Bool.{cases_lt, eqb-true, eq-eqb, and_parts, and_from}
use Rattle.std.proofs.lemmas.List.{get_or_default, get_or_past}
use Rattle.std.proofs.lemmas.List.Elements.{All-contains, Contains-get_or, Contains-append_left, Contains-append_right}
use Rattle.std.proofs.lemmas.List.Folds.{Any-from_list_any, list_any_at}
use Rattle.tl_base.specs.declared.steps.Config.{Config}
use Rattle.tl_base.specs.Steps.{first_width, height_at}
use Rattle.tl_base.proofs.Members.{All-from_Contains, Contains-first, Contains-later, Contains-cases, Contains-filter}
use Rattle.tl_base.proofs.Members.{filter-Contains, Contains-map}
use Rattle.tl_base.proofs.Members.{map-Contains, Contains-flat_map, Contains-range, range-Contains, AllPairs-cons}
use Rattle.tl_base.proofs.Members.{AllPairs-filter, AllPairs-map}
use Rattle.tl_base.proofs.Members.{AllPairs-flat_map, AllPairs-range, same-ordered}
use Rattle.tl_problem.specs.declared.cell.Cell.{Cell}
use Rattle.tl_problem.specs.declared.cell.Span.{Span}
use Rattle.tl_base.specs.Sizes.{room}
use Rattle.tl_problem.specs.Problem.{ProblemModel, cell_width}
use Rattle.tl_problem.specs.Layouts.{WithinPage}
use Rattle.tl_problem.specs.Sound.{IsSound, IsSoundCell}
use Rattle.tl_problem.specs.Spans.{span, has_span, all_spans, spans_of, greatest, cells_of, least_width, page_room, begins_step}
use Rattle.tl_problem.specs.Spans.{classes_of}
use Rattle.tl_problem.specs.Zones.{span_at, classes_at, first_in_class, last_in_class}
use Rattle.tl_problem.proofs.Heights.{height-same}
use Rattle.tl_base.proofs.SizeLaws.{total-position, room-position, position-mono}
use Rattle.tl_problem.specs.inner.Spanning.{IsEarlier}

-- ---- spans, by left, then right

pub before-strict : (a b : Span) → IsEarlier a b → IsEarlier b a → ⊥
before-strict a b (inl less) (inl more) = omega arith
before-strict a b (inl less) (inr same) = omega arith
before-strict a b (inr same) (inl more) = omega arith
before-strict a b (inr same) (inr alike) = omega arith

-- the cell has the span where its columns are the span's
pub has_span-parts : (columns : Span) (cell : Cell) → has_span columns cell ≡ true →
    (cell.left ≡ columns.left) × (cell.right ≡ columns.right)
has_span-parts columns cell has =
    let parts = and_parts (nat_eq cell.left columns.left) (nat_eq cell.right columns.right) has in
    (eqb-true cell.left columns.left parts.0, eqb-true cell.right columns.right parts.1)

pub has_span-from : (columns : Span) (cell : Cell) → cell.left ≡ columns.left → cell.right ≡ columns.right →
    has_span columns cell ≡ true
has_span-from columns cell left right = and_from (nat_eq cell.left columns.left) (nat_eq cell.right columns.right)
    (eq-eqb cell.left columns.left left) (eq-eqb cell.right columns.right right)

all_spans-ordered : (cols : ℕ) → AllPairs IsEarlier (all_spans cols)
all_spans-ordered cols =
    AllPairs-flat_map IsEarlier (λ a b. a < b) (λ left. map (span left) (range_with_len (left + 1) (cols - left)))
    (range_with_len 0 cols)
    (AllPairs-range 0 cols)
    (λ left. AllPairs-map IsEarlier (span left) (range_with_len (left + 1) (cols - left))
    (λ i j d before within. inr (refl, AllPairs-range (left + 1) (cols - left) i j d before within)))
    (λ left later a b less first second.
    let one = map-Contains (span left) (range_with_len (left + 1) (cols - left)) a first in
    let other = map-Contains (span later) (range_with_len (later + 1) (cols - later)) b second in
    inl (omega (arith, ap (λ s. s.left) one.2, ap (λ s. s.left) other.2, less)))

all_spans-Contains : (cols left right : ℕ) → left < right → right ≤ cols → Contains (all_spans cols) (span left right)
all_spans-Contains cols left right ahead within =
    Contains-flat_map (λ left. map (span left) (range_with_len (left + 1) (cols - left))) (range_with_len 0 cols) left
    (span left right)
    (Contains-range 0 cols left (omega arith) (omega arith))
    (Contains-map (span left) (range_with_len (left + 1) (cols - left)) right
    (Contains-range (left + 1) (cols - left) right (omega arith) (omega arith)))

pub spans-ordered : (problem : ProblemModel) → AllPairs IsEarlier (spans_of problem)
unfolding spans_of
spans-ordered problem = AllPairs-filter IsEarlier (λ columns. list_any (has_span columns) problem.cells) (all_spans problem.cols)
    (all_spans-ordered problem.cols)

-- each cell's span is one of them
pub spans-Contains : (problem : ProblemModel) → IsSound problem → (cell : Cell) → Contains problem.cells cell →
    Contains (spans_of problem) (span cell.left cell.right)
unfolding spans_of
spans-Contains problem sound cell has =
    let whole = All-contains (IsSoundCell problem) problem.cells cell sound.cells has in
    Contains-filter (λ columns. list_any (has_span columns) problem.cells) (all_spans problem.cols) (span cell.left cell.right)
    (list_any_at (has_span (span cell.left cell.right)) problem.cells has.0 cell has.1
    (subst (λ c. has_span (span cell.left cell.right) c ≡ true) (sym has.2)
    (has_span-from (span cell.left cell.right) cell refl refl)))
    (all_spans-Contains problem.cols cell.left cell.right whole.columns.0 whole.columns.1)

-- and each of them is some cell's
pub spans-cell : (problem : ProblemModel) (columns : Span) → Contains (spans_of problem) columns →
    (cell : Cell) × Contains problem.cells cell × (has_span columns cell ≡ true)
unfolding spans_of
spans-cell problem columns has =
    let kept = filter-Contains (λ s. list_any (has_span s) problem.cells) (all_spans problem.cols) columns has in
    let some = Any-from_list_any (has_span columns) problem.cells kept.1 in
    (some.1, (some.0, some.2, some.3), some.4)

-- a list of spans in this order, one for each cell and each of some cell, is the list of the spans
pub spans-are : (problem : ProblemModel) → IsSound problem → (spans : List Span) → AllPairs IsEarlier spans →
    ((cell : Cell) → Contains problem.cells cell → Contains spans (span cell.left cell.right)) →
    ((columns : Span) → Contains spans columns → (cell : Cell) × Contains problem.cells cell × (has_span columns cell ≡ true)) →
    spans ≡ spans_of problem
spans-are problem sound spans ordered each some =
    same-ordered IsEarlier before-strict spans (spans_of problem) ordered (spans-ordered problem)
    (λ columns has. let found = some columns has in subst (λ s. Contains (spans_of problem) s) (same_span columns found.0 found.2)
    (spans-Contains problem sound found.0 found.1))
    (λ columns has. let found = spans-cell problem columns has in
    subst (λ s. Contains spans s) (same_span columns found.0 found.2) (each found.0 found.1)) where
      same_span : (columns : Span) (cell : Cell) → has_span columns cell ≡ true → span cell.left cell.right ≡ columns
      same_span columns cell has = let parts = has_span-parts columns cell has in
          ap (λ left. span left cell.right) parts.0 ∙ ap (span columns.left) parts.1

-- ---- the classes of a span

pub greatest-le : (ns : List ℕ) (n : ℕ) → Contains ns n → n ≤ greatest ns
greatest-le [] n has = absurd (omega (arith, has.1))
greatest-le (m ∷ ns) n has =
    elim (Contains-cases m ns n has) [
      | inl here ↦ omega arith
      | inr later ↦ let rest = greatest-le ns n later in omega (arith, rest)
    ]

pub greatest-least : (ns : List ℕ) (most : ℕ) → ((n : ℕ) → Contains ns n → n ≤ most) → greatest ns ≤ most
greatest-least [] most each = omega arith
greatest-least (m ∷ ns) most each =
    let first = each m (Contains-first m ns) in
    let rest = greatest-least ns most (λ n has. each n (Contains-later m ns n has)) in
    omega (arith, first, rest)

-- the room of a span is at most that of the page
pub room-in_page : (problem : ProblemModel) (widths : List ℕ) → WithinPage problem widths → (left right : ℕ) → left < right →
    right ≤ problem.cols →
    room problem.spacing.gap widths left right ≤ page_room problem
room-in_page problem widths is left right ahead within =
    let whole = total-position problem.spacing.gap problem.spacing.edges widths (omega (arith, is.columns)) in
    let span = room-position problem.spacing.gap widths left right ahead in
    let before = position-mono problem.spacing.gap widths right (length widths) (omega (arith, is.columns)) in
    omega (arith, whole, span, before, is.page)

module _ (problem : ProblemModel) (columns : Span) where
  -- a cell of the span has its first width at or before the first class
  pub least_width-le : (cell : Cell) → Contains problem.cells cell → has_span columns cell ≡ true →
      first_width cell.low ≤ least_width problem columns
  least_width-le cell has is =
      greatest-le (map (λ c. first_width c.low) (cells_of problem columns)) (first_width cell.low)
      (Contains-map (λ c. first_width c.low) (cells_of problem columns) cell
      (Contains-filter (has_span columns) problem.cells cell is has))

  -- widths within the page give the span at least the width of its first class
  pub least_width-within : (widths : List ℕ) → WithinPage problem widths →
      least_width problem columns ≤ room problem.spacing.gap widths columns.left columns.right
  least_width-within widths is =
      greatest-least (map (λ c. first_width c.low) (cells_of problem columns))
      (room problem.spacing.gap widths columns.left columns.right) (λ n has.
      let found = map-Contains (λ c. first_width c.low) (cells_of problem columns) n has in
      let kept = filter-Contains (has_span columns) problem.cells found.0 found.1 in
      let parts = has_span-parts columns found.0 kept.1 in
      let wide = All-contains (λ c. first_width c.low ≤ cell_width problem widths c) problem.cells found.0 is.cells kept.0 in
      let left = ap (λ l. room problem.spacing.gap widths l found.0.right) parts.0 in
      let right = ap (room problem.spacing.gap widths columns.left) parts.1 in
      omega (arith, wide, found.2, left, right))

  pub classes-rising : AllPairs (λ a b. a < b) (classes_of problem columns)
  unfolding classes_of
  classes-rising =
      let least = least_width problem columns in
      AllPairs-cons (λ a b. a < b) least (filter (begins_step problem columns)
      (range_with_len (least + 1) (page_room problem - least)))
      (All-from_Contains (λ w. least < w) (filter (begins_step problem columns)
      (range_with_len (least + 1) (page_room problem - least))) (λ w has.
      let kept = filter-Contains (begins_step problem columns) (range_with_len (least + 1) (page_room problem - least)) w has in
      let between = range-Contains (least + 1) (page_room problem - least) w kept.0 in
      omega (arith, between.0)))
      (AllPairs-filter (λ a b. a < b) (begins_step problem columns) (range_with_len (least + 1) (page_room problem - least))
      (AllPairs-range (least + 1) (page_room problem - least)))

  -- where a class begins: at the least width, or past it and within the page where a step begins
  pub classes-cases : (w : ℕ) → Contains (classes_of problem columns) w →
      (w ≡ least_width problem columns) ⊎ ((least_width problem columns < w) × (w ≤ page_room problem) ×
      (begins_step problem columns w ≡ true))
  unfolding classes_of
  classes-cases w has =
      let least = least_width problem columns in
      elim (Contains-cases least (filter (begins_step problem columns) (range_with_len (least + 1) (page_room problem - least)))
      w has) [
        | inl here ↦ inl (sym here)
        | inr later ↦
            let kept = filter-Contains (begins_step problem columns) (range_with_len (least + 1) (page_room problem - least))
            w later in
            let between = range-Contains (least + 1) (page_room problem - least) w kept.0 in
            inr (omega (arith, between.0), omega (arith, between.0, between.1), kept.1)
      ]

  pub classes-least : Contains (classes_of problem columns) (least_width problem columns)
  unfolding classes_of
  classes-least = Contains-first (least_width problem columns)
      (filter (begins_step problem columns) (range_with_len (least_width problem columns + 1)
      (page_room problem - least_width problem columns)))

  pub classes-first : (d : ℕ) → get_or (classes_of problem columns) 0 d ≡ least_width problem columns
  unfolding classes_of
  classes-first d = refl

  pub classes-some : 0 < length (classes_of problem columns)
  unfolding classes_of
  classes-some = omega arith

  pub classes-Contains : (w : ℕ) → least_width problem columns < w → w ≤ page_room problem →
      begins_step problem columns w ≡ true →
      Contains (classes_of problem columns) w
  unfolding classes_of
  classes-Contains w past page begins =
      let least = least_width problem columns in
      Contains-later least (filter (begins_step problem columns) (range_with_len (least + 1) (page_room problem - least))) w
      (Contains-filter (begins_step problem columns) (range_with_len (least + 1) (page_room problem - least)) w begins
      (Contains-range (least + 1) (page_room problem - least) w (omega arith) (omega arith)))

  -- a rising list of these widths, and of no others, is the list of the classes
  pub classes-are : (firsts : List ℕ) → AllPairs (λ a b. a < b) firsts →
      ((w : ℕ) → Contains firsts w → Contains (classes_of problem columns) w) →
      ((w : ℕ) → Contains (classes_of problem columns) w → Contains firsts w) → firsts ≡ classes_of problem columns
  classes-are firsts rising there back = same-ordered (λ a b. a < b) (λ a b less more. omega arith) firsts
      (classes_of problem columns) rising
      classes-rising there back

  -- a step of a cell of the span begins where it does
  pub begins-from : (cell : Cell) (step : Config) → Contains problem.cells cell → has_span columns cell ≡ true →
      Contains (cell.low ++ cell.high) step → begins_step problem columns step.width ≡ true
  begins-from cell step has is among =
      let inside : Contains (cells_of problem columns) cell = Contains-filter (has_span columns) problem.cells cell is has in
      let one : list_any (λ s. nat_eq s.width step.width) (cell.low ++ cell.high) ≡ true =
      list_any_at (λ s. nat_eq s.width step.width) (cell.low ++ cell.high) among.0 step among.1
      (eq-eqb (get_or (cell.low ++ cell.high) among.0 step).width step.width (ap (λ s. s.width) among.2)) in
      list_any_at (λ c. list_any (λ s. nat_eq s.width step.width) (c.low ++ c.high)) (cells_of problem columns)
      inside.0 cell inside.1
      (subst (λ c. list_any (λ s. nat_eq s.width step.width) (c.low ++ c.high) ≡ true) (sym inside.2) one)

-- ---- within a class no height changes

-- no element of a rising list lies past one element and before the next
between-none : (xs : List ℕ) → AllPairs (λ a b. a < b) xs → (k top x : ℕ) → k < length xs → Contains xs x → get_or xs k 0 < x →
    x ≤ get_or xs (k + 1) (top + 1) - 1 → ⊥
between-none xs rising k top x inside has past before =
    let at = get_or_default xs has.0 0 x has.1 in
    elim (cases_lt k has.0) [
      | inr early ↦ elim (cases_lt has.0 k) [
        | inl less ↦ let low = rising has.0 k 0 less inside in omega (arith, low, at, has.2)
        | inr same ↦ let here : has.0 ≡ k = omega arith in omega (arith, ap (λ i. get_or xs i 0) here, at, has.2)
      ]
      | inl later ↦
          let next = get_or_default xs (k + 1) 0 (top + 1) (omega (arith, has.1)) in
          let above = rising k (k + 1) 0 (omega arith) (omega (arith, has.1)) in
          elim (cases_lt (k + 1) has.0) [
            | inl more ↦ let high = rising (k + 1) has.0 0 more has.1 in omega (arith, high, at, has.2, next)
            | inr same ↦ let here : has.0 ≡ k + 1 = omega arith in
                omega (arith, ap (λ i. get_or xs i 0) here, at, has.2, next, above)
          ]
    ]

module _ (problem : ProblemModel) (sound : IsSound problem) (s class : ℕ) (inside : class < length (classes_at problem s)) where
  -- a class begins at the least width of the span, or past it
  pub class-past_least : least_width problem (span_at problem s) ≤ first_in_class problem s class
  class-past_least =
      elim (cases_lt 0 class) [
        | inl past ↦ let rise = classes-rising problem (span_at problem s) 0 class 0 past inside in
            omega (arith, rise, classes-first problem (span_at problem s) 0)
        | inr none ↦ let here : class ≡ 0 = omega arith in omega (
          arith,
          ap (λ i. get_or (classes_at problem s) i 0) here,
          classes-first problem (span_at problem s) 0,
        )
      ]

  -- a class ends within the page
  pub class-in_page : last_in_class problem s class ≤ page_room problem
  class-in_page =
      elim (cases_lt (class + 1) (length (classes_at problem s))) [
        | inl more ↦
            let next = get_or_default (classes_at problem s) (class + 1) 0 (page_room problem + 1) more in
            let above = classes-rising problem (span_at problem s) class (class + 1) 0 (omega arith) more in
            let first = class-past_least in
            elim (classes-cases problem (span_at problem s) (get_or (classes_at problem s) (class + 1) 0)
            (Contains-get_or (classes_at problem s) (class + 1) 0 more)) [
              | inl least ↦ omega (arith, next, least, above, first)
              | inr later ↦ omega (arith, next, later.1)
            ]
        | inr last ↦ let end = get_or_past (classes_at problem s) (class + 1) (page_room problem + 1) last in omega (arith, end)
      ]

  -- no step of the span's cells begins within the class
  module _ (cell : Cell) (has : Contains problem.cells cell) (is : has_span (span_at problem s) cell ≡ true)
      (w v : ℕ) (more : w ≤ v) (from : first_in_class problem s class ≤ w) (upto : v ≤ last_in_class problem s class) where
    no_step : (step : Config) → Contains (cell.low ++ cell.high) step → w < step.width → step.width ≤ v → ⊥
    no_step step among past before =
        between-none (classes_at problem s) (classes-rising problem (span_at problem s)) class (page_room problem)
        step.width inside
        (classes-Contains problem (span_at problem s) step.width (omega (arith, class-past_least, past, from))
        (omega (arith, class-in_page, upto, before)) (begins-from problem (span_at problem s) cell step has is among))
        (omega (arith, past, from)) (omega (arith, upto, before))

    pub class-same_low : height_at cell.low w ≡ height_at cell.low v
    class-same_low = height-same cell.low w v more (λ k d within. no_step (get_or cell.low k d)
        (Contains-append_left cell.low cell.high (get_or cell.low k d) (Contains-get_or cell.low k d within)))

    pub class-same_high : height_at cell.high w ≡ height_at cell.high v
    class-same_high = height-same cell.high w v more (λ k d within. no_step (get_or cell.high k d)
        (Contains-append_right cell.low cell.high (get_or cell.high k d) (Contains-get_or cell.high k d within)))
