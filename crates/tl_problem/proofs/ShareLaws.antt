-- No layout by `low` is lower than the shared bound of a set that has its widths, and a set within another has no lower one.
use Rattle.std.proofs.Common.{◌≡◌, ℕ, ◌+◌, ◌*◌, ◌<◌, ◌≤◌, List, inl, inr, length, get_or, ap, unwrap_or, arith}
use Rattle.std.specs.List.{sum_by, range_with_len}
use Rattle.std.proofs.lemmas.Bool.{cases_lt}
use Rattle.tl_base.specs.Sizes.{position, room}
use Rattle.tl_base.proofs.SizeLaws.{position-mono, position-next, room-position, total-position}
use Rattle.tl_problem.specs.declared.weighting.Weighting.{Weighting}
use Rattle.tl_problem.specs.Problem.{ProblemModel, total_height, cell_width, cell_height}
use Rattle.tl_problem.specs.Cells.{cell_at, no_cell}
use Rattle.tl_problem.specs.Layouts.{IsLayoutByLow}
use Rattle.tl_problem.specs.Sound.{IsSound}
use Rattle.tl_problem.specs.Shares.{weight_on, IsWeighting, IsBetween, AreLoose, IsShareBound, lines_at}
use Rattle.tl_problem.specs.Shares.{need, inside}
use Rattle.tl_problem.proofs.Heights.{height-from_low}
use Rattle.tl_problem.proofs.Rectangles.{amount, late, weighted}
use Rattle.tl_problem.proofs.SharedSums.{sum_over-le, sum_over-list}

-- the room of one column is its width
pub room-one : (gap : ℕ) (widths : List ℕ) (k : ℕ) → k < length widths → room gap widths k (k + 1) ≡ get_or widths k 0
room-one gap widths k within =
    omega (arith, room-position gap widths k (k + 1) (omega arith), position-next gap widths k within)

module _ (problem : ProblemModel) (sound : IsSound problem) (weighting : Weighting) (is : IsWeighting problem weighting)
    (Among : List ℕ → Type 0) (widths heights : List ℕ) (among : Among widths)
    (layout : IsLayoutByLow problem widths heights) where
  -- where rows begin under the layout
  y_at : ℕ → ℕ
  y_at n = position problem.spacing.row_gap heights n

  y_rising : (n : ℕ) → y_at n ≤ y_at (n + 1)
  unfolding y_at
  y_rising n = position-mono problem.spacing.row_gap heights n (n + 1) (omega arith)

  -- the rooms that the layout gives
  abbrev rooms : ℕ → ℕ → ℕ
  rooms left right = room problem.spacing.gap widths left right

  loose : AreLoose problem Among widths rooms
  loose = record {
    columns = layout.page.columns;
    each = λ left right ahead within. record {
      no_more = (widths, among, omega arith);
      no_less = (widths, among, omega arith);
    };
    single = λ column within. room-one problem.spacing.gap widths column (omega (arith, layout.page.columns, within));
    end = (widths, among, omega arith);
  }

  -- the rows of a cell, with a gap below each, give it what it needs and the gap below it
  rows-enough : (k : ℕ) → k < length problem.cells →
      lines_at problem (cell_at problem.cells k) (cell_width problem widths (cell_at problem.cells k)) ≤
      amount y_at y_rising (cell_at problem.cells k).top (cell_at problem.cells k).bottom problem.rows
  unfolding y_at
  rows-enough k within =
      let cell = cell_at problem.cells k in
      let whole = sound.cells k no_cell within in
      let found = height-from_low cell.low (cell_height problem heights cell) (cell_width problem widths cell)
      (layout.enough.cells k no_cell within) in
      let is_found = ap (λ o. unwrap_or o 0) found.1 in
      let down = late y_at y_rising cell.top cell.bottom problem.rows (omega (arith, whole.rows.0)) whole.rows.1 in
      let high = room-position problem.spacing.row_gap heights cell.top cell.bottom whole.rows.0 in
      omega (arith, is_found, down, high, found.2)

  need-below : need problem weighting.weights rooms ≤ weighting.divisor * y_at problem.rows
  unfolding y_at
  need-below =
      let each = sum_over-le
      (λ k. get_or weighting.weights k 0 * lines_at problem (cell_at problem.cells k)
      (cell_width problem widths (cell_at problem.cells k)))
      (λ k. get_or weighting.weights k 0 * amount y_at y_rising (cell_at problem.cells k).top (cell_at problem.cells k).bottom
      problem.rows)
      (length problem.cells)
      (λ k within. times_more (get_or weighting.weights k 0) (lines_at problem (cell_at problem.cells k)
      (cell_width problem widths (cell_at problem.cells k))) (amount y_at y_rising (cell_at problem.cells k).top
      (cell_at problem.cells k).bottom problem.rows) (rows-enough k within)) in
      let listed = sum_over-list (λ k. get_or weighting.weights k 0 * amount y_at y_rising (cell_at problem.cells k).top
      (cell_at problem.cells k).bottom problem.rows) (length problem.cells) in
      let counted = weighted y_at y_rising (λ k. (cell_at problem.cells k).top) (λ k. (cell_at problem.cells k).bottom)
      (λ k. get_or weighting.weights k 0) weighting.divisor (range_with_len 0 (length problem.cells)) problem.rows
      (λ row below. bears row below) in
      omega (arith, each, listed, counted) where
        times_more : (a b c : ℕ) → b ≤ c → a * b ≤ a * c
        times_more a b c le = grind arith

        bears : (row : ℕ) → row < problem.rows →
            sum_by (λ k. get_or weighting.weights k 0 * inside (cell_at problem.cells k).top (cell_at problem.cells k).bottom row)
            (range_with_len 0 (length problem.cells)) ≤ weighting.divisor
        bears row below = omega (
          arith,
          sum_over-list (weight_on problem weighting.weights row) (length problem.cells),
          is.rows row below,
        )

  pub share-below_layout : (bound : ℕ) → IsShareBound problem weighting Among bound → bound ≤ total_height problem heights
  unfolding y_at
  share-below_layout bound shared =
      elim (cases_lt 0 problem.cols) [
        | inr none ↦ omega (arith, shared.no_column (omega arith))
        | inl some ↦
            let held = shared.columns some in
            let hold = held.1 in
            let anchored = sound.columns 0 some in
            let cell = sound.cells anchored.0 anchored.1 anchored.2 in
            let rows : 0 < length heights = omega (arith, layout.enough.rows, cell.rows.0, cell.rows.1) in
            let least = hold.least.never_less widths rooms loose in
            let turned = turn weighting.divisor (y_at problem.rows) in
            let lines = hold.rounded.least (y_at problem.rows) (omega (arith, least, need-below, turned)) in
            let whole = total-position problem.spacing.row_gap problem.spacing.lines heights rows in
            let all = ap (position problem.spacing.row_gap heights) layout.enough.rows in
            omega (arith, held.2, lines, whole, all)
      ] where
        turn : (a b : ℕ) → a * b ≡ b * a
        turn a b = grind arith

-- ---- a set within another

module _ (problem : ProblemModel) (Outer Inner : List ℕ → Type 0) (within : (widths : List ℕ) → Inner widths → Outer widths) where
  between-wider : (left right w : ℕ) → IsBetween problem Inner left right w → IsBetween problem Outer left right w
  between-wider left right w here = record {
    no_more = (here.no_more.0, within here.no_more.0 here.no_more.1, here.no_more.2);
    no_less = (here.no_less.0, within here.no_less.0 here.no_less.1, here.no_less.2);
  }

  loose-wider : (widths : List ℕ) (rooms : ℕ → ℕ → ℕ) → AreLoose problem Inner widths rooms → AreLoose problem Outer widths rooms
  loose-wider widths rooms loose = record {
    columns = loose.columns;
    each = λ left right ahead inside. between-wider left right (rooms left right) (loose.each left right ahead inside);
    single = loose.single;
    end = (loose.end.0, within loose.end.0 loose.end.1, loose.end.2);
  }

  pub share-rises : (weighting : Weighting) (low high : ℕ) → IsShareBound problem weighting Outer low →
      IsShareBound problem weighting Inner high → low ≤ high
  share-rises weighting low high outer inner =
      elim (cases_lt 0 problem.cols) [
        | inr none ↦ omega (arith, outer.no_column (omega arith))
        | inl some ↦
            let wide = outer.columns some in
            let narrow = inner.columns some in
            let at = narrow.1.least.attained in
            let taken = wide.1.least.never_less at.0 at.1 (loose-wider at.0 at.1 at.2) in
            let lines = wide.1.rounded.least narrow.0 (omega (arith, taken, at.3, narrow.1.rounded.enough)) in
            omega (arith, wide.2, narrow.2, lines)
      ]
