-- The shared bound of a set of widths. Cells have weights, and what the weighted cells need, whatever widths share the page
-- between the columns, the rows have to give. The columns know of each other only where they end; and a span of several
-- columns has a room of its own, for which it pays where that is more than its columns give it.
use Rattle.std.specs.Prelude.{◌≡◌, ℕ, zero, suc, ◌+◌, ◌-◌, ◌*◌, ◌<◌, ◌≤◌, ◌&&◌, cond, nat_le, nat_lt, List, length}
use Rattle.std.specs.Prelude.{get_or, unwrap_or}
use Rattle.tl_base.specs.Steps.{height_at}
use Rattle.tl_base.specs.Sizes.{position, room}
use Rattle.tl_problem.specs.declared.cell.Cell.{Cell}
use Rattle.tl_problem.specs.declared.weighting.Weighting.{Weighting}
use Rattle.tl_problem.specs.declared.weighting.TheConstants.{MAX_DIVISOR, MAX_MULTIPLIER}
use Rattle.tl_problem.specs.Problem.{ProblemModel}
use Rattle.tl_problem.specs.Areas.{IsRoundedUp}
use Rattle.tl_problem.specs.Cells.{cell_at}
use Rattle.tl_problem.specs.Spans.{spans_of}
use Rattle.tl_problem.specs.Zones.{span_at, span_width}

-- the sum of what a function gives for the numbers from 0 on and before `n`
abbrev pub sum_over : (ℕ → ℕ) → ℕ → ℕ
sum_over f zero = 0
sum_over f (suc n) = sum_over f n + f n

-- 1 where the number lies in the interval from `from` on and before `past`, else 0
abbrev pub inside : ℕ → ℕ → ℕ → ℕ
inside from past n = cond (nat_le from n && nat_lt n past) 1 0

-- ---- weightings

-- the weight of the cell with number `k`, where it covers the row
abbrev pub weight_on : ProblemModel → List ℕ → ℕ → ℕ → ℕ
weight_on problem weights row k = get_or weights k 0 * inside (cell_at problem.cells k).top (cell_at problem.cells k).bottom row

-- a weighting of the problem: a weight for each cell, so that those of the cells that cover a row are at most the divisor; and for
-- each span of several columns what it pays for a column of room
pub record IsWeighting (problem : ProblemModel) (weighting : Weighting) : Type 0 where
  pub some : 0 < weighting.divisor
  pub few : weighting.divisor ≤ MAX_DIVISOR
  pub cells : length weighting.weights ≡ length problem.cells
  pub rows : (row : ℕ) → row < problem.rows →
      sum_over (weight_on problem weighting.weights row) (length problem.cells) ≤ weighting.divisor
  pub spans : length weighting.multipliers ≡ length (spans_of problem)
  pub several : (s : ℕ) → (span_at problem s).right ≤ (span_at problem s).left + 1 → get_or weighting.multipliers s 0 ≡ 0
  pub cheap : (s : ℕ) → get_or weighting.multipliers s 0 ≤ MAX_MULTIPLIER

-- ---- columns that share the page

-- `w` lies between the least and the greatest room of the span of columns
pub record IsBetween (problem : ProblemModel) (Among : List ℕ → Type 0) (left right w : ℕ) : Type 0 where
  pub no_more : (widths : List ℕ) × Among widths × (room problem.spacing.gap widths left right ≤ w)
  pub no_less : (widths : List ℕ) × Among widths × (w ≤ room problem.spacing.gap widths left right)

-- widths of the columns, and rooms of spans, each of which some of the widths allow alone: the columns end no later than some
-- of the widths do, and the room of one column is its width
pub record AreLoose (problem : ProblemModel) (Among : List ℕ → Type 0) (widths : List ℕ) (rooms : ℕ → ℕ → ℕ) : Type 0 where
  pub columns : length widths ≡ problem.cols
  pub each : (left right : ℕ) → left < right → right ≤ problem.cols → IsBetween problem Among left right (rooms left right)
  pub single : (column : ℕ) → column < problem.cols → rooms column (column + 1) ≡ get_or widths column 0
  pub end : (other : List ℕ) × Among other
      × (position problem.spacing.gap widths problem.cols ≤ position problem.spacing.gap other problem.cols)

-- what the cell needs by `low` in a room of `w` columns, with a gap below it
abbrev pub lines_at : ProblemModel → Cell → ℕ → ℕ
lines_at problem cell w = unwrap_or (height_at cell.low w) 0 + problem.spacing.row_gap

-- what the cells need in these rooms, each times its weight
abbrev pub need : ProblemModel → List ℕ → (ℕ → ℕ → ℕ) → ℕ
need problem weights rooms = sum_over (λ k. get_or weights k 0
    * lines_at problem (cell_at problem.cells k) (rooms (cell_at problem.cells k).left (cell_at problem.cells k).right))
    (length problem.cells)

-- what the spans pay for their rooms, and what is paid for those that the columns give them
abbrev pub paid : ProblemModel → List ℕ → (ℕ → ℕ → ℕ) → ℕ
paid problem multipliers rooms = sum_over (λ s. get_or multipliers s 0
    * rooms (span_at problem s).left (span_at problem s).right) (length (spans_of problem))

abbrev pub given : ProblemModel → List ℕ → List ℕ → ℕ
given problem multipliers widths = sum_over (λ s. get_or multipliers s 0 * span_width problem widths s) (length (spans_of problem))

-- what is needed and paid, beyond what the columns give
abbrev pub load : ProblemModel → Weighting → List ℕ → (ℕ → ℕ → ℕ) → ℕ
load problem weighting widths rooms = need problem weighting.weights rooms + paid problem weighting.multipliers rooms
    - given problem weighting.multipliers widths

-- the least load, over all widths and rooms that are loose
pub record IsLeastLoad (problem : ProblemModel) (weighting : Weighting) (Among : List ℕ → Type 0) (least : ℕ) : Type 0 where
  pub attained : (widths : List ℕ) × (rooms : ℕ → ℕ → ℕ) × AreLoose problem Among widths rooms
      × (load problem weighting widths rooms ≡ least)
  pub never_less : (widths : List ℕ) (rooms : ℕ → ℕ → ℕ) → AreLoose problem Among widths rooms →
      least ≤ load problem weighting widths rooms

-- ---- the bound

-- so many lines, with a gap below each row, give what is needed at least
pub record HoldShares (problem : ProblemModel) (weighting : Weighting) (Among : List ℕ → Type 0) (lines : ℕ) : Type 0 where
  pub taken : ℕ
  pub least : IsLeastLoad problem weighting Among taken
  pub rounded : IsRoundedUp taken weighting.divisor lines

-- the shared bound of a set that has widths, by a weighting: these lines and both edges, without the gap below the last row; 0
-- where this is negative and where there is no column
pub record IsShareBound (problem : ProblemModel) (weighting : Weighting) (Among : List ℕ → Type 0) (bound : ℕ) : Type 0 where
  pub some : (widths : List ℕ) × Among widths
  pub no_column : problem.cols ≡ 0 → bound ≡ 0
  pub columns : 0 < problem.cols → (lines : ℕ) × HoldShares problem weighting Among lines
      × (bound ≡ problem.spacing.lines + lines - problem.spacing.row_gap)
