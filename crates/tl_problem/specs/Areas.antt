-- The area bound of a set of widths: the cells share no slot, so the lines of a page hold the sum of the least areas.
use Rattle.std.specs.Prelude.{◌≡◌, ℕ, ◌+◌, ◌-◌, ◌*◌, ◌<◌, ◌≤◌, List, Some, sum}
use Rattle.std.specs.List.{AllZip}
use Rattle.tl_base.specs.Steps.{height_at}
use Rattle.tl_problem.specs.declared.cell.Cell.{Cell}
use Rattle.tl_base.specs.Sizes.{position}
use Rattle.tl_problem.specs.Problem.{ProblemModel, cell_width}

-- `w` lies between the least and the greatest room of the cell: some of the widths give it no more, and some no less
pub record IsBetweenRooms (problem : ProblemModel) (Among : List ℕ → Type 0) (cell : Cell) (w : ℕ) : Type 0 where
  pub no_more : (widths : List ℕ) × Among widths × (cell_width problem widths cell ≤ w)
  pub no_less : (widths : List ℕ) × Among widths × (w ≤ cell_width problem widths cell)

-- what the cell covers at width `w` where `low` needs `h` lines there, with a gap at its right and one below
abbrev pub area : ProblemModel → ℕ → ℕ → ℕ
area problem w h = (w + problem.spacing.gap) * (h + problem.spacing.row_gap)

-- the least area of a cell, over the widths between its least and its greatest room
pub record IsLeastArea (problem : ProblemModel) (Among : List ℕ → Type 0) (cell : Cell) (least : ℕ) : Type 0 where
  pub attained : (w h : ℕ) × IsBetweenRooms problem Among cell w × (height_at cell.low w ≡ Some h)
      × (area problem w h ≡ least)
  pub never_less : (w h : ℕ) → IsBetweenRooms problem Among cell w → height_at cell.low w ≡ Some h →
      least ≤ area problem w h

-- the greatest place at which the columns end, with a gap after the last
pub record IsGreatestEnd (problem : ProblemModel) (Among : List ℕ → Type 0) (end : ℕ) : Type 0 where
  pub attained : (widths : List ℕ) × Among widths × (position problem.spacing.gap widths problem.cols ≡ end)
  pub never_more : (widths : List ℕ) → Among widths → position problem.spacing.gap widths problem.cols ≤ end

-- `quotient` is `n` divided by `divisor`, rounded up
pub record IsRoundedUp (n divisor quotient : ℕ) : Type 0 where
  pub enough : n ≤ quotient * divisor
  pub least : (other : ℕ) → n ≤ other * divisor → quotient ≤ other

-- so many lines, with a gap below each row, hold the least areas of the cells
pub record HoldAreas (problem : ProblemModel) (Among : List ℕ → Type 0) (lines : ℕ) : Type 0 where
  pub areas : List ℕ
  pub end : ℕ
  pub least : AllZip (IsLeastArea problem Among) problem.cells areas
  pub greatest : IsGreatestEnd problem Among end
  pub rounded : IsRoundedUp (sum areas) end lines

-- the area bound of a set that has widths: these lines and both edges, without the gap below the last row; 0 where this
-- is negative and where there is no column
pub record IsAreaBound (problem : ProblemModel) (Among : List ℕ → Type 0) (bound : ℕ) : Type 0 where
  pub some : (widths : List ℕ) × Among widths
  pub no_column : problem.cols ≡ 0 → bound ≡ 0
  pub columns : 0 < problem.cols → (lines : ℕ) × HoldAreas problem Among lines
      × (bound ≡ problem.spacing.lines + lines - problem.spacing.row_gap)
