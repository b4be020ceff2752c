-- When a problem is sound: a grid in the limits, in which no two cells cover one slot, each column and row has a cell
-- that begins there, and some layout is within the page.
use Rattle.std.specs.Prelude.{◌≡◌, ℕ, ◌+◌, ◌<◌, ◌≤◌, List, sum_by}
use Rattle.std.specs.List.{All, AllPairs, Any}
use Rattle.tl_base.specs.declared.limits.TheConstants.{MAX_COLUMNS, MAX_ROWS, MAX_PAGE_WIDTH, MAX_HEIGHT}
use Rattle.tl_base.specs.Style.{IsSpacing}
use Rattle.tl_base.specs.Steps.{AreSteps, first_width, IsLowAt, first_height}
use Rattle.tl_problem.specs.declared.cell.Cell.{Cell}
use Rattle.tl_problem.specs.Problem.{ProblemModel}
use Rattle.tl_problem.specs.Layouts.{WithinPage}

-- a cell in the grid, whose `low` and `high` begin at one width, and whose `low` is nowhere above its `high`: where no
-- more than `h` lines are needed by `high`, no more are needed by `low`
pub record IsSoundCell (problem : ProblemModel) (cell : Cell) : Type 0 where
  pub columns : (cell.left < cell.right) × (cell.right ≤ problem.cols)
  pub rows : (cell.top < cell.bottom) × (cell.bottom ≤ problem.rows)
  pub steps : AreSteps cell.low × AreSteps cell.high
  pub same_least : first_width cell.low ≡ first_width cell.high
  pub low_below : (h w : ℕ) → IsLowAt cell.high h w → IsLowAt cell.low h w

-- both cells cover some slot
abbrev pub ShareSlot : Cell → Cell → Type 0
ShareSlot a b = ((a.left < b.right) × (b.left < a.right)) × ((a.top < b.bottom) × (b.top < a.bottom))

-- the rows are those of a table and one for its caption; where there is no cell, no column and no row has one that begins
-- there, so there is none of either
pub record IsSound (problem : ProblemModel) : Type 0 where
  pub spaced : IsSpacing problem.spacing
  pub few_columns : problem.cols ≤ MAX_COLUMNS
  pub few_rows : problem.rows ≤ MAX_ROWS + 1
  pub narrow : problem.width ≤ MAX_PAGE_WIDTH
  pub cells : All (IsSoundCell problem) problem.cells
  pub apart : AllPairs (λ a b. ShareSlot a b → ⊥) problem.cells
  pub columns : (column : ℕ) → column < problem.cols → Any (λ cell. cell.left ≡ column) problem.cells
  pub rows : (row : ℕ) → row < problem.rows → Any (λ cell. cell.top ≡ row) problem.cells
  pub low_enough : sum_by (λ cell. first_height cell.high) problem.cells ≤ MAX_HEIGHT
  pub fits : (widths : List ℕ) × WithinPage problem widths
