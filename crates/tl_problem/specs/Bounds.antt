-- The bound of a set of widths: no layout with widths in the set is lower. A set is a property of lists of widths, so
-- that the same words serve a zone and what a line of a log leaves.
use Rattle.std.specs.Prelude.{◌≡◌, ℕ, ◌≤◌, List, length}
use Rattle.std.specs.List.{All}
use Rattle.tl_base.specs.Steps.{IsLowAt}
use Rattle.tl_base.specs.Sizes.{room, IsLeastTotal}
use Rattle.tl_problem.specs.Problem.{ProblemModel, cell_height}

-- the set has no widths
abbrev pub HasNoWidths : (List ℕ → Type 0) → Type 0
HasNoWidths Among = (widths : List ℕ) → Among widths → ⊥

-- `w` is the greatest room that any of the widths give the span of columns
pub record IsGreatestRoom (problem : ProblemModel) (Among : List ℕ → Type 0) (left right w : ℕ) : Type 0 where
  pub attained : (widths : List ℕ) × Among widths × (room problem.spacing.gap widths left right ≡ w)
  pub never_more : (widths : List ℕ) → Among widths → room problem.spacing.gap widths left right ≤ w

-- the heights, one for each row, give each cell its `low` at the greatest room of its span
pub record GiveLow (problem : ProblemModel) (Among : List ℕ → Type 0) (heights : List ℕ) : Type 0 where
  pub rows : length heights ≡ problem.rows
  pub cells : All (λ cell. (w : ℕ) → IsGreatestRoom problem Among cell.left cell.right w →
      IsLowAt cell.low (cell_height problem heights cell) w) problem.cells

-- the bound of a set that has widths: the least total height of rows that give each cell its `low` at the greatest room
-- of its span
pub record IsBound (problem : ProblemModel) (Among : List ℕ → Type 0) (bound : ℕ) : Type 0 where
  pub some : (widths : List ℕ) × Among widths
  pub least : IsLeastTotal problem.spacing.row_gap problem.spacing.lines (GiveLow problem Among) bound
