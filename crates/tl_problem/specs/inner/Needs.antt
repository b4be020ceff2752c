-- What the cells need of rows and columns, by number; no public clause cites this file.
use Rattle.std.specs.Prelude.{◌≡◌, ℕ, ◌<◌, ◌≤◌, Some, List, length, get_or}
use Rattle.tl_base.specs.Steps.{first_width, height_at, IsLeastWidthFor}
use Rattle.tl_base.specs.Sizes.{room}
use Rattle.tl_problem.specs.Problem.{ProblemModel, cell_width}
use Rattle.tl_problem.specs.Bounds.{IsGreatestRoom}
use Rattle.tl_problem.specs.inner.Demands.{cell_at}

-- each cell needs its `high` at its room
pub record NeedHigh (problem : ProblemModel) (widths demands : List ℕ) : Type 0 where
  pub count : length demands ≡ length problem.cells
  pub each : (k : ℕ) → k < length problem.cells →
      height_at (cell_at problem.cells k).high (cell_width problem widths (cell_at problem.cells k)) ≡ Some (get_or demands k 0)

-- each cell needs its `low` at the greatest room of its span
pub record NeedLow (problem : ProblemModel) (Among : List ℕ → Type 0) (demands : List ℕ) : Type 0 where
  pub count : length demands ≡ length problem.cells
  pub each : (k : ℕ) → k < length problem.cells →
      (w : ℕ) × (IsGreatestRoom problem Among (cell_at problem.cells k).left (cell_at problem.cells k).right w ×
      (height_at (cell_at problem.cells k).low w ≡ Some (get_or demands k 0)))

-- each cell needs the least width at which its `high` is no more than at its room
pub record NeedWidths (problem : ProblemModel) (widths demands : List ℕ) : Type 0 where
  pub count : length demands ≡ length problem.cells
  pub each : (k : ℕ) → k < length problem.cells →
      (h : ℕ) × ((height_at (cell_at problem.cells k).high (cell_width problem widths (cell_at problem.cells k)) ≡ Some h) ×
      IsLeastWidthFor
      (cell_at problem.cells k).high h (get_or demands k 0))

-- each cell needs its least width
pub record NeedLeast (problem : ProblemModel) (demands : List ℕ) : Type 0 where
  pub count : length demands ≡ length problem.cells
  pub each : (k : ℕ) → k < length problem.cells → get_or demands k 0 ≡ first_width (cell_at problem.cells k).low

-- `w` is the least room that any of the widths give the span of columns
pub record IsLeastRoom (problem : ProblemModel) (Among : List ℕ → Type 0) (left right w : ℕ) : Type 0 where
  pub attained : (widths : List ℕ) × Among widths × (room problem.spacing.gap widths left right ≡ w)
  pub never_less : (widths : List ℕ) → Among widths → w ≤ room problem.spacing.gap widths left right
