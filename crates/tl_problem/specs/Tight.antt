-- Tight placements: the columns begin at the least places at which no cell needs more lines by `high` than it does now.
use Rattle.std.specs.Prelude.{◌≡◌, ℕ, Some, List, length}
use Rattle.std.specs.List.{All}
use Rattle.tl_base.specs.Steps.{height_at, IsLowAt}
use Rattle.tl_problem.specs.declared.placed.Placed.{Placed}
use Rattle.tl_problem.specs.Problem.{ProblemModel, cell_width}
use Rattle.tl_problem.specs.Placements.{AreLeast, IsPlacement}

-- the other widths give each cell at least the least width at which `high` is at most its height under these widths: its
-- `high` is at most that there
pub record KeepHigh (problem : ProblemModel) (widths other : List ℕ) : Type 0 where
  pub columns : length other ≡ problem.cols
  pub cells : All (λ cell. (h : ℕ) → height_at cell.high (cell_width problem widths cell) ≡ Some h →
      IsLowAt cell.high h (cell_width problem other cell)) problem.cells

-- the placement made tight from these widths: the least positions that keep each cell's height, with the least heights
pub record IsTightFrom (problem : ProblemModel) (widths : List ℕ) (placed : Placed) : Type 0 where
  pub columns : AreLeast problem.spacing.gap (KeepHigh problem widths) placed.widths
  pub placement : IsPlacement problem placed

-- a tight placement: one that is what tightening makes of it
abbrev pub IsTight : ProblemModel → Placed → Type 0
IsTight problem placed = IsTightFrom problem placed.widths placed
