-- Layouts of a problem: widths of its columns that are within the page, and heights of its rows that give each cell at
-- least the height that it needs at its room.
use Rattle.std.specs.Prelude.{◌≡◌, ℕ, ◌≤◌, List, length}
use Rattle.std.specs.List.{All}
use Rattle.tl_base.specs.declared.steps.Config.{Config}
use Rattle.tl_base.specs.Steps.{first_width, IsLowAt}
use Rattle.tl_problem.specs.declared.cell.Cell.{Cell}
use Rattle.tl_problem.specs.Problem.{ProblemModel, total_width, cell_width, cell_height}

-- the widths are within the page: one for each column, no wider than the page in all, and each cell has its least width
pub record WithinPage (problem : ProblemModel) (widths : List ℕ) : Type 0 where
  pub columns : length widths ≡ problem.cols
  pub page : total_width problem widths ≤ problem.width
  pub cells : All (λ cell. first_width cell.low ≤ cell_width problem widths cell) problem.cells

-- under these widths the heights, one for each row, give each cell what these steps of it need at its room
pub record GiveHeights (problem : ProblemModel) (steps_of : Cell → List Config) (widths heights : List ℕ) : Type 0 where
  pub rows : length heights ≡ problem.rows
  pub cells : All (λ cell. IsLowAt (steps_of cell) (cell_height problem heights cell) (cell_width problem widths cell))
      problem.cells

-- the heights give each cell its `high` at its room
abbrev pub GiveHigh : ProblemModel → List ℕ → List ℕ → Type 0
GiveHigh problem widths heights = GiveHeights problem (λ cell. cell.high) widths heights

-- a layout by these steps: widths within the page, and heights that are enough
pub record IsLayoutBy (steps_of : Cell → List Config) (problem : ProblemModel) (widths heights : List ℕ) : Type 0 where
  pub page : WithinPage problem widths
  pub enough : GiveHeights problem steps_of widths heights

-- a layout by `low`: each cell has at least the height of its `low` at its room
abbrev pub IsLayoutByLow : ProblemModel → List ℕ → List ℕ → Type 0
IsLayoutByLow problem widths heights = IsLayoutBy (λ cell. cell.low) problem widths heights

-- a layout by `high`: each cell has at least the height of its `high` at its room
abbrev pub IsLayoutByHigh : ProblemModel → List ℕ → List ℕ → Type 0
IsLayoutByHigh problem widths heights = IsLayoutBy (λ cell. cell.high) problem widths heights
