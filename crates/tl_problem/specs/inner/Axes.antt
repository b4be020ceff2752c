-- Columns and rows alike, and cells in the order in which they begin; no public clause cites this file.
use Rattle.std.specs.Prelude.{◌≡◌, ℕ, ◌+◌, List, [], ◌∷◌}
use Rattle.std.specs.List.{All, Contains}
use Rattle.std.specs.List.Sorted.{IsPermutation, IsNonDecreasingBy}
use Rattle.tl_problem.specs.declared.axis.Axis.{Axis}
use Rattle.tl_problem.specs.declared.axis.Axis.TheVariants.{Columns, Rows}
use Rattle.tl_problem.specs.declared.axis.Turn.{Turn}
use Rattle.tl_problem.specs.declared.cell.Cell.{Cell}
use Rattle.tl_problem.specs.Problem.{ProblemModel}

-- the first column, or row, of a cell
abbrev pub start_of : Axis → Cell → ℕ
start_of Columns cell = cell.left
start_of Rows cell = cell.top

-- the first column, or row, past a cell
abbrev pub end_of : Axis → Cell → ℕ
end_of Columns cell = cell.right
end_of Rows cell = cell.bottom

-- how many columns, or rows, a problem has
abbrev pub count_on : Axis → ProblemModel → ℕ
count_on Columns problem = problem.cols
count_on Rows problem = problem.rows

-- the gap between two columns, or rows, of a problem
abbrev pub gap_on : Axis → ProblemModel → ℕ
gap_on Columns problem = problem.spacing.gap
gap_on Rows problem = problem.spacing.row_gap

-- a cell by its number, with the place where it begins
abbrev pub turn : ℕ → ℕ → Turn
turn start number = record { start = start; cell = number }

-- the cells in the order of their numbers, counted from a first one
abbrev pub turns_from : Axis → ℕ → List Cell → List Turn
turns_from axis number [] = []
turns_from axis number (cell ∷ cells) = turn (start_of axis cell) number ∷ turns_from axis (number + 1) cells

-- the cells in the order in which they begin
pub record IsOrder (axis : Axis) (cells : List Cell) (order : List Turn) : Type 0 where
  pub same : IsPermutation (turns_from axis 0 cells) order
  pub rising : IsNonDecreasingBy (λ t. t.start) order

-- turns of an order, among them all that start at this place
pub record HaveAllAt (order : List Turn) (place : ℕ) (turns : List Turn) : Type 0 where
  pub some : All (λ t. Contains order t) turns
  pub each : (t : Turn) → Contains order t → t.start ≡ place → Contains turns t
