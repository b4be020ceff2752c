-- What a `Work` leaves: the widths whose columns begin at places that satisfy the constraints of its matrix. Variable k of
-- the matrix is the place where column k begins, and the last one the place where the columns end, a gap after the last.
use Rattle.std.specs.Prelude.{◌≡◌, ℕ, zero, suc, ◌+◌, ◌<◌, ℤ, pos, negsuc, ◌+ℤ◌, ◌-ℤ◌, ◌≤ℤ◌, List, [], ◌∷◌, ◌++◌, length}
use Rattle.tl_diff.specs.Bounds.{Bounds, Satisfies}
use Rattle.tl_diff.specs.Marks.{MarkedBounds}
use Rattle.tl_problem.specs.declared.work.Work.{Work}
use Rattle.tl_base.specs.Sizes.{position}
use Rattle.tl_problem.specs.Problem.{ProblemModel}
use Rattle.tl_problem.specs.Layouts.{WithinPage}
use Rattle.tl_problem.specs.Sound.{IsSound}

-- where each column begins, as an assignment to the variables of a matrix
abbrev pub places : ProblemModel → List ℕ → ℕ → ℤ
places problem widths k = pos (position problem.spacing.gap widths k)

-- the widths, one for each column, satisfy the constraints
pub record AreAllowed (problem : ProblemModel) (bounds : Bounds) (widths : List ℕ) : Type 0 where
  pub columns : length widths ≡ problem.cols
  pub satisfies : Satisfies bounds (places problem widths)

-- the constraints keep the gaps and the page: columns follow each other, and what they leave is within the page
pub record KeepsPage (problem : ProblemModel) (bounds : Bounds) : Type 0 where
  pub variables : bounds.n ≡ problem.cols + 1
  pub gaps : (x : ℕ → ℤ) → Satisfies bounds x → (k : ℕ) → k < problem.cols → (x k +ℤ pos problem.spacing.gap) ≤ℤ x (k + 1)
  pub page : (widths : List ℕ) → AreAllowed problem bounds widths → WithinPage problem widths

-- the matrix has the constraints of the problem's page and no others: it leaves all widths within the page
pub record IsPageOf (problem : ProblemModel) (matrix : MarkedBounds) : Type 0 where
  pub keeps : KeepsPage problem matrix.bounds
  pub whole : (widths : List ℕ) → WithinPage problem widths → AreAllowed problem matrix.bounds widths

-- the work is for this problem: its constraints keep the page, its start has those of the page and a mark that is free, and
-- its buffers have room for the cells and rows
pub record IsWorkOf (problem : ProblemModel) (work : Work) : Type 0 where
  pub sound : IsSound problem
  pub keeps : KeepsPage problem work.matrix.bounds
  pub start : IsPageOf problem work.start
  pub free : length work.start.held < work.start.marks
  pub demands : length work.demands.items ≡ length problem.cells
  pub arcs : length work.arcs.items ≡ length problem.cells
  pub ends : length work.ends.items ≡ problem.rows + 1

-- the work is for this problem, and leaves all widths within the page
pub record HasPage (problem : ProblemModel) (work : Work) : Type 0 where
  pub work_of : IsWorkOf problem work
  pub whole : (widths : List ℕ) → WithinPage problem widths → AreAllowed problem work.matrix.bounds widths

-- a number, 0 where it is negative
abbrev pub part_above : ℤ → ℕ
part_above (pos n) = n
part_above (negsuc n) = 0

-- the widths that an assignment leaves between gaps
abbrev pub widths_of : (ℕ → ℤ) → ℕ → ℕ → List ℕ
widths_of x gap zero = []
widths_of x gap (suc n) = widths_of x gap n ++ part_above (x (n + 1) -ℤ (x n +ℤ pos gap)) ∷ []
