-- What cells demand of the columns, or rows, that they cover; no public clause cites this file. A demand becomes an arc
-- from where the cell begins to where it ends, and the heaviest paths give the least sizes.
use Rattle.std.specs.Prelude.{◌≡◌, ℕ, ◌+◌, ◌-◌, ◌*◌, ◌<◌, ◌≤◌, List, [], ◌∷◌, ◌++◌, length, get_or, map, zero, suc}
use Rattle.tl_diff.specs.declared.paths.Arc.{Arc}
use Rattle.tl_diff.specs.Paths.{IsHeaviest}
use Rattle.tl_problem.specs.declared.axis.Axis.{Axis}
use Rattle.tl_problem.specs.declared.axis.Turn.{Turn}
use Rattle.tl_problem.specs.declared.cell.Cell.{Cell}
use Rattle.tl_base.specs.Sizes.{room}
use Rattle.tl_problem.specs.Problem.{ProblemModel}
use Rattle.tl_problem.specs.Sound.{IsSound}
pub use Rattle.tl_problem.specs.Cells.{no_cell, cell_at}
use Rattle.tl_problem.specs.inner.Axes.{start_of, end_of, count_on, gap_on, IsOrder}

-- sizes, one for each column or row, that give each cell at least the room that it demands
pub record GiveDemands (problem : ProblemModel) (axis : Axis) (demands sizes : List ℕ) : Type 0 where
  pub count : length sizes ≡ count_on axis problem
  pub cells : (k : ℕ) → k < length problem.cells →
      get_or demands k 0 ≤ room (gap_on axis problem) sizes (start_of axis (cell_at problem.cells k))
      (end_of axis (cell_at problem.cells k))

-- the arc of a cell: what it demands beyond the gaps inside its span
abbrev pub cell_arc : Axis → ℕ → Cell → ℕ → Arc
cell_arc axis gap cell demand = record {
  from = start_of axis cell;
  to = end_of axis cell;
  weight = demand - gap * (end_of axis cell - start_of axis cell - 1);
}

-- the arc of the cell with a number
abbrev pub arc_for : ProblemModel → Axis → List ℕ → ℕ → Arc
arc_for problem axis demands k = cell_arc axis (gap_on axis problem) (cell_at problem.cells k) (get_or demands k 0)

-- the arcs of all cells, in the order in which these begin
pub record AreArcs (problem : ProblemModel) (axis : Axis) (demands : List ℕ) (arcs : List Arc) : Type 0 where
  pub sound : IsSound problem
  pub order : List Turn
  pub ordered : IsOrder axis problem.cells order
  pub are : arcs ≡ map (λ t. arc_for problem axis demands t.cell) order

-- for each place the greatest weight of a path to it
pub record HaveEnds (problem : ProblemModel) (axis : Axis) (demands ends : List ℕ) : Type 0 where
  pub arcs : List Arc
  pub are : AreArcs problem axis demands arcs
  pub heaviest : (k : ℕ) → k ≤ count_on axis problem → IsHeaviest arcs k (get_or ends k 0)

-- the differences between the numbers that a function gives, up to a place
abbrev pub rises : (ℕ → ℕ) → ℕ → List ℕ
rises f zero = []
rises f (suc n) = rises f n ++ (f (n + 1) - f n) ∷ []
