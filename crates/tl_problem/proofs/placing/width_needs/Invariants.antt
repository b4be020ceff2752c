use Rattle.std.proofs.Common.{◌≡◌, ℕ, ◌<◌, Some, length, get_or}
use Rattle.tl_base.specs.Steps.{height_at, IsLeastWidthFor}
use Rattle.tl_problem.specs.Problem.{cell_width}
use Rattle.tl_problem.specs.inner.Demands.{cell_at}
use Rattle.tl_problem.proofs.placing.width_needs.Given as goal

abbrev pub invariant-loop-number : goal.invariant-loop-number
invariant-loop-number l = record {
  count : length l.demands.items ≡ l.number;
  each : (k : ℕ) → k < l.number →
      (h : ℕ) × ((height_at (cell_at l.problem.cells k).high
      (cell_width l.problem l.widths (cell_at l.problem.cells k)) ≡ Some h) × IsLeastWidthFor
      (cell_at l.problem.cells k).high h (get_or l.demands.items k 0));
}
