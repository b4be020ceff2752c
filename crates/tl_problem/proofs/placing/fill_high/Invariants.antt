use Rattle.std.proofs.Common.{◌≡◌, ℕ, ◌<◌, Some, get_or}
use Rattle.tl_base.specs.Steps.{height_at}
use Rattle.tl_problem.specs.Problem.{cell_width}
use Rattle.tl_problem.specs.inner.Demands.{cell_at}
use Rattle.tl_problem.proofs.placing.fill_high.Given as goal

abbrev pub invariant-loop-number : goal.invariant-loop-number
invariant-loop-number l = (k : ℕ) → k < l.number → height_at (cell_at l.problem.cells k).high
    (cell_width l.problem l.widths (cell_at l.problem.cells k)) ≡ Some (get_or l.demands k 0)
