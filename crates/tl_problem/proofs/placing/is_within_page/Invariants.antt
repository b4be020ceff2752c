use Rattle.std.proofs.Common.{ℕ, ◌<◌, ◌≤◌}
use Rattle.tl_base.specs.Steps.{first_width}
use Rattle.tl_problem.specs.Problem.{cell_width}
use Rattle.tl_problem.specs.inner.Demands.{cell_at}
use Rattle.tl_problem.proofs.placing.is_within_page.Given as goal

abbrev pub invariant-loop-number : goal.invariant-loop-number
invariant-loop-number l = (k : ℕ) → k < l.number → first_width (cell_at l.problem.cells k).low ≤ cell_width l.problem l.widths
    (cell_at l.problem.cells k)
