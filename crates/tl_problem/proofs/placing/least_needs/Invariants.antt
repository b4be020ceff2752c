use Rattle.std.proofs.Common.{◌≡◌, ℕ, ◌<◌, length, get_or}
use Rattle.tl_base.specs.Steps.{first_width}
use Rattle.tl_problem.specs.inner.Demands.{cell_at}
use Rattle.tl_problem.proofs.placing.least_needs.Given as goal

abbrev pub invariant-loop-number : goal.invariant-loop-number
invariant-loop-number l = record {
  count : length l.demands.items ≡ l.number;
  each : (k : ℕ) → k < l.number → get_or l.demands.items k 0 ≡ first_width (cell_at l.problem.cells k).low;
}
