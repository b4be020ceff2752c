use Rattle.std.proofs.Common.{◌<◌, ℕ, neg_ℤ}
use Rattle.tl_diff.specs.Bounds.{IsGreatest, assignment_of}
use Rattle.tl_diff.proofs.closed_bounds.ClosedBounds.solve_least.Given as goal

abbrev pub invariant-loop-variable : goal.invariant-loop-variable
invariant-loop-variable l = (k : ℕ) → k < l.variable → IsGreatest l.self k 0 (neg_ℤ (assignment_of l.out k))
