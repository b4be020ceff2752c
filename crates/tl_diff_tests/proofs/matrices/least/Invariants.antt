use Rattle.std.proofs.Common.{ℕ, ◌<◌}
use Rattle.tl_diff.specs.Bounds.{HasNoGreatest}
use Rattle.tl_diff_tests.proofs.matrices.least.Given as goal

abbrev pub invariant-loop-variable : goal.invariant-loop-variable
invariant-loop-variable g l = (k : ℕ) → k < l.variable → HasNoGreatest l.matrix.bounds k 0 → ⊥
