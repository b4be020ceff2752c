use Rattle.std.proofs.Common.{◌<◌, ℕ}
use Rattle.tl_problem.specs.inner.Soundness.{IsSeparate}
use Rattle.tl_problem.proofs.sound.are_separate.Given as goal

abbrev pub invariant-loop-number : goal.invariant-loop-number
invariant-loop-number l = (k : ℕ) → k < l.number → IsSeparate l.cells k
