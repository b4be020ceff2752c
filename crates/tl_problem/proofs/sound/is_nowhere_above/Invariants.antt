use Rattle.std.proofs.Common.{◌<◌, ℕ}
use Rattle.tl_base.specs.Steps.{IsLowAt}
use Rattle.tl_problem.specs.inner.Least.{step_at}
use Rattle.tl_problem.proofs.sound.is_nowhere_above.Given as goal

abbrev pub invariant-loop-number : goal.invariant-loop-number
invariant-loop-number l = (k : ℕ) → k < l.number → IsLowAt l.low (step_at l.high k).height (step_at l.high k).width
