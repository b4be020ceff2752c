use Rattle.std.proofs.Common.{ℕ, ◌<◌, get_or}
use Rattle.tl_base.specs.declared.steps.Config.{Config}
use Rattle.tl_problem.specs.inner.Agreeing.{AreSameAt}
use Rattle.tl_problem.proofs.agreement.are_same_at.Given as goal

abbrev pub invariant-loop-number : goal.invariant-loop-number
invariant-loop-number l = (k : ℕ) (d : Config) → k < l.number → AreSameAt l.low l.high l.most (get_or l.steps k d)
