use Rattle.std.proofs.Common.{◌≡◌, ℕ, ◌<◌, get_or}
use Rattle.tl_base.specs.declared.steps.Config.{Config}
use Rattle.tl_astar.proofs.agreement.are_same.Given as goal

abbrev pub invariant-loop-number : goal.invariant-loop-number
invariant-loop-number l = (k : ℕ) (d : Config) → k < l.number → get_or l.first k d ≡ get_or l.second k d
