use Rattle.std.proofs.Common.{◌≡◌, get_or}
use Rattle.tl_problem.specs.inner.Demands.{rises}
use Rattle.tl_problem.proofs.demands.sizes_between.Given as goal

abbrev pub invariant-loop-k : goal.invariant-loop-k
invariant-loop-k l = l.sizes ≡ rises (λ k. get_or l.ends k 0) l.k
