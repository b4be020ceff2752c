use Rattle.std.proofs.Common.{length, ◌-◌, ◌+◌}
use Rattle.tl_diff.specs.inner.Relaxing.{IsRelaxed}
use Rattle.tl_diff.proofs.paths.relax.Given as goal

abbrev pub invariant-loop-next : goal.invariant-loop-next
invariant-loop-next l = IsRelaxed l.arcs l.n l.place (l.place + 1) l.place l.next l.out

abbrev pub decreases-loop-next : goal.decreases-loop-next
decreases-loop-next l = length l.arcs - l.next
