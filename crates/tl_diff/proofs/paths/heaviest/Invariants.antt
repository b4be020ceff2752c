use Rattle.tl_diff.specs.inner.Relaxing.{IsRelaxed}
use Rattle.tl_diff.proofs.paths.heaviest.Given as goal

abbrev pub invariant-loop-place : goal.invariant-loop-place
invariant-loop-place l = IsRelaxed l.arcs l.n l.place l.place l.place l.next l.out
