use Rattle.tl_problem.specs.inner.Soundness.{BeginsNowhere}
use Rattle.tl_problem.proofs.sound.beginning_between.Given as goal

abbrev pub invariant-loop-number : goal.invariant-loop-number
invariant-loop-number l = BeginsNowhere l.axis l.place l.cells l.first l.number
