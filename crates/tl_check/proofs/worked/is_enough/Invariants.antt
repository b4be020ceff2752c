use Rattle.std.proofs.Common.{◌≡◌}
use Rattle.tl_problem.specs.Works.{HasPage}
use Rattle.tl_check.specs.inner.Traces.{IsEnough}
use Rattle.tl_check.proofs.worked.is_enough.Given as goal

abbrev pub invariant-loop-z : goal.invariant-loop-z
invariant-loop-z l = record {
  none : IsEnough l.problem l.trace l.lower l.z → ⊥;
  page : HasPage l.problem l.work;
  matrix : l.work.matrix ≡ l.fn.work.matrix;
}
