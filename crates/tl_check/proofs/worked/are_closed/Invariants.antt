use Rattle.std.proofs.Common.{◌≡◌}
use Rattle.tl_problem.specs.Works.{HasPage}
use Rattle.tl_check.specs.inner.Traces.{AllClosed}
use Rattle.tl_check.proofs.worked.are_closed.Given as goal

abbrev pub invariant-loop-z : goal.invariant-loop-z
invariant-loop-z l = record {
  closed : AllClosed l.problem l.trace l.height l.z;
  page : HasPage l.problem l.work;
  matrix : l.work.matrix ≡ l.fn.work.matrix;
}
