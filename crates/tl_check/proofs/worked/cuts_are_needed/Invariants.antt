use Rattle.std.proofs.Common.{◌≡◌}
use Rattle.tl_problem.specs.Works.{HasPage}
use Rattle.tl_check.specs.inner.Traces.{CutsAreNeeded}
use Rattle.tl_check.proofs.worked.cuts_are_needed.Given as goal

abbrev pub invariant-loop-i : goal.invariant-loop-i
invariant-loop-i l = record {
  needed : CutsAreNeeded l.problem l.trace l.opening l.i;
  page : HasPage l.problem l.work;
  matrix : l.work.matrix ≡ l.fn.work.matrix;
}
