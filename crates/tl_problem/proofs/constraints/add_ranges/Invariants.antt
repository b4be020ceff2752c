use Rattle.tl_diff.specs.Bounds.{IsSatisfiable}
use Rattle.tl_problem.specs.inner.Constraints.{AddsRanges}
use Rattle.tl_problem.proofs.constraints.add_ranges.Given as goal

abbrev pub invariant-loop-s : goal.invariant-loop-s
invariant-loop-s l = record {
  adds : AddsRanges l.problem l.zone l.s l.fn.matrix l.matrix (Unit {0});
  holds : IsSatisfiable l.matrix.bounds;
}
