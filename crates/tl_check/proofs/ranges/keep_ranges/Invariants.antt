use Rattle.std.proofs.Common.{[]}
use Rattle.tl_check.specs.Matrices.{Describes, KeepsMarks}
use Rattle.tl_check.specs.inner.Zones.{bounds_upto}
use Rattle.tl_check.proofs.ranges.keep_ranges.Given as goal

abbrev pub invariant-loop-s : goal.invariant-loop-s
invariant-loop-s l = record {
  describes : Describes l.problem (bounds_upto l.problem l.zone l.s) [] l.matrix.bounds;
  marks : KeepsMarks l.fn.matrix l.matrix;
}
