use Rattle.std.proofs.Common.{[], take}
use Rattle.tl_check.specs.Matrices.{Describes, KeepsMarks}
use Rattle.tl_check.proofs.nogoods.keep_bounds.Given as goal

abbrev pub invariant-bounds : goal.invariant-bounds
invariant-bounds l = record {
  describes : Describes l.problem (take l.bound-index l.bounds) [] l.matrix.bounds;
  marks : KeepsMarks l.fn.matrix l.matrix;
}
