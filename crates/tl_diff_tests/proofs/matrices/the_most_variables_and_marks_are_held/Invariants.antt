use Rattle.std.proofs.Common.{◌≡◌, ◌+◌, length}
use Rattle.tl_diff.specs.Bounds.{IsSatisfiable}
use Rattle.tl_diff_tests.proofs.matrices.the_most_variables_and_marks_are_held.Given as goal

abbrev pub invariant-marks : goal.invariant-marks
invariant-marks g l = record {
  variables : l.matrix.bounds.n ≡ 64;
  marks : l.matrix.marks ≡ 8;
  held : length l.matrix.held ≡ l.counter;
  holds : IsSatisfiable l.matrix.bounds;
}

abbrev pub invariant-loop-variable : goal.invariant-loop-variable
invariant-loop-variable g l = record {
  variables : l.matrix.bounds.n ≡ 64;
  held : length l.matrix.held ≡ 8;
  holds : IsSatisfiable l.matrix.bounds;
}

abbrev pub invariant-undone : goal.invariant-undone
invariant-undone g l = record {
  variables : l.matrix.bounds.n ≡ 64;
  held : length l.matrix.held + l.counter ≡ 8;
}
