use Rattle.std.proofs.Common.{◌≡◌, ◌≤◌}
use Rattle.tl_diff_tests.proofs.matrices.a_matrix_agrees_with_constraints_closed_anew.Given as goal

abbrev pub invariant-loop : goal.invariant-loop
invariant-loop g l = record {
  variables : l.matrix.bounds.n ≡ 7;
  marks : l.matrix.marks ≡ 4;
  refused : l.refused ≤ l.counter;
  undone : l.undone ≤ l.counter;
}
