-- Every assignment satisfies a new matrix.
use Rattle.std.proofs.Common.{length, pos, ap}
use Rattle.tl_diff_tests.proofs.matrices.the_most_variables_and_marks_are_held.Goals as goal

pub marks-init : goal.marks-init
marks-init g c = record {
  variables = c.in_ok-matrix.ensures.variables;
  marks = c.in_ok-matrix.ensures.marks;
  held = ap length c.in_ok-matrix.ensures.none_held;
  holds = ((λ _. pos 0), c.in_ok-matrix.ensures.free (λ _. pos 0));
}
