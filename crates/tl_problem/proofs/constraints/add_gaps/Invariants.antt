use Rattle.std.proofs.Common.{length}
use Rattle.tl_problem.specs.Spans.{spans_of}
use Rattle.tl_problem.specs.inner.Constraints.{PageUpto}
use Rattle.tl_problem.proofs.constraints.add_gaps.Given as goal

abbrev pub invariant-loop-column : goal.invariant-loop-column
invariant-loop-column l = PageUpto l.problem l.column (length (spans_of l.problem)) l.matrix
