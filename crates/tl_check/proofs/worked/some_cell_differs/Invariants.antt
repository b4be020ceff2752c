use Rattle.tl_check.specs.inner.Traces.{SpanDiffers}
use Rattle.tl_check.proofs.worked.some_cell_differs.Given as goal

abbrev pub invariant-loop-number : goal.invariant-loop-number
invariant-loop-number l = SpanDiffers l.problem l.s l.first l.last l.number → ⊥
