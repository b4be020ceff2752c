use Rattle.tl_diff.specs.Bounds.{bounds_of}
use Rattle.tl_diff.specs.inner.Closed.{IsRowImproved}
use Rattle.tl_diff.proofs.insertion.improve_row.Given as goal

abbrev pub invariant-loop-end : goal.invariant-loop-end
invariant-loop-end l = IsRowImproved (bounds_of l.variables l.fn.rows) (bounds_of l.variables l.rows) l.variable l.b l.way l.end
