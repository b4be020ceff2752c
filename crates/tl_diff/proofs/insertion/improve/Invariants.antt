use Rattle.tl_diff.specs.Bounds.{bounds_of}
use Rattle.tl_diff.specs.inner.Closed.{IsImproved}
use Rattle.tl_diff.proofs.insertion.improve.Given as goal

abbrev pub invariant-loop-variable : goal.invariant-loop-variable
invariant-loop-variable l = IsImproved (bounds_of l.variables l.fn.rows) (bounds_of l.variables l.rows) l.a l.b l.most l.variable
