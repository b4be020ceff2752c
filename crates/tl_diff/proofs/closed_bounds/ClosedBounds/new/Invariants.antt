use Rattle.tl_diff.specs.inner.Closed.{IsFree}
use Rattle.tl_diff.proofs.closed_bounds.ClosedBounds.new.Given as goal

abbrev pub invariant-loop-variable : goal.invariant-loop-variable
invariant-loop-variable l = IsFree (record { n = l.variables; rows = l.rows.items }) l.variable
