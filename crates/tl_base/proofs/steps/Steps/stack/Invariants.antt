-- The steps below the width are those of the sum.
use Rattle.std.proofs.Common.{◌-◌, ◌^◌, max}
use Rattle.tl_base.specs.Steps.{first_width, stacked_height}
use Rattle.tl_base.proofs.Stacking.{AreStepsBelow}
use Rattle.tl_base.proofs.steps.Steps.stack.Given as goal

abbrev pub invariant-loop-list : goal.invariant-loop-list
invariant-loop-list l = AreStepsBelow (max (first_width l.a) (first_width l.b)) (stacked_height l.a l.b) l.list l.width

abbrev pub decreases-loop-list : goal.decreases-loop-list
decreases-loop-list l = 2 ^ 32 - l.width
