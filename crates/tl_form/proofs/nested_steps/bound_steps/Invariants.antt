use Rattle.std.proofs.Common.{◌≤◌}
use Rattle.tl_form.specs.inner.Collecting.{AreStepsBelow, TellsHeight}
use Rattle.tl_form.proofs.nested_steps.bound_steps.Given as goal

abbrev pub invariant-loop-w : goal.invariant-loop-w
invariant-loop-w l = record { from : l.least ≤ l.w; below : AreStepsBelow (TellsHeight l.bound l.told) l.least l.w l.configs }
