use Rattle.tl_form.proofs.LoweredSteps.{LoweredSoFar}
use Rattle.tl_form.proofs.lowered.lowered.Given as goal

abbrev pub invariant-loop-step : goal.invariant-loop-step
invariant-loop-step l = LoweredSoFar l.lines l.fn.steps l.step-index l.list
