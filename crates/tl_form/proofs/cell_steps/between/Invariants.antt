use Rattle.tl_form.proofs.BetweenSteps.{BetweenSoFar}
use Rattle.tl_form.proofs.cell_steps.between.Given as goal

abbrev pub invariant-loop-step : goal.invariant-loop-step
invariant-loop-step l = BetweenSoFar l.steps l.from l.page l.step-index l.list
