use Rattle.std.proofs.Common.{take}
use Rattle.tl_problem.specs.inner.Spanning.{AddsSteps}
use Rattle.tl_problem.proofs.spans.add_steps.Given as goal

abbrev pub invariant-loop-step : goal.invariant-loop-step
invariant-loop-step l = AddsSteps l.fn.firsts.items l.firsts.items (take l.step-index l.steps) l.least l.most
