-- The steps up to the first that comes to no line, or all.
use Rattle.std.proofs.Common.{subst, sym}
use Rattle.tl_form.specs.inner.CellSteps.{AreLowered}
use Rattle.tl_form.proofs.LoweredSteps.{lowered-end, lowered-whole}
use Rattle.tl_form.proofs.lowered.lowered.Goals as goal

pub from_list-requires : goal.from_list-requires
from_list-requires c =
    let configs = c.configs-step-items.ensures in
    let low = lowered-end c.args.lines c.args.steps c.configs-step-items.result.now configs.configs configs.sound
    c.loop-step.step-index c.saturating_sub-height.result c.loop-step.list c.push.new.self c.loop-step.invariant
    c.loop-step-test.true c.saturating_sub-height.ensures c.if-height-eq0.true c.in_ok-push.ensures.ok in
    low.decreasing

pub returns-then-height-eq0 : goal.returns-then-height-eq0
returns-then-height-eq0 c =
    let configs = c.configs-step-items.ensures in
    subst (AreLowered c.args.lines c.args.steps) (sym c.from_list.ensures)
    (lowered-end c.args.lines c.args.steps c.configs-step-items.result.now configs.configs configs.sound
    c.loop-step.step-index c.saturating_sub-height.result c.loop-step.list c.push.new.self c.loop-step.invariant
    c.loop-step-test.true c.saturating_sub-height.ensures c.if-height-eq0.true c.in_ok-push.ensures.ok)

pub from_list-requires-2 : goal.from_list-requires-2
from_list-requires-2 c =
    let configs = c.configs-step-items.ensures in
    let low = lowered-whole c.args.lines c.args.steps c.configs-step-items.result.now configs.configs configs.sound
    c.loop-step.step-index c.loop-step.list c.loop-step.invariant c.loop-step-test.false in
    low.decreasing

pub returns : goal.returns
returns c =
    let configs = c.configs-step-items.ensures in
    subst (AreLowered c.args.lines c.args.steps) (sym c.from_list-2.ensures)
    (lowered-whole c.args.lines c.args.steps c.configs-step-items.result.now configs.configs configs.sound
    c.loop-step.step-index c.loop-step.list c.loop-step.invariant c.loop-step-test.false)
