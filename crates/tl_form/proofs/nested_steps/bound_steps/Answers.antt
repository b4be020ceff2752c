use Rattle.std.proofs.Common.{◌+◌, subst, sym, arith}
use Rattle.tl_form.specs.inner.Collecting.{AreStepsBelow, AreToldSteps, TellsHeight}
use Rattle.tl_form.proofs.ToldSteps.{never_wide, height_missing, told_more, told_done}
use Rattle.tl_form.proofs.nested_steps.bound_steps.Goals as goal

pub returns-then-page-least : goal.returns-then-page-least
returns-then-page-least c = λ steps are. never_wide c.args.bound c.args.told.now c.args.least c.args.page steps are
    c.if-page-least.true

pub returns-in_default : goal.returns-in_default
returns-in_default c = λ steps are. height_missing c.args.bound c.args.told.now c.args.least c.args.page c.loop-w.w steps are
    c.loop-w.invariant.from (let within = c.loop-w-test.true in omega (arith, within)) (rw c.in_default.is at c.height_by.ensures)

pub loop-w-preserved : goal.loop-w-preserved
loop-w-preserved c = record {
  from = let from = c.loop-w.invariant.from in omega (arith, from);
  below = subst (AreStepsBelow (TellsHeight c.args.bound c.args.told.now) c.args.least (c.loop-w.w + 1))
      (sym c.in_ok-configs.ensures)
      (told_more c.args.bound c.args.told.now c.args.least c.loop-w.w c.in-Some.height c.loop-w.configs c.loop-w.invariant.from
      c.loop-w.invariant.below (rw c.in-Some.is at c.height_by.ensures));
}

pub returns : goal.returns
returns c = subst (AreToldSteps c.args.bound c.args.told.now c.args.least c.args.page) (sym c.from_list.ensures)
    (told_done c.args.bound c.args.told.now c.args.least c.args.page c.loop-w.w c.loop-w.configs
    (omega (arith, c.if-page-least.false)) (omega (arith, c.loop-w-test.false, c.loop-w.auto.w-end)) c.loop-w.invariant.below)
