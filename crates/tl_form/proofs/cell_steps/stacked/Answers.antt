use Rattle.std.proofs.Common.{◌≡◌, ℕ, subst}
use Rattle.std.proofs.lemmas.Result.{IfOk-weaker}
use Rattle.tl_base.specs.Steps.{AreSteps, height_at, stacked_height}
use Rattle.tl_form.specs.Problems.{AreStepsOf}
use Rattle.tl_form.proofs.CellNeedLemmas.{stacked-below}
use Rattle.tl_form.proofs.TallStacks.{Both, tall-everywhere}
use Rattle.tl_form.proofs.cell_steps.stacked.Goals as goal

-- below what needs no line nothing is added
pub returns-then-least-clause-heights : goal.returns-then-least-clause-heights
returns-then-least-clause-heights c =
    stacked-below c.args.above.now c.args.below c.need_no_line.ensures.sound
    (subst AreSteps c.below.view_is c.below.invariant)
    (c.need_no_line.ensures.none.0 c.if-need_no_line.true)
    (rw (c.least.ensures, c.least-then-need_no_line.ensures) at c.if-least.true)

-- past the page neither has a step
pub returns-then-not-are_low-clause-heights : goal.returns-then-not-are_low-clause-heights
returns-then-not-are_low-clause-heights c =
    let above = c.args.above.now in
    let below = c.args.below in
    IfOk-weaker c.tall_stack.result (AreStepsOf (Both above below) c.args.page)
    (λ steps. (w : ℕ) → height_at steps w ≡ stacked_height above below w)
    (λ steps made. tall-everywhere above below c.need_no_line.ensures.sound (subst AreSteps c.below-2.view_is c.below-2.invariant)
    c.args.page steps c.requires.above c.requires.below made) c.tall_stack.ensures
