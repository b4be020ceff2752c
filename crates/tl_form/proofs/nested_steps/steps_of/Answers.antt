use Rattle.std.proofs.Common.{◌∙◌, List, refl, subst, sym, arith}
use Rattle.tl_form.specs.declared.heights.HeightBound.TheVariants.{Low, High}
use Rattle.tl_form.specs.declared.nested_steps.Finding.{Finding}
use Rattle.tl_form.specs.inner.Collecting.{AreToldSteps}
use Rattle.tl_form.proofs.ToldSteps.{to_low, to_high, from_told}
use Rattle.tl_form.proofs.nested_steps.steps_of.Goals as goal

pub returns-in_default : goal.returns-in_default
returns-in_default c = λ steps is.
    (rw (c.in_ok-low.was, c.in_default.is) at c.bound_steps.ensures) steps.low
    (subst (λ (told : List Finding). AreToldSteps Low told c.in_ok-least.least c.args.page steps.low)
    (sym (c.deref.ensures.value ∙ c.in_ok-told.ensures))
    (to_low c.args.style c.args.page c.args.sections.now c.args.nested.now c.in_ok-least.least (omega (arith, c.requires.page))
    c.in_ok-least.ensures.least steps is))

pub returns-in_default-2 : goal.returns-in_default-2
returns-in_default-2 c = λ steps is.
    (rw (c.in_ok-high.was, c.in_default-2.is) at c.bound_steps-2.ensures) steps.high
    (subst (λ (told : List Finding). AreToldSteps High told c.in_ok-least.least c.args.page steps.high)
    (sym (c.deref-2.ensures.value ∙ c.in_ok-told.ensures))
    (to_high c.args.style c.args.page c.args.sections.now c.args.nested.now c.in_ok-least.least (omega (arith, c.requires.page))
    c.in_ok-least.ensures.least
    steps is))

pub returns : goal.returns
returns c = from_told c.args.style c.args.page c.args.sections.now c.args.nested.now c.in_ok-least.least
    (omega (arith, c.requires.page))
    c.in_ok-least.ensures.least _ refl
    (subst (λ (told : List Finding). AreToldSteps Low told c.in_ok-least.least c.args.page c.in-Some.low)
    (c.deref.ensures.value ∙ c.in_ok-told.ensures)
    (rw c.in-Some.is at c.in_ok-low.ensures))
    (subst (λ (told : List Finding). AreToldSteps High told c.in_ok-least.least c.args.page c.in-Some-2.high)
    (c.deref-2.ensures.value ∙ c.in_ok-told.ensures)
    (rw c.in-Some-2.is at c.in_ok-high.ensures))
