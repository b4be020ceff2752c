use Rattle.std.proofs.Common.{◌≡◌, ◌+◌, ◌<◌, ◌≤◌, Some, length, get_or, sym, subst, ap, ◌∙◌, arith}
use Rattle.std.proofs.lemmas.List.{get_or_default}
use Rattle.tl_base.specs.declared.steps.Config.{Config}
use Rattle.tl_base.proofs.Decreasing.{no_step}
use Rattle.tl_base.specs.Steps.{height_at}
use Rattle.tl_form.specs.Problems.{AreStepsOf}
use Rattle.tl_form.specs.inner.CellSteps.{From}
use Rattle.tl_form.proofs.BetweenSteps.{BetweenSoFar, between-all, between-kept, between-left}
use Rattle.tl_form.proofs.cell_steps.between.Goals.{then-from-step+then-step-page+in_ok-push-2, else-from-step}
use Rattle.tl_form.proofs.cell_steps.between.Goals.{else-from-step-via-then-from-step+else-step-page}
use Rattle.tl_form.proofs.cell_steps.between.Goals.{else-from-step-via-else-from-step}
use Rattle.tl_form.proofs.cell_steps.between.Goals as goal

pub loop-step-preserved : goal.loop-step-preserved
loop-step-preserved c =
    let steps = c.args.steps.now in
    let i = c.loop-step.step-index in
    let configs = c.configs-step-items.ensures.configs in
    let are = c.configs-step-items.ensures.sound in
    let step : Config = get_or c.configs-step-items.result.now i no_step in
    let inside : i < length steps = subst (λ items. i < length items) configs c.loop-step-test.true in
    let is : step ≡ get_or steps i step = ap (λ items. get_or items i no_step)
    configs ∙ get_or_default steps i no_step step inside in
    elim c.if-from-step.branch [
      | then-from-step+then-step-page+in_ok-push-2 w ↦
          between-kept steps are c.args.from c.args.page i c.loop-step.list c.if-from-step.list step c.loop-step.invariant
          inside is w.if-from-step.true
          w.if-step-page.true (w.list-is ∙ w.in_ok-push-2.ensures.ok)
      | else-from-step w ↦
          let far : c.args.from < step.width → c.args.page < step.width = elim w.else-from-step.branch [
            | else-from-step-via-then-from-step+else-step-page v ↦ λ after. v.if-step-page.false
            | else-from-step-via-else-from-step v ↦ λ after. absurd (omega (arith, after, v.if-from-step.false))
          ] in
          subst (BetweenSoFar steps c.args.from c.args.page (i + 1)) (sym w.list-is)
          (between-left steps are c.args.from c.args.page i c.loop-step.list step c.loop-step.invariant inside is far)
    ]

pub returns : goal.returns
returns c =
    let steps = c.args.steps.now in
    let configs = c.configs-step-items.ensures.configs in
    subst (λ list. AreStepsOf (From c.args.from (λ w h. height_at steps w ≡ Some h)) c.args.page list) (sym c.from_list.ensures)
    (between-all steps c.configs-step-items.ensures.sound c.args.from c.args.page c.loop-step.step-index c.requires.some.0
    c.loop-step.list
    c.loop-step.invariant (subst (λ items. length items ≤ c.loop-step.step-index) configs c.loop-step-test.false)
    c.requires.some.1)
