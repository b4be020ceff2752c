-- A step whose rise is needed is put at the end; any other makes none.
use Rattle.std.proofs.Common.{◌≡◌, length, refl, sym, subst, arith}
use Rattle.tl_base.specs.Steps.{AreSteps}
use Rattle.tl_astar.specs.inner.Rises.{AddsRises}
use Rattle.tl_astar.proofs.RiseLemmas.{AddsUpto-none, AddsUpto-skip, AddsUpto-push, AddsRises-from}
use Rattle.tl_astar.proofs.rises.add_rises.Goals as goal
use Rattle.tl_astar.proofs.rises.add_rises.Goals.{then-least-width+then-width-most+then-narrow-height+in_ok-push, else-least-width}
use Rattle.tl_astar.proofs.rises.add_rises.Goals.{else-least-width-via-then-least-width+then-width-most+else-narrow-height}
use Rattle.tl_astar.proofs.rises.add_rises.Goals.{else-least-width-via-then-least-width+else-width-most}
use Rattle.tl_astar.proofs.rises.add_rises.Goals.{else-least-width-via-else-least-width}

pub loop-number-init : goal.loop-number-init
loop-number-init c =
    let steps = c.configs-steps.result.now in
    let are : AreSteps steps = subst (λ all. AreSteps all) (sym c.configs-steps.ensures.configs) c.configs-steps.ensures.sound in
    AddsUpto-none steps are c.args.strip c.args.room.0 c.args.room.1 c.args.height c.args.rises.now.items c.args.rises.now.items
    1 (omega arith)

pub loop-number-preserved : goal.loop-number-preserved
loop-number-preserved c =
    let steps = c.configs-steps.result.now in
    let are : AreSteps steps = subst (λ all. AreSteps all) (sym c.configs-steps.ensures.configs) c.configs-steps.ensures.sound in
    let old = c.args.rises.now.items in
    let number = c.loop-number.number in
    elim c.if-least-width.branch [
      | then-least-width+then-width-most+then-narrow-height+in_ok-push w ↦
          rw (w.rises-is, w.in_ok-push.ensures.items)
          (AddsUpto-push steps are c.args.strip c.args.room.0 c.args.room.1 c.args.height old c.loop-number.rises.items
          number c.loop-number.auto.number c.loop-number-test.true c.loop-number.invariant _ refl refl refl
          w.if-least-width.true w.if-width-most.true w.if-narrow-height.true)
      | else-least-width w ↦
          rw w.rises-is
          (AddsUpto-skip steps are c.args.strip c.args.room.0 c.args.room.1 c.args.height old c.loop-number.rises.items
          number c.loop-number.auto.number c.loop-number-test.true c.loop-number.invariant (λ past within above.
          elim w.else-least-width.branch [
            | else-least-width-via-then-least-width+then-width-most+else-narrow-height w' ↦
                absurd (omega (arith, above, w'.if-narrow-height.false))
            | else-least-width-via-then-least-width+else-width-most w' ↦ absurd (omega (arith, within, w'.if-width-most.false))
            | else-least-width-via-else-least-width w' ↦ absurd (omega (arith, past, w'.if-least-width.false))
          ]))
    ]

pub returns : goal.returns
returns c =
    let steps = c.configs-steps.result.now in
    let are : AreSteps steps = subst (λ all. AreSteps all) (sym c.configs-steps.ensures.configs) c.configs-steps.ensures.sound in
    let number = c.loop-number.number in
    let number_small : number ≡ length steps = omega arith in
    subst (λ all. AddsRises all c.args.strip c.args.room.0 c.args.room.1 c.args.height c.args.rises.now.items
    c.loop-number.rises.items) c.configs-steps.ensures.configs
    (AddsRises-from steps are c.args.strip c.args.room.0 c.args.room.1 c.args.height c.args.rises.now.items
    c.loop-number.rises.items number c.loop-number.auto.number c.loop-number-test.false (omega (arith, number_small))
    c.loop-number.invariant)
