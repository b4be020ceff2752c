-- At each width up to the page's the sum of both heights is looked at.
use Rattle.std.proofs.Common.{◌≡◌, ◌+◌, ◌∙◌, [], ◌∷◌, ◌++◌, ap, arith, max, subst, sym}
use Rattle.tl_base.specs.Steps.{first_width}
use Rattle.tl_form.specs.Problems.{AreStepsOf}
use Rattle.tl_form.proofs.TallStacks.{Both, TallSoFar, tall-all, tall-first, tall-flat, tall-lower}
use Rattle.tl_form.proofs.tall.tall_stack.Goals.{then-height-lowest+in_ok-push-2, else-height-lowest}
use Rattle.tl_form.proofs.tall.tall_stack.Goals as goal

pub loop-width-init : goal.loop-width-init
loop-width-init c =
    let start = c.max-start.result in
    let h = c.height_of_both-lowest.result in
    let is : start ≡ max (first_width c.args.above.now) (first_width c.args.below.now) =
    omega (arith, c.max-start.ensures, c.least.ensures, c.least-2.ensures) in
    tall-first c.args.above.now c.args.below.now c.requires.steps.0 c.requires.steps.1 start h c.push.new.self is
    c.height_of_both-lowest.ensures
    (c.in_ok-push.ensures.ok ∙ ap (λ items. items ++ record { width = start; height = h } ∷ []) c.new-list.ensures)

pub loop-width-preserved : goal.loop-width-preserved
loop-width-preserved c =
    let a = c.args.above.now in
    let b = c.args.below.now in
    let width = c.loop-width.width in
    let h = c.height_of_both-height.result in
    elim c.if-height-lowest.branch [
      | then-height-lowest+in_ok-push-2 w ↦
          subst (λ lowest. TallSoFar a b c.if-height-lowest.list lowest (width + 1)) (sym w.lowest-is)
          (tall-lower a b c.requires.steps.0 c.requires.steps.1 c.loop-width.list c.loop-width.lowest width h c.loop-width.invariant
          c.height_of_both-height.ensures c.if-height-lowest.list w.if-height-lowest.true (w.list-is ∙ w.in_ok-push-2.ensures.ok))
      | else-height-lowest w ↦
          subst (λ list. TallSoFar a b list c.if-height-lowest.lowest (width + 1)) (sym w.list-is)
          (subst (λ lowest. TallSoFar a b c.loop-width.list lowest (width + 1)) (sym w.lowest-is)
          (tall-flat a b c.requires.steps.0 c.requires.steps.1 c.loop-width.list c.loop-width.lowest width h c.loop-width.invariant
          c.height_of_both-height.ensures w.if-height-lowest.false))
    ]

pub returns : goal.returns
returns c =
    subst (AreStepsOf (Both c.args.above.now c.args.below.now) c.args.page) (sym c.from_list.ensures)
    (tall-all c.args.above.now c.args.below.now c.requires.steps.0 c.requires.steps.1 c.loop-width.list c.loop-width.lowest
    c.loop-width.width c.args.page c.loop-width.invariant
    (omega (arith, c.loop-width-test.false, c.loop-width.auto.width, c.loop-width.auto.width-end)))
