use Rattle.std.proofs.Common.{◌≡◌, Some, ap, subst, sym, ◌∙◌}
use Rattle.tl_table.specs.declared.cell.Content.{out-Content}
use Rattle.tl_table.specs.declared.cell.Content.TheVariants.{outs-Para, outs-Table}
use Rattle.tl_form.specs.Problems.{AreStepsOf, BlockNeeds}
use Rattle.tl_form.specs.inner.CellSteps.{From, NeedsBy, bound_of}
use Rattle.std.proofs.lemmas.Result.{IfOk-weaker}
use Rattle.tl_base.specs.Steps.{AreSteps, height_at}
use Rattle.tl_form.proofs.CellNeedLemmas.{block-between, height-paragraph, height-table, own-between, paragraph-height, table-height}
use Rattle.tl_form.proofs.ParagraphSteps.{holds-wider, paragraph-steps}
use Rattle.tl_form.proofs.cell_steps.block_steps.Goals as goal

pub configs-requires-clause-holds : goal.configs-requires-clause-holds
configs-requires-clause-holds c =
    holds-wider c.in-Para.paragraph c.args.from c.args.page c.requires.some.0 c.requires.within
    (height-paragraph (NeedsBy c.args.bound c.args.inner.now) (out-Content c.args.block.now)
    c.in-Para.paragraph c.args.from c.requires.some.0
    (ap out-Content c.in-Para.is ∙ outs-Para c.in-Para.paragraph) c.requires.some.1)

pub returns-then-least-from : goal.returns-then-least-from
returns-then-least-from c =
    let needs = NeedsBy c.args.bound c.args.inner.now in
    let block = out-Content c.args.block.now in
    let steps = c.in_ok-steps-in-Para.steps in
    let are = subst AreSteps c.steps.view_is c.steps.invariant in
    let is = ap out-Content c.in-Para.is ∙ outs-Para c.in-Para.paragraph in
    let of = paragraph-steps c.in-Para.paragraph c.args.page steps are c.in_ok-steps-in-Para.ensures in
    block-between needs block c.args.from c.args.page steps steps
    (λ w h within at. paragraph-height needs block c.in-Para.paragraph w h is ((of.each w h within).0 at))
    (λ w h within need. (of.each w h within).1 (height-paragraph needs block c.in-Para.paragraph w h is need))
    (own-between c.args.from c.args.page steps are of.within (sym c.least.ensures ∙ c.if-least-from.true))

pub between-requires-clause-some : goal.between-requires-clause-some
between-requires-clause-some c =
    let steps = c.in_ok-steps-in-Para.steps in
    let of = paragraph-steps c.in-Para.paragraph c.args.page steps (subst AreSteps c.steps.view_is c.steps.invariant)
    c.in_ok-steps-in-Para.ensures in (
      c.requires.some.0,
      (of.each c.args.from c.requires.some.0 c.requires.within).1
          (height-paragraph (NeedsBy c.args.bound c.args.inner.now) (out-Content c.args.block.now)
          c.in-Para.paragraph c.args.from c.requires.some.0
          (ap out-Content c.in-Para.is ∙ outs-Para c.in-Para.paragraph) c.requires.some.1),
    )

pub returns-else-least-from : goal.returns-else-least-from
returns-else-least-from c =
    let needs = NeedsBy c.args.bound c.args.inner.now in
    let block = out-Content c.args.block.now in
    let steps = c.in_ok-steps-in-Para.steps in
    let is = ap out-Content c.in-Para.is ∙ outs-Para c.in-Para.paragraph in
    let of = paragraph-steps c.in-Para.paragraph c.args.page steps (subst AreSteps c.steps.view_is c.steps.invariant)
    c.in_ok-steps-in-Para.ensures in
    IfOk-weaker c.between.result (AreStepsOf (From c.args.from (λ w h. height_at steps w ≡ Some h)) c.args.page)
    (AreStepsOf (From c.args.from (BlockNeeds needs block)) c.args.page)
    (λ cut made. block-between needs block c.args.from c.args.page steps cut
    (λ w h within at. paragraph-height needs block c.in-Para.paragraph w h is ((of.each w h within).0 at))
    (λ w h within need. (of.each w h within).1 (height-paragraph needs block c.in-Para.paragraph w h is need)) made)
    c.between.ensures

pub returns-in-Table : goal.returns-in-Table
returns-in-Table c =
    let needs = NeedsBy c.args.bound c.args.inner.now in
    let block = out-Content c.args.block.now in
    let steps = c.bound_for-steps.result.now in
    let is = ap out-Content c.in-Table.is ∙ outs-Table c.in-Table.table in
    IfOk-weaker c.between-in-Table.result (AreStepsOf (From c.args.from (λ w h. height_at steps w ≡ Some h)) c.args.page)
    (AreStepsOf (From c.args.from (BlockNeeds needs block)) c.args.page)
    (λ cut made. block-between needs block c.args.from c.args.page steps cut
    (λ w h within at. table-height (bound_of c.args.bound) c.args.inner.now block c.in-Table.table c.deref.result.now steps is
    c.deref.ensures
    c.bound_for-steps.ensures w h at)
    (λ w h within need. height-table (bound_of c.args.bound)
    c.args.inner.now block c.in-Table.table c.deref.result.now steps is c.deref.ensures
    c.bound_for-steps.ensures w h need) made) c.between-in-Table.ensures
