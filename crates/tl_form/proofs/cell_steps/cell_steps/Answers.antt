use Rattle.std.proofs.Common.{◌≡◌, ◌<◌, ◌≤◌, ◌∙◌, true, false, take, length, get_or, subst, sym, arith}
use Rattle.tl_table.specs.declared.cell.Content.{out-Content}
use Rattle.tl_table.specs.declared.cell.TableCell.{out-TableCell}
use Rattle.tl_form.specs.inner.CellSteps.{HaveSteps, NeedsBy, bound_of}
use Rattle.std.proofs.lemmas.List.{take_all}
use Rattle.tl_base.proofs.Taken.{taken_more}
use Rattle.tl_table.specs.Tables.{tables_of}
use Rattle.tl_form.proofs.CellNeedLemmas.{StepsSoFar, block-at, cell-blocks, inner-functional, low-together, steps-all}
use Rattle.tl_form.proofs.CellNeedLemmas.{steps-more, steps-none}
use Rattle.tl_form.proofs.ProblemCells.{have-blocks}
use Rattle.tl_table.proofs.SoundParts.{at_item}
use Rattle.tl_form.proofs.cell_steps.cell_steps.Goals as goal

passed : false ≡ true → ⊥
passed equal = cc

pub returns-then-page-start : goal.returns-then-page-start
returns-then-page-start c = λ low.
    let within = (c.cell_start-start.ensures c.args.lines).from c.args.page low.some.0 low.some.1 in
    omega (arith, within, c.if-page-start.true)

pub flat-requires : goal.flat-requires
flat-requires c = c.if-page-start.false

pub loop-block-init : goal.loop-block-init
loop-block-init c = steps-none (NeedsBy c.args.bound c.args.inner.now)
    c.cell_start-start.result c.args.page c.in_ok-steps.steps c.in_ok-steps.ensures

pub block_steps-requires-clause-steps : goal.block_steps-requires-clause-steps
block_steps-requires-clause-steps c =
    at_item (λ block. HaveSteps c.args.inner.now (tables_of (out-Content block)))
    (out-TableCell c.args.cell.now).blocks c.loop-block.block-index
    c.block-item.result (have-blocks c.args.inner.now (out-TableCell c.args.cell.now) c.requires.steps)
    (subst (λ items. c.loop-block.block-index < length items) c.as_slice-block-items.ensures c.loop-block-test.true)
    (subst (λ items. c.block-item.result ≡ get_or items c.loop-block.block-index c.block-item.result)
    c.as_slice-block-items.ensures c.block-item.is)

pub block_steps-requires-clause-some : goal.block_steps-requires-clause-some
block_steps-requires-clause-some c =
    let needs = NeedsBy c.args.bound c.args.inner.now in
    let cell = out-TableCell c.args.cell.now in
    let start = c.cell_start-start.result in
    let whole = (c.cell_start-start.ensures c.args.lines).has start (omega arith) in
    let all = cell-blocks needs c.args.lines cell start whole.0 whole.1 in
    block-at needs cell.blocks start all.0 c.loop-block.block-index c.block-item.result all.1
    (subst (λ items. c.loop-block.block-index < length items) c.as_slice-block-items.ensures c.loop-block-test.true)
    (subst (λ items. c.block-item.result ≡ get_or items c.loop-block.block-index c.block-item.result)
    c.as_slice-block-items.ensures c.block-item.is)

pub block_steps-requires-clause-within : goal.block_steps-requires-clause-within
block_steps-requires-clause-within c = c.if-page-start.false

pub returns-then-not-are_low : goal.returns-then-not-are_low
returns-then-not-are_low c = λ low.
    let together = low-together (NeedsBy c.args.bound c.args.inner.now) (inner-functional (bound_of c.args.bound) c.args.inner.now)
    c.args.lines (out-TableCell c.args.cell.now)
    c.args.page c.cell_start-start.result c.loop-block.block-index c.block-item.result c.loop-block.steps c.in_ok-below.below
    low
    (c.cell_start-start.ensures c.args.lines)
    (subst (λ items. c.loop-block.block-index < length items) c.as_slice-block-items.ensures c.loop-block-test.true)
    (subst (λ items. c.block-item.result ≡ get_or items c.loop-block.block-index c.block-item.result)
    c.as_slice-block-items.ensures c.block-item.is)
    c.loop-block.invariant c.in_ok-below.ensures in
    passed (sym c.if-not-are_low.true ∙ c.are_low.ensures.1 together)

pub loop-block-preserved : goal.loop-block-preserved
loop-block-preserved c =
    let needs = NeedsBy c.args.bound c.args.inner.now in
    let cell = out-TableCell c.args.cell.now in
    let start = c.cell_start-start.result in
    subst (λ blocks. StepsSoFar needs start c.args.page blocks c.in_ok-steps-2.steps)
    (sym (taken_more cell.blocks c.loop-block.block-index c.block-item.result c.block-item.result
    (subst (λ items. c.loop-block.block-index < length items) c.as_slice-block-items.ensures c.loop-block-test.true)
    (subst (λ items. c.block-item.result ≡ get_or items c.loop-block.block-index c.block-item.result)
    c.as_slice-block-items.ensures c.block-item.is)))
    (steps-more needs start c.args.page (take c.loop-block.block-index cell.blocks)
    c.block-item.result c.loop-block.steps c.in_ok-below.below
    c.in_ok-steps-2.steps c.loop-block.invariant c.in_ok-below.ensures c.in_ok-steps-2.ensures.decreasing
    c.in_ok-steps-2.ensures.heights)

pub returns : goal.returns
returns c =
    let needs = NeedsBy c.args.bound c.args.inner.now in
    let cell = out-TableCell c.args.cell.now in
    steps-all needs c.args.page c.args.lines cell c.cell_start-start.result c.loop-block.steps c.in_ok-low.low
    (c.cell_start-start.ensures c.args.lines)
    (subst (λ blocks. StepsSoFar needs c.cell_start-start.result c.args.page blocks c.loop-block.steps)
    (take_all c.loop-block.block-index cell.blocks
    (subst (λ items. length items ≤ c.loop-block.block-index) c.as_slice-block-items.ensures c.loop-block-test.false))
    c.loop-block.invariant)
    c.in_ok-low.ensures
