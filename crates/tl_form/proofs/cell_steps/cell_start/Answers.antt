use Rattle.std.proofs.Common.{◌≡◌, ◌+◌, ◌<◌, ◌≤◌, max, take, length, get_or, subst, sym}
use Rattle.tl_table.specs.declared.cell.Content.{out-Content}
use Rattle.tl_table.specs.declared.cell.TableCell.{out-TableCell}
use Rattle.tl_form.specs.inner.CellSteps.{HaveSteps, NeedsBy}
use Rattle.std.proofs.lemmas.List.{take_all}
use Rattle.tl_base.proofs.Taken.{taken_more}
use Rattle.tl_form.proofs.CellNeedLemmas.{StartSoFar, start-all, start-more}
use Rattle.tl_form.proofs.ProblemCells.{have-blocks}
use Rattle.tl_table.proofs.SoundParts.{at_item}
use Rattle.tl_table.specs.Tables.{tables_of}
use Rattle.tl_form.proofs.cell_steps.cell_start.Goals as goal

pub block_start-requires : goal.block_start-requires
block_start-requires c =
    at_item (λ block. HaveSteps c.args.inner.now (tables_of (out-Content block)))
    (out-TableCell c.args.cell.now).blocks c.loop-block.block-index
    c.block-item.result (have-blocks c.args.inner.now (out-TableCell c.args.cell.now) c.requires)
    (subst (λ items. c.loop-block.block-index < length items) c.as_slice-block-items.ensures c.loop-block-test.true)
    (subst (λ items. c.block-item.result ≡ get_or items c.loop-block.block-index c.block-item.result)
    c.as_slice-block-items.ensures c.block-item.is)

pub loop-block-preserved : goal.loop-block-preserved
loop-block-preserved c =
    let needs = NeedsBy c.args.bound c.args.inner.now in
    let cell = out-TableCell c.args.cell.now in
    subst (StartSoFar needs cell.least (take (c.loop-block.block-index + 1) cell.blocks)) (sym c.max-start.ensures)
    (subst (λ blocks. StartSoFar needs cell.least blocks (max c.loop-block.start c.block_start.result))
    (sym (taken_more cell.blocks c.loop-block.block-index c.block-item.result c.block-item.result
    (subst (λ items. c.loop-block.block-index < length items) c.as_slice-block-items.ensures c.loop-block-test.true)
    (subst (λ items. c.block-item.result ≡ get_or items c.loop-block.block-index c.block-item.result)
    c.as_slice-block-items.ensures c.block-item.is)))
    (start-more needs cell.least (take c.loop-block.block-index cell.blocks)
    c.block-item.result c.loop-block.start c.block_start.result
    c.loop-block.invariant c.block_start.ensures))

pub returns : goal.returns
returns c =
    let needs = NeedsBy c.args.bound c.args.inner.now in
    let cell = out-TableCell c.args.cell.now in
    λ lines. start-all needs lines cell c.loop-block.start
    (subst (λ blocks. StartSoFar needs cell.least blocks c.loop-block.start)
    (take_all c.loop-block.block-index cell.blocks
    (subst (λ items. length items ≤ c.loop-block.block-index) c.as_slice-block-items.ensures c.loop-block-test.false))
    c.loop-block.invariant)
