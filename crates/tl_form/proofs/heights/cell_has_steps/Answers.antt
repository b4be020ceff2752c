use Rattle.std.proofs.Common.{◌≡◌, ◌<◌, ◌≤◌, length, get_or, refl, subst, sym, ◌∙◌}
use Rattle.std.specs.List.{AllByRecursion}
use Rattle.std.proofs.lemmas.List.{take_all}
use Rattle.tl_base.proofs.Taken.{AllByRecursion-taken}
use Rattle.tl_table.specs.declared.cell.Content.{out-Content}
use Rattle.tl_table.specs.declared.cell.TableCell.{out-TableCell}
use Rattle.tl_table.specs.Tables.{tables_of}
use Rattle.tl_form.specs.inner.CellSteps.{HaveSteps}
use Rattle.tl_table.proofs.SoundParts.{at_item}
use Rattle.tl_form.proofs.ProblemCells.{blocks-have, have-blocks}
use Rattle.tl_form.proofs.heights.cell_has_steps.Goals as goal

pub returns-then-not-block_has_steps : goal.returns-then-not-block_has_steps
returns-then-not-block_has_steps c = (
  λ yes. absurd cc,
  λ have. sym c.if-not-block_has_steps.true ∙ c.block_has_steps.ensures.1
      (at_item (λ block. HaveSteps c.args.inner.now (tables_of (out-Content block)))
      (out-TableCell c.args.cell.now).blocks c.loop-block.block-index
      c.block-item.result (have-blocks c.args.inner.now (out-TableCell c.args.cell.now) have)
      (subst (λ items. c.loop-block.block-index < length items) c.as_slice-block-items.ensures c.loop-block-test.true)
      (subst (λ items. c.block-item.result ≡ get_or items c.loop-block.block-index c.block-item.result)
      c.as_slice-block-items.ensures c.block-item.is)),
)

pub loop-block-preserved : goal.loop-block-preserved
loop-block-preserved c =
    AllByRecursion-taken (λ block. HaveSteps c.args.inner.now (tables_of (out-Content block)))
    (out-TableCell c.args.cell.now).blocks c.loop-block.block-index
    c.block-item.result c.block-item.result
    (subst (λ items. c.loop-block.block-index < length items) c.as_slice-block-items.ensures c.loop-block-test.true)
    (subst (λ items. c.block-item.result ≡ get_or items c.loop-block.block-index c.block-item.result)
    c.as_slice-block-items.ensures c.block-item.is)
    c.loop-block.invariant (c.block_has_steps.ensures.0 c.if-not-block_has_steps.false)

pub returns : goal.returns
returns c = (
  λ yes. blocks-have c.args.inner.now (out-TableCell c.args.cell.now)
      (subst (AllByRecursion (λ block. HaveSteps c.args.inner.now (tables_of (out-Content block))))
      (take_all c.loop-block.block-index (out-TableCell c.args.cell.now).blocks
      (subst (λ items. length items ≤ c.loop-block.block-index) c.as_slice-block-items.ensures c.loop-block-test.false))
      c.loop-block.invariant),
  λ have. refl,
)
