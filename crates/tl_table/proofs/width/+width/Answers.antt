use Rattle.std.proofs.Common.{◌≡◌, ◌∙◌, ◌+◌, ◌<◌, ◌≤◌, get_or, length, sym, ap, subst, rules}
use Rattle.std.proofs.lemmas.List.{take_all}
use Rattle.tl_table.specs.declared.cell.Content.{out-Content, the_lemmas}
use Rattle.tl_table.specs.declared.cell.Content.TheVariants.{outs-Para, outs-Table}
use Rattle.tl_table.specs.declared.cell.Table.{out-Table}
use Rattle.tl_table.specs.declared.cell.TableCell.{out-TableCell}
use Rattle.tl_table.specs.Least.{IsLeastWidth}
use Rattle.tl_table.specs.inner.LeastRooms.{IsLeastForBlock}
use Rattle.tl_table.specs.Sound.{IsSoundBlock, IsSoundCell}
use Rattle.tl_table.proofs.LeastRoomLemmas.{least_for_paragraph, least_for_box}
use Rattle.tl_table.proofs.SoundParts.{sound_cells, sound_blocks, at_item}
use Rattle.tl_table.proofs.Widths.{BlocksSoFar, BlocksSoFar-none, BlocksSoFar-more, BlocksSoFar-all, CellsSoFar, CellsSoFar-more}
use Rattle.tl_table.proofs.Widths.{CellsSoFar-all}
use Rattle.tl_table.proofs.width.+width.Goals as goal

pub block_width-returns-in-Para-clause-least : goal.block_width-returns-in-Para-clause-least
block_width-returns-in-Para-clause-least t c =
    subst (λ block. IsLeastForBlock c.args.style block c.least_width.result)
    (sym (ap out-Content c.in-Para.is ∙ outs-Para c.in-Para.paragraph))
    (least_for_paragraph c.args.style c.in-Para.paragraph c.least_width.result c.least_width.ensures.holds
    c.least_width.ensures.least)

pub block_width-returns-in_ok-width-in-Table-clause-least : goal.block_width-returns-in_ok-width-in-Table-clause-least
block_width-returns-in_ok-width-in-Table-clause-least t c =
    subst (λ block. IsLeastForBlock c.args.style block c.in_ok-width-in-Table.width)
    (sym (ap out-Content c.in-Table.is ∙ outs-Table c.in-Table.table))
    (least_for_box c.args.style c.in-Table.table c.in_ok-width-in-Table.width
    (subst (λ table. IsLeastWidth table c.args.style c.in_ok-width-in-Table.width)
    c.deref-in-Table.ensures c.in_ok-width-in-Table.ensures.least))

pub cell_width-loop-block-init : goal.cell_width-loop-block-init
cell_width-loop-block-init t c = BlocksSoFar-none c.args.style (out-TableCell c.args.cell.now).least
    (out-TableCell c.args.cell.now).blocks
    c.requires.narrow

pub cell_width-block_width-requires : goal.cell_width-block_width-requires
cell_width-block_width-requires t c = (
  search (rules, the_lemmas),
  at_item (λ block. IsSoundBlock (out-Content block)) (out-TableCell c.args.cell.now).blocks c.loop-block.block-index
      c.block-item.result
      (sound_blocks c.args.cell.now c.requires)
      (subst (λ items. c.loop-block.block-index < length items) c.as_slice-block-items.ensures c.loop-block-test.true)
      (subst (λ items. c.block-item.result ≡ get_or items c.loop-block.block-index c.block-item.result)
      c.as_slice-block-items.ensures
      c.block-item.is),
)

pub cell_width-loop-block-preserved : goal.cell_width-loop-block-preserved
cell_width-loop-block-preserved t c =
    subst (BlocksSoFar c.args.style (out-TableCell c.args.cell.now).least (out-TableCell c.args.cell.now).blocks
    (c.loop-block.block-index + 1))
    (sym c.max-width.ensures)
    (BlocksSoFar-more c.args.style (out-TableCell c.args.cell.now).least
    (out-TableCell c.args.cell.now).blocks c.loop-block.block-index
    c.loop-block.width c.in_ok-block_width.field-0 c.block-item.result
    (subst (λ items. c.loop-block.block-index < length items) c.as_slice-block-items.ensures c.loop-block-test.true)
    (subst (λ items. c.block-item.result ≡ get_or items c.loop-block.block-index c.block-item.result)
    c.as_slice-block-items.ensures c.block-item.is)
    c.loop-block.invariant c.in_ok-block_width.ensures.least c.in_ok-block_width.ensures.small)

pub cell_width-returns-clause-least : goal.cell_width-returns-clause-least
cell_width-returns-clause-least t c =
    (BlocksSoFar-all c.args.style c.args.cell.now c.loop-block.block-index c.loop-block.width
    (take_all c.loop-block.block-index (out-TableCell c.args.cell.now).blocks
    (subst (λ items. length items ≤ c.loop-block.block-index) c.as_slice-block-items.ensures c.loop-block-test.false))
    c.loop-block.invariant).0

pub cell_width-returns-clause-small : goal.cell_width-returns-clause-small
cell_width-returns-clause-small t c =
    (BlocksSoFar-all c.args.style c.args.cell.now c.loop-block.block-index c.loop-block.width
    (take_all c.loop-block.block-index (out-TableCell c.args.cell.now).blocks
    (subst (λ items. length items ≤ c.loop-block.block-index) c.as_slice-block-items.ensures c.loop-block-test.false))
    c.loop-block.invariant).1

pub demands_of-cell_width-requires : goal.demands_of-cell_width-requires
demands_of-cell_width-requires t c = (
  search (rules, the_lemmas),
  at_item (λ cell. IsSoundCell (out-TableCell cell)) (out-Table c.args.table.now).cells c.loop-cell.cell-index c.cell-item.result
      (sound_cells c.args.table.now c.requires)
      (subst (λ items. c.loop-cell.cell-index < length items) c.as_slice-cell-items.ensures c.loop-cell-test.true)
      (subst (λ items. c.cell-item.result ≡ get_or items c.loop-cell.cell-index c.cell-item.result)
      c.as_slice-cell-items.ensures c.cell-item.is),
)

pub demands_of-loop-cell-preserved : goal.demands_of-loop-cell-preserved
demands_of-loop-cell-preserved t c =
    subst (CellsSoFar c.args.style c.as_slice-cell-items.result.now (c.loop-cell.cell-index + 1)) (sym c.in_ok-push.ensures.items)
    (CellsSoFar-more c.args.style c.as_slice-cell-items.result.now c.loop-cell.cell-index c.loop-cell.demands.items
    c.cell-item.result
    (record {
      left = (out-TableCell c.cell-item.result).place.left;
      right = (out-TableCell c.cell-item.result).place.right;
      width =
          c.in_ok-width.width;
    })
    c.loop-cell-test.true c.cell-item.is c.loop-cell.invariant (search rules) (search rules)
    c.in_ok-width.ensures.least c.in_ok-width.ensures.small)

pub demands_of-returns-clause-small : goal.demands_of-returns-clause-small
demands_of-returns-clause-small t c =
    (CellsSoFar-all c.args.style c.args.table.now c.loop-cell.cell-index c.loop-cell.demands.items
    (take_all c.loop-cell.cell-index (out-Table c.args.table.now).cells
    (subst (λ items. length items ≤ c.loop-cell.cell-index) c.as_slice-cell-items.ensures c.loop-cell-test.false))
    (subst (λ items. CellsSoFar c.args.style items c.loop-cell.cell-index c.loop-cell.demands.items) c.as_slice-cell-items.ensures
    c.loop-cell.invariant)).1
