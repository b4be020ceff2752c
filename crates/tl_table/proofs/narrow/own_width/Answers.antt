use Rattle.tl_table.specs.declared.cell.TableCell.{out-TableCell}
use Rattle.tl_table.proofs.OwnWidths.{widest_among-next}
use Rattle.tl_table.proofs.narrow.own_width.Goals as goal

pub loop-block-preserved : goal.loop-block-preserved
loop-block-preserved c = widest_among-next (out-TableCell c.args.cell.now).least c.as_slice-block-items.result.now
    c.loop-block.block-index
    c.block-item.result c.loop-block.width c.widest_of_block.result c.max-width.result
    c.loop-block-test.true c.block-item.is c.loop-block.invariant c.widest_of_block.ensures c.max-width.ensures
