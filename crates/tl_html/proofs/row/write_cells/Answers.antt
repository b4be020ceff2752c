use Rattle.tl_html.specs.Html.{cell_in_row}
use Rattle.tl_html.proofs.Appending.{grown}
use Rattle.tl_html.proofs.row.write_cells.Goals as goal

pub loop-cell-preserved : goal.loop-cell-preserved
loop-cell-preserved c =
    grown (cell_in_row c.args.row) c.args.cells.now c.loop-cell.cell-index c.cell-item.result c.args.out.now c.loop-cell.out
    c.write_cell_in_row.new.out
    c.loop-cell-test.true c.cell-item.is c.loop-cell.invariant c.in_ok-write_cell_in_row.ensures
