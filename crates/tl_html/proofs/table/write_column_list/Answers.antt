use Rattle.tl_html.specs.Html.{column_html}
use Rattle.tl_html.proofs.Appending.{grown_at}
use Rattle.tl_html.proofs.table.write_column_list.Goals as goal

pub loop-width-preserved : goal.loop-width-preserved
loop-width-preserved c =
    grown_at column_html c.args.widths.now c.loop-width.width-index 0 c.args.out.now c.loop-width.out c.write_column.new.out
    c.loop-width-test.true c.loop-width.invariant c.in_ok-write_column.ensures
