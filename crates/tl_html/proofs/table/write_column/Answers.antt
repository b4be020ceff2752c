use Rattle.std.proofs.Common.{codes, decimal}
use Rattle.tl_html.proofs.Appending.{three_parts}
use Rattle.tl_html.proofs.table.write_column.Goals as goal

pub returns : goal.returns
returns c =
    three_parts c.args.out.now (codes "<col style=\"width:") (decimal c.args.width) (codes "ch\">") _ _ _
    c.in_ok-push_ascii.ensures c.in_ok-push_number.ensures c.in_ok-push_ascii-2.ensures
