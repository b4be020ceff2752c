use Rattle.tl_tree.proofs.Outlines.{cell_made}
use Rattle.tl_tree.proofs.Adds.{cell_ends}
use Rattle.tl_tree.proofs.open.OpenCell.end.Goals as goal

pub returns-clause-adds : goal.returns-clause-adds
returns-clause-adds c =
    cell_ends c.args.self c.args.flow c.in_ok-flow.flow c.push.new.self _ c.in_ok-flow.ensures c.in_ok-push.ensures.ok
    (cell_made _)
