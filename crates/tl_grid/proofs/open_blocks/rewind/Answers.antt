use Rattle.std.proofs.Common.{arith}
use Rattle.tl_grid.proofs.Runs.{prefix_is, rest_is}
use Rattle.tl_grid.proofs.open_blocks.rewind.Goals as goal

pub returns-clause-passed : goal.returns-clause-passed
returns-clause-passed c =
    prefix_is c.loop-passed.passed.items c.loop-passed.ahead.items c.args.passed.now.items c.args.ahead.now.items c.args.count
    (omega (arith, c.loop-passed.invariant.few, c.loop-passed-test.false, c.len.ensures)) c.requires c.loop-passed.invariant.all

pub returns-clause-ahead : goal.returns-clause-ahead
returns-clause-ahead c =
    rest_is c.loop-passed.passed.items c.loop-passed.ahead.items c.args.passed.now.items c.args.ahead.now.items c.args.count
    (omega (arith, c.loop-passed.invariant.few, c.loop-passed-test.false, c.len.ensures)) c.requires c.loop-passed.invariant.all
