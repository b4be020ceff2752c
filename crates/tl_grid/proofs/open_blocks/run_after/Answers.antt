use Rattle.std.proofs.Common.{arith}
use Rattle.tl_grid.proofs.Runs.{run_next}
use Rattle.tl_grid.proofs.open_blocks.run_after.Goals as goal

pub returns-then-run-end : goal.returns-then-run-end
returns-then-run-end c =
    run_next c.args.column c.args.passed.now c.args.run c.end_of-end.result c.args.block c.requires.run
    (omega (arith, c.if-passed-run.false)) c.if-run-end.true c.requires.taken c.end_of-end.ensures
