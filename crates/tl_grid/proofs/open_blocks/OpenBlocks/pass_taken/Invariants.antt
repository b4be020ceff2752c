use Rattle.std.proofs.Common.{◌≡◌, length}
use Rattle.tl_grid.specs.inner.OpenBlocks.{pass_taken, HoldsRun}
use Rattle.tl_grid.proofs.open_blocks.OpenBlocks.pass_taken.Given as goal

-- the walk from here on is the whole one
abbrev pub invariant-loop-block : goal.invariant-loop-block
invariant-loop-block l = record {
  walk : pass_taken l.row l.column l.passed.items l.ahead.items
      ≡ pass_taken l.row l.fn.self.column l.fn.self.passed l.fn.self.ahead;
  run : HoldsRun l.column l.passed.items l.run;
}

abbrev pub decreases-loop-block : goal.decreases-loop-block
decreases-loop-block l = length l.ahead.items
