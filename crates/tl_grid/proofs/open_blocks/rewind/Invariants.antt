use Rattle.std.proofs.Common.{◌≡◌, ◌≤◌, ◌++◌, length}
use Rattle.tl_grid.proofs.open_blocks.rewind.Given as goal

-- no block is lost
abbrev pub invariant-loop-passed : goal.invariant-loop-passed
invariant-loop-passed l = record {
  all : l.passed.items ++ l.ahead.items ≡ l.fn.passed.items ++ l.fn.ahead.items;
  few : l.count ≤ length l.passed.items;
}

abbrev pub decreases-loop-passed : goal.decreases-loop-passed
decreases-loop-passed l = length l.passed.items
