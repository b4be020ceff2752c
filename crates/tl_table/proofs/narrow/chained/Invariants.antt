use Rattle.std.proofs.Common.{◌≡◌, ◌++◌}
use Rattle.tl_table.proofs.narrow.chained.Given as goal

abbrev pub invariant-loop-chain : goal.invariant-loop-chain
invariant-loop-chain l = l.first ≡ l.fn.first ++ l.yielded
