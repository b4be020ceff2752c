use Rattle.std.specs.List.{All}
use Rattle.tl_nested.specs.inner.Depths.{IsAtDepth}
use Rattle.tl_nested.proofs.depths.at_depth.Given as goal

abbrev pub invariant-loop-i : goal.invariant-loop-i
invariant-loop-i l = All (IsAtDepth l.own l.depths l.depth) l.numbers.items
