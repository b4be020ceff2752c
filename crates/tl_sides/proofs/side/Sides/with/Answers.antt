use Rattle.std.proofs.Common.{rules}
use Rattle.tl_sides.proofs.Padding.{set-padded}
use Rattle.tl_sides.proofs.side.Sides.with.Goals as goal

pub invariant_of-result : goal.invariant_of-result
invariant_of-result c = search (rules, set-padded)
