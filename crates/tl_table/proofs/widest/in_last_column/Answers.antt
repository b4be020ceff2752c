use Rattle.std.proofs.Common.{◌∙◌, ◌+◌, ap, arith}
use Rattle.tl_table.proofs.widest.in_last_column.Goals as goal

pub unreachable-requires : goal.unreachable-requires
unreachable-requires c = let there = c.requires.there in
    c.loop-number.invariant there.0 there.1 (omega (arith, there.2)) (ap (λ demand. demand.left + 1) there.3 ∙ there.4)
