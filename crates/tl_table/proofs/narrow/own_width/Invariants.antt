use Rattle.std.proofs.Common.{◌≡◌, max, take}
use Rattle.tl_table.specs.Chains.{widest_among}
use Rattle.tl_table.proofs.narrow.own_width.Given as goal

abbrev pub invariant-loop-block : goal.invariant-loop-block
invariant-loop-block l = l.width ≡ max l.cell.least (widest_among (take l.block-index l.block-items))
