use Rattle.std.proofs.Common.{◌≡◌, map, take}
use Rattle.tl_table.specs.Formed.{lowered}
use Rattle.tl_table.proofs.forming.lowered.Given as goal

abbrev pub invariant-loop-place : goal.invariant-loop-place
invariant-loop-place l = l.below ≡ map (lowered l.down) (take l.place-index l.place-items)
