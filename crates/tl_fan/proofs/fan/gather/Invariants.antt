use Rattle.std.proofs.Common.{◌≡◌, map, Ok}
use Rattle.tl_fan.proofs.fan.gather.Given as goal

abbrev pub invariant-loop-result : goal.invariant-loop-result
invariant-loop-result g l = l.yielded ≡ map Ok l.found.items
