use Rattle.std.proofs.Common.{◌-◌, ◌≤◌, length, take}
use Rattle.std.specs.List.{AllZip}
use Rattle.tl_fan.proofs.fan.fan_out.Given as goal

abbrev pub invariant-loop-from : goal.invariant-loop-from
invariant-loop-from g l = (l.from ≤ length l.numbers) × (1 ≤ l.group)
    × AllZip (λ number one. g.F.Fn.post l.piece (number, tt) one) (take l.from l.numbers) l.found.items

abbrev pub decreases-loop-from : goal.decreases-loop-from
decreases-loop-from g l = length l.numbers - l.from
