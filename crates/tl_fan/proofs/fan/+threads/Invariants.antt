-- One piece fewer is left at each step.
use Rattle.std.proofs.Common.{◌+◌, ◌*◌, length}
use Rattle.tl_fan.proofs.fan.+threads.Given as goal

abbrev pub decreases-at_once : goal.decreases-at_once
decreases-at_once g l = 2 * length l.numbers.now

abbrev pub decreases-before : goal.decreases-before
decreases-before g l = 2 * length l.others.now + 1
