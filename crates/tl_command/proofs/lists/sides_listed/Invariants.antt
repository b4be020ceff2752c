-- The sides so far have been read, and what is left after a comma begins there.
use Rattle.std.proofs.Common.{◌-◌, length}
use Rattle.tl_base.specs.declared.limits.TheConstants.{MAX_COLUMNS}
use Rattle.tl_command.proofs.SideLemmas.{HasReadSides}
use Rattle.tl_command.proofs.lists.sides_listed.Given as goal

abbrev pub invariant-loop-bytes : goal.invariant-loop-bytes
invariant-loop-bytes l = HasReadSides l.word l.sides l.at

abbrev pub decreases-loop-bytes : goal.decreases-loop-bytes
decreases-loop-bytes l = MAX_COLUMNS - length l.sides
