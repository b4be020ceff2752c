-- The numbers so far have been read, and what is left after a comma begins there.
use Rattle.std.proofs.Common.{◌-◌, length}
use Rattle.tl_base.specs.declared.limits.TheConstants.{MAX_COLUMNS}
use Rattle.tl_command.proofs.ListLemmas.{HasReadFloors}
use Rattle.tl_command.proofs.lists.floors_listed.Given as goal

abbrev pub invariant-loop-bytes : goal.invariant-loop-bytes
invariant-loop-bytes l = HasReadFloors l.word l.floors l.at

abbrev pub decreases-loop-bytes : goal.decreases-loop-bytes
decreases-loop-bytes l = MAX_COLUMNS - length l.floors
