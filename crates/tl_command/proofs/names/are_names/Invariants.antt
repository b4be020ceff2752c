-- The rest of the names are names just where all are.
use Rattle.std.proofs.Common.{◌↔◌, map, length, string_bytes}
use Rattle.tl_command.specs.Ask.{AreNames}
use Rattle.tl_command.proofs.names.are_names.Given as goal

abbrev pub invariant-loop-name : goal.invariant-loop-name
invariant-loop-name l = AreNames (map string_bytes l.rest) ↔ AreNames (map string_bytes l.names)

abbrev pub decreases-loop-name : goal.decreases-loop-name
decreases-loop-name l = length l.rest
