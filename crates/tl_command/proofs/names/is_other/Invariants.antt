-- The name is none of the others so far.
use Rattle.std.proofs.Common.{◌≢◌, map, take, string_bytes}
use Rattle.std.specs.List.{All}
use Rattle.tl_command.proofs.names.is_other.Given as goal

abbrev pub invariant-loop-other : goal.invariant-loop-other
invariant-loop-other l = All (λ other. l.name ≢ other) (take l.other-index (map string_bytes l.others))
