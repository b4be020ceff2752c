-- The words so far, and the others as they are to be spelled, are all.
use Rattle.std.proofs.Common.{◌≡◌, ◌++◌, string_bytes, map, drop}
use Rattle.tl_arguments.specs.Arranged.{named_from, all_named}
use Rattle.tl_arguments.proofs.names.all_named.Given as goal

abbrev pub invariant-loop-place : goal.invariant-loop-place
invariant-loop-place l = map string_bytes l.names.items ++ named_from l.command l.place (drop l.place (map string_bytes l.words))
    ≡ all_named (map string_bytes l.words)
