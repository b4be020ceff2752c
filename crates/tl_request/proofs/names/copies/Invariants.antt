-- The copies so far, and then the words that are left.
use Rattle.std.proofs.Common.{◌≡◌, length, ◌++◌, map, string_bytes}
use Rattle.tl_request.proofs.names.copies.Given as goal

abbrev pub invariant-loop-word : goal.invariant-loop-word
invariant-loop-word l = map string_bytes l.all.items ++ map string_bytes l.rest ≡ map string_bytes l.words

abbrev pub decreases-loop-word : goal.decreases-loop-word
decreases-loop-word l = length l.rest
