use Rattle.std.proofs.Common.{◌≡◌, ◌++◌, length, drop, reverse, string_bytes}
use Rattle.std.specs.Str.{chars}
use Rattle.tl_text.specs.Parts.{nearest, second, parts_of}
use Rattle.tl_text.proofs.PartsRead.{parts_from}
use Rattle.tl_text.proofs.parts.parts.Given as goal

-- the two characters before what is left; and the parts so far, and those that the open part and what
-- is left make
abbrev pub invariant-loop-c : goal.invariant-loop-c
invariant-loop-c l =
    let before = reverse l.yielded in
    (l.last ≡ nearest before)
    × (l.previous ≡ second before)
    × (l.parts ++ parts_from before (chars (string_bytes l.part)) (drop (length l.yielded) l.word) ≡ parts_of l.word)
