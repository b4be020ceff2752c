use Rattle.std.proofs.Common.{◌≡◌}
use Rattle.std.specs.List.{flat_map}
use Rattle.tl_text.specs.Parts.{part_pieces}
use Rattle.tl_text.proofs.parts.word_pieces.Given as goal

-- the pieces of the parts so far
abbrev pub invariant-loop-part : goal.invariant-loop-part
invariant-loop-part l = l.pieces ≡ flat_map (part_pieces l.most) l.yielded
