use Rattle.std.proofs.Common.{◌≡◌, drop}
use Rattle.tl_text.specs.Paragraph.{has_leading_glue}
use Rattle.tl_text.proofs.Leading.{leads}
use Rattle.tl_text.proofs.paragraph.has_leading_glue.Given as goal

-- what is left decides
abbrev pub invariant-loop-atom : goal.invariant-loop-atom
invariant-loop-atom l = leads l.piece_begins (drop l.atom-index l.atoms) ≡ has_leading_glue l.atoms
