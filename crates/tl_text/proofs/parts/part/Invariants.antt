use Rattle.std.proofs.Common.{◌≡◌, take}
use Rattle.tl_text.specs.Parts.{broken_above}
use Rattle.tl_text.proofs.parts.part.Given as goal

-- the atoms so far are broken
abbrev pub invariant-loop-atom : goal.invariant-loop-atom
invariant-loop-atom l = l.units ≡ broken_above l.most (take l.atom-index l.atoms)
