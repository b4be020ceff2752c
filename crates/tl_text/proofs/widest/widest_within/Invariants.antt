use Rattle.std.proofs.Common.{◌≡◌, take}
use Rattle.tl_text.specs.Widest.{widest_within}
use Rattle.tl_text.proofs.widest.widest_within.Given as goal

-- the widest of the atoms so far
abbrev pub invariant-loop-atom : goal.invariant-loop-atom
invariant-loop-atom l = l.widest ≡ widest_within l.most (take l.atom-index l.atoms)
