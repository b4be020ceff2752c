use Rattle.std.proofs.Common.{◌≡◌, take}
use Rattle.tl_rounds.specs.Book.{without}
use Rattle.tl_rounds.proofs.taking.others.Given as goal

-- the zones so far, but for the one
abbrev pub invariant-loop-zone : goal.invariant-loop-zone
invariant-loop-zone l = l.left ≡ without l.z (take l.zone-index l.lefts)
