use Rattle.std.proofs.Common.{◌≡◌, ◌++◌, length, map, take}
use Rattle.tl_cert.specs.Appended.{cut_named}
use Rattle.tl_rounds.proofs.taking.appended.Given as goal

-- the cuts so far are appended
abbrev pub invariant-loop-cut : goal.invariant-loop-cut
invariant-loop-cut l = l.all ≡ l.trace ++ map (cut_named l.z (length l.trace)) (take l.cut-index l.piece)
