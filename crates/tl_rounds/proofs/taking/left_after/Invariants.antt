use Rattle.std.proofs.Common.{◌≡◌, ◌++◌, map, take}
use Rattle.tl_cert.specs.Appended.{zone_named}
use Rattle.tl_rounds.specs.Book.{without}
use Rattle.tl_rounds.proofs.taking.left_after.Given as goal

-- the zones so far are appended
abbrev pub invariant-loop-j : goal.invariant-loop-j
invariant-loop-j l = l.left ≡ without l.z l.lefts ++ map (zone_named l.z l.cuts) (take l.j-index l.more)
