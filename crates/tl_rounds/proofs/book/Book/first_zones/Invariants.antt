use Rattle.std.proofs.Common.{◌≡◌, map, take}
use Rattle.tl_cert.specs.Traces.{zone_of}
use Rattle.tl_rounds.specs.Book.{problem_of}
use Rattle.tl_rounds.proofs.book.Book.first_zones.Given as goal

-- the zones so far
abbrev pub invariant-loop-place : goal.invariant-loop-place
invariant-loop-place l = l.zones.items ≡ map (zone_of (problem_of l.self) l.self.trace) (take l.place l.self.lefts)
