use Rattle.std.proofs.Common.{◌≡◌, ℕ, ◌<◌}
use Rattle.tl_problem.specs.Zones.{range_at}
use Rattle.tl_cert.specs.Traces.{zone_of}
use Rattle.tl_check.proofs.worked.has_one_class.Given as goal

abbrev pub invariant-loop-s : goal.invariant-loop-s
invariant-loop-s l =
    (t : ℕ) → t < l.s → (range_at (zone_of l.problem l.trace l.z) t).first ≡ (range_at (zone_of l.problem l.trace l.z) t).last
