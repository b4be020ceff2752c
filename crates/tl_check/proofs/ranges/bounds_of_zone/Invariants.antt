use Rattle.std.proofs.Common.{◌≡◌}
use Rattle.tl_cert.specs.Traces.{zone_of}
use Rattle.tl_check.specs.inner.Zones.{bounds_upto}
use Rattle.tl_check.proofs.ranges.bounds_of_zone.Given as goal

abbrev pub invariant-loop-s : goal.invariant-loop-s
invariant-loop-s l = l.bounds ≡ bounds_upto l.problem (zone_of l.problem l.trace l.z) l.s
