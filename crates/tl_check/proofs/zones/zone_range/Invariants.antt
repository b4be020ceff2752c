use Rattle.std.proofs.Common.{◌<◌, length}
use Rattle.tl_problem.specs.Zones.{classes_at, range_at}
use Rattle.tl_cert.specs.Traces.{IsZoneOf, zone_of}
use Rattle.tl_check.specs.inner.Zones.{IsWithinClasses}
use Rattle.tl_check.proofs.zones.zone_range.Given as goal

abbrev pub invariant-zones : goal.invariant-zones
invariant-zones l = record {
  there : IsZoneOf l.trace l.zone;
  top : l.last < length (classes_at l.problem l.s);
  classes : IsWithinClasses (range_at (zone_of l.problem l.trace l.z) l.s) (range_at (zone_of l.problem l.trace l.zone) l.s)
      l.first l.last;
}

abbrev pub decreases-zones : goal.decreases-zones
decreases-zones l = l.zone
