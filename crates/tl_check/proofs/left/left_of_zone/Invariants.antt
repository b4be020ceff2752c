use Rattle.tl_problem.specs.Works.{AreAllowed}
use Rattle.tl_cert.specs.Nogoods.{zone_bounds}
use Rattle.tl_cert.specs.Traces.{IsZoneOf, zone_of}
use Rattle.tl_check.specs.inner.Firing.{HasLeftBut}
use Rattle.tl_check.proofs.left.left_of_zone.Given as goal

abbrev pub invariant-cuts : goal.invariant-cuts
invariant-cuts l = record {
  there : IsZoneOf l.trace l.zone;
  found : HasLeftBut l.problem (AreAllowed l.problem l.matrix.bounds) (zone_bounds l.problem (zone_of l.problem l.trace l.z))
      (zone_bounds l.problem (zone_of l.problem l.trace l.zone)) l.left;
}

abbrev pub decreases-cuts : goal.decreases-cuts
decreases-cuts l = l.zone
