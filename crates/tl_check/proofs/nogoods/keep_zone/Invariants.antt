use Rattle.tl_cert.specs.Traces.{IsZoneOf, zone_of}
use Rattle.tl_check.specs.Matrices.{KeepsMarks}
use Rattle.tl_check.specs.inner.Matrices.{LeavesPart}
use Rattle.tl_check.proofs.nogoods.keep_zone.Given as goal

abbrev pub invariant-cuts : goal.invariant-cuts
invariant-cuts l = record {
  there : IsZoneOf l.trace l.zone;
  leaves : LeavesPart l.problem (zone_of l.problem l.trace l.zone) (zone_of l.problem l.trace l.z) l.matrix.bounds;
  marks : KeepsMarks l.fn.matrix l.matrix;
}

abbrev pub decreases-cuts : goal.decreases-cuts
decreases-cuts l = l.zone
