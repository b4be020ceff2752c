use Rattle.std.proofs.Common.{◌≤◌, ◌-◌, length}
use Rattle.std.specs.Prelude.{Some}
use Rattle.tl_cert.specs.declared.limits.TheConstants.{MAX_BOUNDS, MAX_SPAN}
use Rattle.tl_cert.specs.inner.CertReading.{bounds_reading, bounds_at}
use Rattle.tl_cert.proofs.Loops.{Whole}
use Rattle.tl_cert.proofs.reader.Reader.bounds.Given as goal

-- the bounds so far and those that are left to read are all, there is room for the latter, and the last one is within its range
abbrev pub invariant-bounds : goal.invariant-bounds
invariant-bounds l = record {
  whole : Whole (bounds_reading l.areas) l.bounds (MAX_BOUNDS - length l.bounds) (Some l.before) l.self.rest.now
      (bounds_at l.areas l.fn.self.rest.now);
  room : length l.bounds ≤ MAX_BOUNDS;
  last : l.before.span ≤ MAX_SPAN;
}

abbrev pub decreases-bounds : goal.decreases-bounds
decreases-bounds l = MAX_BOUNDS - length l.bounds
