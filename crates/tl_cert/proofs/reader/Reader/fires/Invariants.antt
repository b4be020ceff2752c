use Rattle.std.proofs.Common.{◌≤◌, ◌-◌, length}
use Rattle.tl_cert.specs.declared.limits.TheConstants.{MAX_FIRES}
use Rattle.tl_cert.specs.inner.CertReading.{fires_reading, fires_at}
use Rattle.tl_cert.proofs.Loops.{Whole}
use Rattle.tl_cert.proofs.reader.Reader.fires.Given as goal

-- the lines so far and those that are left to read are all, and there is room for the latter
abbrev pub invariant-fires : goal.invariant-fires
invariant-fires l = record {
  whole : Whole (fires_reading l.areas) l.fires (MAX_FIRES - length l.fires) tt l.self.rest.now
      (fires_at l.areas l.fn.self.rest.now);
  room : length l.fires ≤ MAX_FIRES;
}

abbrev pub decreases-fires : goal.decreases-fires
decreases-fires l = MAX_FIRES - length l.fires
