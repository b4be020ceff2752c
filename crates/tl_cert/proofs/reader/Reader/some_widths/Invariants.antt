use Rattle.std.proofs.Common.{◌≤◌, ◌-◌, length}
use Rattle.tl_base.specs.declared.limits.TheConstants.{MAX_COLUMNS}
use Rattle.tl_cert.specs.inner.CertReading.{widths_reading, some_widths_at}
use Rattle.tl_cert.proofs.Loops.{Whole}
use Rattle.tl_cert.proofs.reader.Reader.some_widths.Given as goal

-- the widths so far and those that are left to read are all, and there is room for the latter
abbrev pub invariant-widths : goal.invariant-widths
invariant-widths l = record {
  whole : Whole widths_reading l.widths (MAX_COLUMNS - length l.widths) l.more l.self.rest.now
      (some_widths_at l.fn.self.rest.now);
  room : length l.widths ≤ MAX_COLUMNS;
}

abbrev pub decreases-widths : goal.decreases-widths
decreases-widths l = MAX_COLUMNS - length l.widths
