use Rattle.std.proofs.Common.{◌≤◌, ◌-◌, length}
use Rattle.tl_cert.specs.declared.limits.TheConstants.{MAX_SECTIONS}
use Rattle.tl_cert.specs.inner.CertReading.{sections_reading, sections_at}
use Rattle.tl_cert.proofs.Loops.{Whole}
use Rattle.tl_cert.proofs.reader.Reader.sections.Given as goal

-- the sections so far and those that are left to read are all, and there is room for the latter
abbrev pub invariant-sections : goal.invariant-sections
invariant-sections l = record {
  whole : Whole sections_reading l.sections (MAX_SECTIONS - length l.sections) (l.first, l.asked) l.self.rest.now
      (sections_at l.fn.areas l.fn.self.rest.now);
  room : length l.sections ≤ MAX_SECTIONS;
}

abbrev pub decreases-sections : goal.decreases-sections
decreases-sections l = MAX_SECTIONS - length l.sections
