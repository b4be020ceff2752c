use Rattle.std.proofs.Common.{suc, length}
use Rattle.tl_cert.specs.inner.CertReading.{entries_reading, entries_at}
use Rattle.tl_cert.proofs.Loops.{Whole}
use Rattle.tl_cert.proofs.reader.Reader.entries.Given as goal

-- the entries so far and those that are left to read are all
abbrev pub invariant-entries : goal.invariant-entries
invariant-entries l = Whole entries_reading l.entries (suc (length l.self.rest.now)) l.more l.self.rest.now
    (entries_at l.fn.self.rest.now)

abbrev pub decreases-entries : goal.decreases-entries
decreases-entries l = length l.self.rest.now
