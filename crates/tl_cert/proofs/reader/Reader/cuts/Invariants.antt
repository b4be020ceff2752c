use Rattle.std.proofs.Common.{◌-◌}
use Rattle.tl_cert.specs.inner.CertReading.{cuts_reading, cuts_at}
use Rattle.tl_cert.proofs.Loops.{Whole}
use Rattle.tl_cert.proofs.reader.Reader.cuts.Given as goal

-- the cuts so far and those that are left to read are all
abbrev pub invariant-cuts : goal.invariant-cuts
invariant-cuts l = Whole cuts_reading l.cuts (l.count - l.counter) tt l.self.rest.now (cuts_at l.count l.fn.self.rest.now)
