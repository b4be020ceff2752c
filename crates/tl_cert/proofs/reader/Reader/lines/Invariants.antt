use Rattle.std.proofs.Common.{◌-◌}
use Rattle.tl_cert.specs.inner.CertReading.{lines_reading, lines_at}
use Rattle.tl_cert.proofs.Loops.{Whole}
use Rattle.tl_cert.proofs.reader.Reader.lines.Given as goal

-- the lines so far and those that are left to read are all
abbrev pub invariant-lines : goal.invariant-lines
invariant-lines l = Whole lines_reading l.lines (l.count - l.number) l.asked l.self.rest.now
    (lines_at l.count l.fn.areas l.fn.self.rest.now)
