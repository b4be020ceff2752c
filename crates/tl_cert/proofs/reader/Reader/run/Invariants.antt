use Rattle.std.proofs.Common.{◌≡◌, length}
use Rattle.tl_cert.specs.inner.reading.Numbers.{read_run}
use Rattle.tl_cert.proofs.reader.Reader.run.Given as goal

-- the digits that are left go on as all do
abbrev pub invariant-loop-digit : goal.invariant-loop-digit
invariant-loop-digit l = read_run l.value l.self.rest.now ≡ read_run l.first l.fn.self.rest.now

abbrev pub decreases-loop-digit : goal.decreases-loop-digit
decreases-loop-digit l = length l.self.rest.now
