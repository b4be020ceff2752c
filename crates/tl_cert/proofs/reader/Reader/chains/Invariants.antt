use Rattle.std.proofs.Common.{suc, length}
use Rattle.tl_cert.specs.inner.CertReading.{chains_reading, chains_at}
use Rattle.tl_cert.proofs.Loops.{Whole}
use Rattle.tl_cert.proofs.reader.Reader.chains.Given as goal

-- the chains so far and those that are left to read are all
abbrev pub invariant-chains : goal.invariant-chains
invariant-chains l = Whole chains_reading l.chains (suc (length l.self.rest.now)) l.first l.self.rest.now
    (chains_at l.fn.self.rest.now)

abbrev pub decreases-chains : goal.decreases-chains
decreases-chains l = length l.self.rest.now
