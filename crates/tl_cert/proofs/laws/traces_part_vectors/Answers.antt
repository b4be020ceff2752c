use Rattle.tl_cert.proofs.CountLaws.{parts-vectors}
use Rattle.tl_cert.proofs.laws.traces_part_vectors.Goals as goal

pub returns : goal.returns
returns c = λ problem sound trace is. parts-vectors problem sound trace is
