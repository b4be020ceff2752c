use Rattle.tl_cert.proofs.LogLaws.{nogoods-true}
use Rattle.tl_cert.proofs.laws.nogoods_are_true.Goals as goal

pub returns : goal.returns
returns c = λ problem sound trace log lower good k within. nogoods-true problem sound trace log lower good k within
