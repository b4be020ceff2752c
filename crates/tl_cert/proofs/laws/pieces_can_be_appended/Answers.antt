use Rattle.tl_cert.proofs.AppendedLaws.{appended-law}
use Rattle.tl_cert.proofs.laws.pieces_can_be_appended.Goals as goal

pub returns : goal.returns
returns c = λ whole trace is z here piece piece_of. appended-law whole trace is z here piece piece_of
