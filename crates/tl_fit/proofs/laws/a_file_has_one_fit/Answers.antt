use Rattle.tl_fit.proofs.OneFit.{one_fit}
use Rattle.tl_fit.proofs.laws.a_file_has_one_fit.Goals as goal

pub returns : goal.returns
returns c = one_fit
