use Rattle.tl_form.proofs.CountsExist.{counts}
use Rattle.tl_form.proofs.problem_laws.counts_exist.Goals as goal

pub returns : goal.returns
returns c = λ table style page height layout sound fits. counts style page sound.depth table sound.sound height layout fits
