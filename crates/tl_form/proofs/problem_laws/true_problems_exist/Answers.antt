use Rattle.tl_form.proofs.CountsExist.{problems}
use Rattle.tl_form.proofs.problem_laws.true_problems_exist.Goals as goal

pub returns : goal.returns
returns c = λ table style page height layout sound fits. problems style page sound.depth table sound.sound height layout fits
