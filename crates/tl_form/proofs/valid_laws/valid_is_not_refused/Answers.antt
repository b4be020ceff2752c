use Rattle.tl_form.proofs.OneProblem.{valid_not_refused}
use Rattle.tl_form.proofs.valid_laws.valid_is_not_refused.Goals as goal

pub returns : goal.returns
returns c = valid_not_refused c.problem_is_determined.ensures
