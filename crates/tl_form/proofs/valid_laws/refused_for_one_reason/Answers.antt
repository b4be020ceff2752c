use Rattle.tl_form.proofs.OneProblem.{refused_once}
use Rattle.tl_form.proofs.valid_laws.refused_for_one_reason.Goals as goal

pub returns : goal.returns
returns c = refused_once c.problem_is_determined.ensures
