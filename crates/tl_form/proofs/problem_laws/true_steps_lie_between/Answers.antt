use Rattle.tl_form.proofs.ProblemTruth.{steps-between}
use Rattle.tl_form.proofs.problem_laws.true_steps_lie_between.Goals as goal

pub returns : goal.returns
returns c = steps-between
