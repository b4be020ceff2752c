use Rattle.tl_form.proofs.SafeProblems.{sound-problem}
use Rattle.tl_form.proofs.problem_laws.sound_problems_alone.Goals as goal

pub returns : goal.returns
returns c = sound-problem
