use Rattle.tl_problem.proofs.TightLaws.{tight-no_wider, tight-no_higher}
use Rattle.tl_problem.proofs.laws.tight_raises_nothing.Goals as goal

pub returns : goal.returns
returns c = λ problem placed tight is made. (
  tight-no_wider problem placed tight is made,
  tight-no_higher problem placed tight is made,
)
