use Rattle.tl_astar.proofs.Agreeing.{same-agree}
use Rattle.tl_astar.proofs.laws.same_steps_agree.Goals as goal

pub returns : goal.returns
returns c = same-agree
