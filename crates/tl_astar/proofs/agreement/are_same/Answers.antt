use Rattle.std.proofs.Common.{refl, arith}
use Rattle.std.proofs.lemmas.List.{same_lists}
use Rattle.tl_astar.proofs.agreement.are_same.Goals as goal

pub returns : goal.returns
returns c = (
  λ _. same_lists c.args.first.now c.args.second.now (omega arith) (λ k d within. c.loop-number.invariant k d (omega arith)),
  λ _. refl,
)
