use Rattle.std.proofs.Common.{subst}
use Rattle.std.specs.List.{All}
use Rattle.tl_problem.specs.inner.Agreeing.{AreSameAt}
use Rattle.tl_problem.proofs.SameSteps.{same-upto, same-at}
use Rattle.tl_problem.proofs.agreement.are_same_up_to.Goals as goal

pub returns-then-are_same_at : goal.returns-then-are_same_at
returns-then-are_same_at c =
    let low = c.args.low.now in
    let high = c.args.high.now in
    let Same = All (AreSameAt low high c.args.most) in (
      (λ yes. same-upto low high c.args.most (subst Same c.configs.ensures.configs (c.are_same_at.ensures.0 c.if-are_same_at.true))
          (subst Same c.configs-then-are_same_at.ensures.configs (c.are_same_at-then-are_same_at.ensures.0 yes))),
      (λ same. c.are_same_at-then-are_same_at.ensures.1
          (same-at low high c.configs-then-are_same_at.result.now c.args.most same)),
    )
