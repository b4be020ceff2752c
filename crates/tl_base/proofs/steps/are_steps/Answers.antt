use Rattle.std.proofs.Common.{◌<◌, length, arith, tests}
use Rattle.std.proofs.lemmas.Bool.Decides.{nat_tests}
use Rattle.tl_base.proofs.Decreasing.{AreSteps-from, FallsBelow-more}
use Rattle.tl_base.proofs.steps.are_steps.Goals as goal

pub loop-i-preserved : goal.loop-i-preserved
loop-i-preserved c =
    FallsBelow-more c.args.configs.now c.loop-i.i c.loop-i.auto.i c.loop-i.invariant (omega arith, omega arith)

pub returns : goal.returns
returns c = (
  λ yes_steps.
      let some : 0 < length c.args.configs.now = grind (arith, nat_tests, tests) in
      AreSteps-from c.args.configs.now some (λ i j before within. c.loop-i.invariant i j before (omega arith)),
  λ are.
      let some = are.has_step in
      grind (arith, nat_tests, tests),
)
