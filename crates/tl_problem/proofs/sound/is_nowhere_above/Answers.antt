-- It is enough to ask where the steps of `high` begin.
use Rattle.std.proofs.Common.{arith, refl}
use Rattle.tl_problem.proofs.Soundness.{nowhere_above-at, nowhere_above-from}
use Rattle.tl_problem.proofs.sound.is_nowhere_above.Goals as goal

pub returns-then-not-is_low_at : goal.returns-then-not-is_low_at
returns-then-not-is_low_at c = (
  λ yes. cc,
  λ above.
      let at = nowhere_above-at c.args.low.now c.args.high.now c.requires.low c.requires.high above c.loop-number.number
      c.loop-number-test.true in
      c.if-not-is_low_at.ensures.1 at,
)

pub returns : goal.returns
returns c = (
  λ yes. nowhere_above-from c.args.low.now c.args.high.now c.requires.low c.requires.high
      (λ k within. c.loop-number.invariant k (omega (arith, c.loop-number-test.false))),
  λ above. refl,
)
