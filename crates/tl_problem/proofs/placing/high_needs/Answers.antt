use Rattle.std.proofs.Common.{length, arith, ap}
use Rattle.tl_problem.proofs.placing.high_needs.Goals as goal

pub returns : goal.returns
returns c = record {
  count = omega (arith, c.loop-number.invariant.count, c.loop-number-test.false, ap length c.requires.cells);
  each = λ k within. c.loop-number.invariant.each k (omega (arith, c.loop-number-test.false, ap length c.requires.cells));
}
