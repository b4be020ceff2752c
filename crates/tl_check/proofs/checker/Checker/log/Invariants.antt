use Rattle.std.proofs.Common.{ℕ, ◌<◌}
use Rattle.tl_check.specs.Checkers.{StaysReserved}
use Rattle.tl_check.specs.Verdicts.{IsGoodAt}
use Rattle.tl_check.proofs.checker.Checker.log.Given as goal

abbrev pub invariant-loop-k : goal.invariant-loop-k
invariant-loop-k l = record {
  good : (j : ℕ) → j < l.k → IsGoodAt l.problem l.trace l.log l.lower j;
  stays : StaysReserved l.problem l.fn.self l.self;
}
