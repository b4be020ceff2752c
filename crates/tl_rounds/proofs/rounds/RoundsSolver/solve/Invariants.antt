use Rattle.std.proofs.Common.{◌+◌, ◌-◌, ◌*◌, length}
use Rattle.tl_rounds.specs.inner.Takings.{IsUnderWay}
use Rattle.tl_rounds.proofs.rounds.RoundsSolver.solve.Given as goal

abbrev pub invariant-loop-book : goal.invariant-loop-book
invariant-loop-book g l = IsUnderWay l.problem l.self.workers l.budget l.book

abbrev pub decreases-loop-book : goal.decreases-loop-book
decreases-loop-book g l = (2 * l.budget + 2) * (l.budget - length l.book.trace) + length l.book.lefts
