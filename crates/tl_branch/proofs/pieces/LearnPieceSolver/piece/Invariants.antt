use Rattle.std.proofs.Common.{◌+◌, ◌-◌, ◌*◌, length}
use Rattle.tl_problem.specs.Works.{IsWorkOf}
use Rattle.tl_branch.specs.inner.UnderWay.{IsUnderWay}
use Rattle.tl_branch.proofs.pieces.LearnPieceSolver.piece.Given as goal

abbrev pub invariant-loop-next : goal.invariant-loop-next
invariant-loop-next l = record {
  work : IsWorkOf l.problem l.way.work;
  on : IsUnderWay l.problem l.zone l.best l.quota l.way.trace l.way.lowest l.way.stack.items l.way.lefts;
}

abbrev pub decreases-loop-next : goal.decreases-loop-next
decreases-loop-next l = 2 * (l.quota - length l.way.trace) + length l.way.stack.items
