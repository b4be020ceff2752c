use Rattle.std.proofs.Common.{◌≡◌, ◌+◌, ◌-◌, ◌*◌, length}
use Rattle.tl_branch.specs.inner.Learnings.{IsSearching}
use Rattle.tl_branch.proofs.learn.LearnSolver.solve.Given as goal

abbrev pub invariant-loop-zone : goal.invariant-loop-zone
invariant-loop-zone g l = record {
  searching : IsSearching l.problem l.learning l.stack.items;
  budget : l.learning.budget ≡ l.budget;
}

abbrev pub decreases-loop-zone : goal.decreases-loop-zone
decreases-loop-zone g l = 2 * (l.budget - length l.learning.arena.trace) + length l.stack.items
