use Rattle.std.proofs.Common.{◌+◌, ◌-◌, ◌*◌, ◌≤◌, length}
use Rattle.tl_solve.specs.Arenas.{IsArenaOf}
use Rattle.tl_solve.specs.inner.Walk.{IsStack, KeepsClassOrder}
use Rattle.tl_solve.proofs.plain.PlainSolver.solve.Given as goal

abbrev pub invariant-loop-zone : goal.invariant-loop-zone
invariant-loop-zone g l = record {
  arena : IsArenaOf l.problem l.arena;
  within : length l.arena.trace ≤ l.budget;
  on_stack : IsStack l.problem l.arena.trace l.arena.best.height l.stack.items;
  order : KeepsClassOrder l.problem l.arena.trace;
}

abbrev pub decreases-loop-zone : goal.decreases-loop-zone
decreases-loop-zone g l = 2 * (l.budget - length l.arena.trace) + length l.stack.items
