use Rattle.std.proofs.Common.{◌<◌, ℕ}
use Rattle.tl_problem.specs.Sound.{ShareSlot}
use Rattle.tl_problem.specs.inner.Demands.{cell_at}
use Rattle.tl_problem.proofs.sound.is_separate.Given as goal

abbrev pub invariant-loop-later : goal.invariant-loop-later
invariant-loop-later l = (later : ℕ) → l.number < later → later < l.later →
    ShareSlot (cell_at l.cells l.number) (cell_at l.cells later) → ⊥
