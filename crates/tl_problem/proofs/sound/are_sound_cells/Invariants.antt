use Rattle.std.proofs.Common.{◌<◌, ℕ}
use Rattle.tl_problem.specs.Sound.{IsSoundCell}
use Rattle.tl_problem.specs.inner.Demands.{cell_at}
use Rattle.tl_problem.specs.inner.Soundness.{grid}
use Rattle.tl_problem.proofs.sound.are_sound_cells.Given as goal

abbrev pub invariant-loop-number : goal.invariant-loop-number
invariant-loop-number l = (k : ℕ) → k < l.number → IsSoundCell (grid l.cols l.rows) (cell_at l.cells k)
