use Rattle.std.proofs.Common.{◌≡◌, ℕ, ◌<◌, Some, get_or}
use Rattle.tl_base.specs.Steps.{height_at}
use Rattle.tl_problem.specs.Bounds.{IsGreatestRoom}
use Rattle.tl_problem.specs.Works.{AreAllowed}
use Rattle.tl_problem.specs.inner.Demands.{cell_at}
use Rattle.tl_problem.proofs.bound.fill_low.Given as goal

abbrev pub invariant-loop-number : goal.invariant-loop-number
invariant-loop-number l = (k : ℕ) → k < l.number →
    (w : ℕ) × (IsGreatestRoom l.problem (AreAllowed l.problem l.matrix.bounds) (cell_at l.problem.cells k).left
    (cell_at l.problem.cells k).right w ×
    (height_at (cell_at l.problem.cells k).low w ≡ Some (get_or l.demands k 0)))
