use Rattle.std.proofs.Common.{◌<◌, ◌≤◌, ℕ}
use Rattle.tl_problem.specs.inner.Demands.{cell_at}
use Rattle.tl_problem.proofs.sound.are_by_top.Given as goal

abbrev pub invariant-loop-number : goal.invariant-loop-number
invariant-loop-number l = (number later : ℕ) → number ≤ later → later < l.number →
    (cell_at l.cells number).top ≤ (cell_at l.cells later).top
