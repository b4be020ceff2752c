use Rattle.std.proofs.Common.{◌≡◌, ℕ, ◌<◌, get_or}
use Rattle.tl_problem.specs.declared.cell.Cell.{Cell}
use Rattle.tl_astar.proofs.agreement.have_same_steps.Given as goal

abbrev pub invariant-loop-number : goal.invariant-loop-number
invariant-loop-number l = (k : ℕ) (d : Cell) → k < l.number → (get_or l.cells k d).low ≡ (get_or l.cells k d).high
