use Rattle.std.proofs.Common.{◌≡◌, ◌≤◌, sum_by, take}
use Rattle.tl_base.specs.declared.limits.TheConstants.{MAX_HEIGHT}
use Rattle.tl_base.specs.Steps.{first_height}
use Rattle.tl_problem.proofs.sound.are_low_enough.Given as goal

abbrev pub invariant-loop-cell : goal.invariant-loop-cell
invariant-loop-cell l = (l.height ≡ sum_by (λ cell. first_height cell.high) (take l.cell-index l.cells)) × (l.height ≤ MAX_HEIGHT)
