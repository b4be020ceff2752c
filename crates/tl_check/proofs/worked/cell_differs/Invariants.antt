use Rattle.std.proofs.Common.{◌≡◌, ℕ, ◌<◌, ◌≤◌}
use Rattle.tl_base.specs.Steps.{height_at}
use Rattle.tl_check.proofs.worked.cell_differs.Given as goal

abbrev pub invariant-loop-w : goal.invariant-loop-w
invariant-loop-w l =
    (w : ℕ) → l.first ≤ w → w < l.w → height_at l.cell.low w ≡ height_at l.cell.high w
