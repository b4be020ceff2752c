-- The cells from a number on have their slots.
use Rattle.std.proofs.Common.{◌≡◌, ℕ, ◌+◌, ◌*◌, ◌<◌, ◌≤◌, length, map, drop, get_or, None}
use Rattle.tl_table.specs.Sound.{place_of}
use Rattle.tl_page.specs.Corners.{number_over}
use Rattle.tl_page.proofs.owners.put_cells.Given as goal

abbrev pub invariant-loop-number : goal.invariant-loop-number
invariant-loop-number l = record {
  within : l.number ≤ length l.cells;
  numbers : (column row : ℕ) → column < l.cols → get_or l.fn.slots (row * l.cols + column) None ≡ None
      → get_or l.slots (row * l.cols + column) None ≡ number_over l.number (drop l.number (map place_of l.cells)) (column + 1)
      (row + 1);
}

abbrev pub decreases-loop-number : goal.decreases-loop-number
decreases-loop-number l = l.number
