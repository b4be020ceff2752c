-- The rows so far have the number in the columns of the place, and all other slots are as before.
use Rattle.std.proofs.Common.{◌≡◌, ℕ, ◌+◌, ◌*◌, ◌<◌, ◌≤◌, ◌⊎◌, get_or, Some, None}
use Rattle.tl_page.proofs.owners.put_cell.Given as goal

abbrev pub invariant-loop-row : goal.invariant-loop-row
invariant-loop-row l = record {
  covered : (column row : ℕ) → l.place.left ≤ column → column < l.place.right → l.place.top ≤ row → row < l.row
      → get_or l.slots (row * l.cols + column) None ≡ Some l.number;
  other : (column row : ℕ) → column < l.cols → ((column < l.place.left) ⊎ (l.place.right ≤ column)) ⊎
      ((row < l.place.top) ⊎ (l.row ≤ row))
      → get_or l.slots (row * l.cols + column) None ≡ get_or l.fn.slots (row * l.cols + column) None;
}
