-- The slots so far have the number, and all others are as before.
use Rattle.std.proofs.Common.{◌≡◌, ℕ, ◌<◌, ◌≤◌, get_or, Some, None}
use Rattle.tl_page.proofs.owners.put_row.Given as goal

abbrev pub invariant-loop-k : goal.invariant-loop-k
invariant-loop-k l = record {
  covered : (k : ℕ) → l.from ≤ k → k < l.k → get_or l.slots k None ≡ Some l.number;
  before : (k : ℕ) → k < l.from → get_or l.slots k None ≡ get_or l.fn.slots k None;
  after : (k : ℕ) → l.k ≤ k → get_or l.slots k None ≡ get_or l.fn.slots k None;
}
