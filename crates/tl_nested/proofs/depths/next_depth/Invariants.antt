use Rattle.std.proofs.Common.{ℕ, ◌+◌, ◌<◌, ◌≤◌, get_or, length}
use Rattle.tl_nested.proofs.depths.next_depth.Given as goal

abbrev pub invariant-loop-i : goal.invariant-loop-i
invariant-loop-i l = (l.depth ≤ l.i)
    × ((k : ℕ) → k < l.i → length l.depths ≤ k + get_or l.sizes k 0 → get_or l.depths k 0 < l.depth)
