use Rattle.std.proofs.Common.{◌<◌, ℕ, None, get_or}
use Rattle.tl_files.specs.Places.{AreShared}
use Rattle.tl_files.proofs.places.first_shared.Given as goal

abbrev pub invariant-loop-number : goal.invariant-loop-number
invariant-loop-number l = (one other : ℕ) → one < other → other < l.number
    → ¬ AreShared (get_or l.places one None) (get_or l.places other None)
