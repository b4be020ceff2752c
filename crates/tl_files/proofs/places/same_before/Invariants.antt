use Rattle.std.proofs.Common.{◌<◌, ℕ, None, get_or}
use Rattle.tl_files.specs.Places.{AreShared}
use Rattle.tl_files.proofs.places.same_before.Given as goal

abbrev pub invariant-loop-earlier : goal.invariant-loop-earlier
invariant-loop-earlier l = (k : ℕ) → k < l.earlier
    → ¬ AreShared (get_or l.places k None) (get_or l.places l.number None)
