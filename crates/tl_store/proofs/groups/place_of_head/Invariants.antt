use Rattle.std.proofs.Common.{◌≢◌, ℕ, ◌<◌, get_or}
use Rattle.tl_store.specs.declared.groups.Group.{Group}
use Rattle.tl_store.proofs.groups.place_of_head.Given as goal

abbrev pub invariant-loop-place : goal.invariant-loop-place
invariant-loop-place l = (i : ℕ) (d : Group) → i < l.place → (get_or l.groups i d).head ≢ l.head
