use Rattle.std.proofs.Common.{ℕ, ◌<◌, get_or}
use Rattle.tl_cert.specs.declared.log.Bound.{Bound}
use Rattle.tl_store.specs.Stores.{BoundComesFirst}
use Rattle.tl_store.proofs.keys.place_of.Given as goal

abbrev pub invariant-loop-place : goal.invariant-loop-place
invariant-loop-place l = (i : ℕ) (d : Bound) → i < l.place → BoundComesFirst (get_or l.key i d) l.bound
