use Rattle.std.proofs.Common.{[], length, get_or, map, take}
use Rattle.tl_problem.specs.Works.{AreAllowed}
use Rattle.tl_store.specs.Stores.{IsListed}
use Rattle.tl_store.specs.inner.Closings.{IsFirstIn, IsImpliedWhole}
use Rattle.tl_store.proofs.closing.first_closing.Given as goal

abbrev pub invariant-groups : goal.invariant-groups
invariant-groups l = IsFirstIn (IsImpliedWhole l.problem (AreAllowed l.problem l.matrix.bounds) (map (λ key. key.items) l.keys))
    (λ k. IsListed (take l.group-index l.groups) (get_or (map (λ key. key.items) l.keys) k []) k)
    (length (map (λ key. key.items) l.keys)) l.first
