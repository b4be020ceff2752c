use Rattle.std.proofs.Common.{map, take}
use Rattle.std.specs.List.{Contains}
use Rattle.tl_problem.specs.Works.{AreAllowed}
use Rattle.tl_store.specs.inner.Closings.{IsFirstIn, IsImpliedWhole}
use Rattle.tl_store.proofs.closing.first_in.Given as goal

abbrev pub invariant-numbers : goal.invariant-numbers
invariant-numbers l = IsFirstIn (IsImpliedWhole l.problem (AreAllowed l.problem l.matrix.bounds) (map (λ key. key.items) l.keys))
    (Contains (take l.number-index l.numbers)) l.below l.first
