-- A bound is put at its place.
use Rattle.std.proofs.Common.{inl, inr, subst}
use Rattle.std.specs.List.{Contains, insert}
use Rattle.tl_store.proofs.Putting.{put-sorted, insert-cases, insert-old, insert-new}
use Rattle.tl_store.proofs.keys.put.Goals as goal

pub returns-in_err-insert-clause-sorted : goal.returns-in_err-insert-clause-sorted
returns-in_err-insert-clause-sorted c = rw c.in_err-insert.ensures.items c.requires.sorted

pub returns-clause-sorted : goal.returns-clause-sorted
returns-clause-sorted c = rw c.in_ok-insert.ensures.items
    (put-sorted c.args.key.now.items c.place_of-place.result c.args.bound c.requires.sorted
    (rw c.deref.ensures.value at c.place_of-place.ensures.there) (rw c.deref.ensures.value at c.place_of-place.ensures.before)
    (rw c.deref.ensures.value at c.place_of-place.ensures.at)
    (rw c.deref-2.ensures.value at (c.is_at.ensures.no c.if-is_at.false)))

pub returns-clause-has : goal.returns-clause-has
returns-clause-has c = rw c.in_ok-insert.ensures.items (λ other. (
  λ has. insert-cases c.args.key.now.items c.place_of-place.result c.args.bound other
      (rw c.deref.ensures.value at c.place_of-place.ensures.there) has,
  λ has. elim has [
    | inl old ↦ insert-old c.args.key.now.items c.place_of-place.result c.args.bound other
        (rw c.deref.ensures.value at c.place_of-place.ensures.there) old
    | inr new ↦ subst (Contains (insert c.args.key.now.items c.place_of-place.result c.args.bound)) new
        (insert-new c.args.key.now.items c.place_of-place.result c.args.bound
        (rw c.deref.ensures.value at c.place_of-place.ensures.there))
  ],
))
