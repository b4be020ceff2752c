-- The rows are those of the bounds_of that `add` leaves.
use Rattle.std.proofs.Common.{arith, sym}
use Rattle.std.specs.Int.{w32}
use Rattle.std.proofs.lemmas.Int.{to_z-of_z}
use Rattle.std.proofs.lemmas.List.{with_items_is}
use Rattle.tl_diff.specs.Bounds.{bounds_of, IsSatisfiable}
use Rattle.tl_diff.proofs.InsertionLemmas.{IsSatisfiable-sound}
use Rattle.tl_diff.proofs.closed_bounds.ClosedBounds.bound.Goals as goal

pub add-self-inside-requires-clause-sound : goal.add-self-inside-requires-clause-sound
add-self-inside-requires-clause-sound c =
    let some : IsSatisfiable (bounds_of c.self.inside.variables c.self.inside.rows.items) =
    rw (sym c.self.view_is) at c.requires.holds in
    let holds = (IsSatisfiable-sound _ c.self.inside.holds c.self.invariant).1 some in
    rw (c.deref_mut.ensures.value, sym holds) c.self.invariant

pub returns-clause-adds : goal.returns-clause-adds
returns-clause-adds c =
    let items = with_items_is c.self.inside.rows c.add-self-inside.new.rows
    (omega (arith, c.add-self-inside.ensures.sound.pairs, c.self.invariant.pairs, c.self.inside.rows.ok.0)) in
    let same = to_z-of_z w32 c.args.most c.ranges.most in
    rw (sym c.self.view_is, items) (rw (c.deref_mut.ensures.value, same) at c.add-self-inside.ensures.adds)

pub returns-clause-holds : goal.returns-clause-holds
returns-clause-holds c =
    let items = with_items_is c.self.inside.rows c.add-self-inside.new.rows
    (omega (arith, c.add-self-inside.ensures.sound.pairs, c.self.invariant.pairs, c.self.inside.rows.ok.0)) in
    rw items (IsSatisfiable-sound _ c.add-self-inside.result c.add-self-inside.ensures.sound)
