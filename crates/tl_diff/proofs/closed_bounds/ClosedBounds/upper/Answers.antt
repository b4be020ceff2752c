-- The bound that is looked up is the one of the bounds_of.
use Rattle.std.proofs.Common.{◌<◌, sym}
use Rattle.tl_diff.specs.Bounds.{bounds_of, IsSatisfiable}
use Rattle.tl_diff.proofs.RowLemmas.{bound_at-read}
use Rattle.tl_diff.proofs.InsertionLemmas.{upper_sound, small_sound}
use Rattle.tl_diff.proofs.closed_bounds.ClosedBounds.upper.Goals as goal

pub returns-clause-exact : goal.returns-clause-exact
returns-clause-exact c =
    let n = c.self.inside.variables in
    let rows = c.self.inside.rows.items in
    let first : c.args.a < n = rw (sym c.self.view_is) at c.requires.begins in
    let second : c.args.b < n = rw (sym c.self.view_is) at c.requires.ends in
    let some : IsSatisfiable (bounds_of n rows) = rw (sym c.self.view_is) at c.requires.holds in
    rw (sym c.self.view_is)
    (upper_sound (bounds_of n rows) c.self.inside.holds c.args.a c.args.b c.index.result.now c.self.invariant some first second
    (bound_at-read n rows c.args.a c.args.b c.index.result.now c.self.invariant.pairs first second c.index.ensures))

pub returns-clause-small : goal.returns-clause-small
returns-clause-small c =
    let n = c.self.inside.variables in
    let rows = c.self.inside.rows.items in
    let first : c.args.a < n = rw (sym c.self.view_is) at c.requires.begins in
    let second : c.args.b < n = rw (sym c.self.view_is) at c.requires.ends in
    let some : IsSatisfiable (bounds_of n rows) = rw (sym c.self.view_is) at c.requires.holds in
    small_sound (bounds_of n rows) c.self.inside.holds c.args.a c.args.b c.index.result.now c.self.invariant some first second
    (bound_at-read n rows c.args.a c.args.b c.index.result.now c.self.invariant.pairs first second c.index.ensures)
