use Rattle.std.proofs.Common.{sym}
use Rattle.tl_diff.proofs.InsertionLemmas.{IsSatisfiable-sound}
use Rattle.tl_diff.proofs.closed_bounds.ClosedBounds.holds.Goals as goal

pub returns : goal.returns
returns c = rw (sym c.self.view_is) (IsSatisfiable-sound _ c.self.inside.holds c.self.invariant)
