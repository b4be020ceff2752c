use Rattle.std.proofs.Common.{◌+◌, sym, subst}
use Rattle.tl_solve.specs.Ends.{IsLeastUpto}
use Rattle.tl_solve.proofs.EndLaws.{least-next}
use Rattle.tl_solve.proofs.ending.least_standing.Goals as goal

pub loop-zone-preserved : goal.loop-zone-preserved
loop-zone-preserved c =
    subst (IsLeastUpto c.args.closers.now c.args.bounds.now c.args.height (c.loop-zone.zone + 1)) (sym c.least_of-least.ensures)
    (least-next c.args.closers.now c.args.bounds.now c.args.height c.loop-zone.zone c.loop-zone.least c.loop-zone.invariant)
