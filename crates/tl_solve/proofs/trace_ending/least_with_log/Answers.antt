use Rattle.std.proofs.Common.{length, sym, subst}
use Rattle.tl_solve.specs.Arenas.{AreBoundsOf}
use Rattle.tl_solve.specs.CutsFound.{AreCutsOf}
use Rattle.tl_solve.proofs.EndLaws.{least-proves, least-standing}
use Rattle.tl_solve.proofs.trace_ending.least_with_log.Goals as goal

pub returns-clause-least : goal.returns-clause-least
returns-clause-least c =
    let p = c.args.problem.now in
    let trace = c.args.trace.now in
    least-standing p trace c.deref-2.result.now c.deref-3.result.now
    (subst (AreCutsOf trace (length trace)) (sym c.deref-2.ensures.value) c.in_ok-cuts.ensures)
    (subst (AreBoundsOf p trace) (sym c.deref-3.ensures.value) c.in_ok-bounds.ensures)
    c.args.height c.least_standing-lower.result
    c.least_standing-lower.ensures

pub log_of_bounds-requires-clause-standing : goal.log_of_bounds-requires-clause-standing
log_of_bounds-requires-clause-standing c =
    let p = c.args.problem.now in
    let trace = c.args.trace.now in
    least-proves p trace c.in_ok-bounds.bounds.items c.args.height c.least_standing-lower.result c.in_ok-bounds.ensures
    (least-standing p trace c.deref-2.result.now c.deref-3.result.now
    (subst (AreCutsOf trace (length trace)) (sym c.deref-2.ensures.value) c.in_ok-cuts.ensures)
    (subst (AreBoundsOf p trace) (sym c.deref-3.ensures.value) c.in_ok-bounds.ensures)
    c.args.height c.least_standing-lower.result
    c.least_standing-lower.ensures)
