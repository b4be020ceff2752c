use Rattle.std.proofs.Common.{length, sym, subst}
use Rattle.tl_solve.specs.Arenas.{AreBoundsOf}
use Rattle.tl_solve.specs.CutsFound.{AreCutsOf}
use Rattle.tl_solve.proofs.EndLaws.{least-standing}
use Rattle.tl_solve.proofs.trace_ending.trace_lower.Goals as goal

pub returns : goal.returns
returns c =
    let p = c.args.problem.now in
    let trace = c.args.trace.now in
    least-standing p trace c.deref-2.result.now c.deref-3.result.now
    (subst (AreCutsOf trace (length trace)) (sym c.deref-2.ensures.value) c.in_ok-cuts.ensures)
    (subst (AreBoundsOf p trace) (sym c.deref-3.ensures.value) c.in_ok-bounds.ensures)
    c.args.height c.least_standing.result
    c.least_standing.ensures
