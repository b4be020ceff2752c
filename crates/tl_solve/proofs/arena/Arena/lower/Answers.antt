use Rattle.std.proofs.Common.{length, sym, subst}
use Rattle.tl_solve.specs.Arenas.{AreBoundsOf}
use Rattle.tl_solve.specs.CutsFound.{AreCutsOf}
use Rattle.tl_solve.proofs.EndLaws.{least-standing}
use Rattle.tl_solve.proofs.arena.Arena.lower.Goals as goal

pub returns : goal.returns
returns c =
    let p = c.args.problem.now in
    let trace = c.args.self.now.trace in
    least-standing p trace c.deref.result.now c.deref-2.result.now
    (subst (AreCutsOf trace (length trace)) (sym c.deref.ensures.value) c.in_ok-cuts.ensures)
    (subst (AreBoundsOf p trace) (sym c.deref-2.ensures.value) c.requires.bounds)
    c.args.self.now.best.height c.least_standing.result
    c.least_standing.ensures
