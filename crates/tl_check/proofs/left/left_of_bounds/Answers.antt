-- One bound more.
use Rattle.std.proofs.Common.{List}
use Rattle.std.proofs.Common.{take, sym, subst}
use Rattle.std.proofs.lemmas.List.{take_more}
use Rattle.tl_problem.specs.Works.{AreAllowed}
use Rattle.tl_cert.specs.declared.log.Bound.{Bound}
use Rattle.tl_cert.specs.declared.log.Side.TheVariants.{Most}
use Rattle.tl_check.specs.inner.Firing.{HasLeft}
use Rattle.tl_check.proofs.left.left_of_bounds.Goals as goal

pub bounds-preserved : goal.bounds-preserved
bounds-preserved c =
    let bounds = c.args.bounds.now in
    let i = c.bounds.bound-index in
    let more = take_more bounds i (record { span = 0; side = Most; width = 0 }) c.bounds-test.true in
    subst (λ (l : List Bound). HasLeft c.args.problem.now (AreAllowed c.args.problem.now c.args.matrix.now.bounds)
    l c.left_with-left.result) (sym more)
    (c.left_with-left.ensures (take i bounds) c.bounds.invariant)
