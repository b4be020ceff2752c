-- One bound more.
use Rattle.std.proofs.Common.{List, take, refl, sym, subst, arith}
use Rattle.std.specs.List.{All}
use Rattle.std.proofs.lemmas.List.{take_more, take_all}
use Rattle.std.proofs.lemmas.List.Elements.{All-push}
use Rattle.tl_problem.specs.Works.{AreAllowed}
use Rattle.tl_cert.specs.Implied.{Implied}
use Rattle.tl_cert.specs.declared.log.Bound.{Bound}
use Rattle.tl_cert.specs.declared.log.Side.TheVariants.{Most}
use Rattle.tl_store.proofs.closing.are_implied.Goals as goal

pub bounds-preserved : goal.bounds-preserved
bounds-preserved c =
    let P = Implied c.args.problem.now (AreAllowed c.args.problem.now c.args.matrix.now.bounds) in
    let bounds = c.args.bounds.now in
    let i = c.bounds.bound-index in
    let more = take_more bounds i (record { span = 0; side = Most; width = 0 }) c.bounds-test.true in
    subst (λ (l : List Bound). All P l) (sym more)
    (All-push P (take i bounds) _ c.bounds.invariant (c.is_implied.ensures.0 c.if-not-is_implied.false))

pub returns : goal.returns
returns c =
    let P = Implied c.args.problem.now (AreAllowed c.args.problem.now c.args.matrix.now.bounds) in (
      λ yes. subst (λ (l : List Bound). All P l) (take_all c.bounds.bound-index c.args.bounds.now
          (omega (arith, c.bounds-test.false))) c.bounds.invariant,
      λ all. refl,
    )
