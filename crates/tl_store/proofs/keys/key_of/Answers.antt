-- One bound more.
use Rattle.std.proofs.Common.{List, take, sym, subst, arith}
use Rattle.std.proofs.lemmas.List.{take_more, take_all}
use Rattle.tl_cert.specs.declared.log.Bound.{Bound}
use Rattle.tl_cert.specs.declared.log.Side.TheVariants.{Most}
use Rattle.tl_store.specs.Stores.{HaveSame}
use Rattle.tl_store.proofs.Putting.{same-push}
use Rattle.tl_store.proofs.keys.key_of.Goals as goal

pub bounds-preserved : goal.bounds-preserved
bounds-preserved c =
    let bounds = c.args.bounds.now in
    let i = c.bounds.bound-index in
    let more = take_more bounds i (record { span = 0; side = Most; width = 0 }) c.bounds-test.true in
    record {
      sorted = c.put.ensures.sorted;
      same = subst (λ (l : List Bound). HaveSame l c.put.new.key.items) (sym more)
          (same-push (take i bounds) c.bounds.key.items c.put.new.key.items _ c.bounds.invariant.same c.in_ok-put.ensures.has);
      no_more = omega (arith, c.in_ok-put.ensures.one_more, c.bounds.invariant.no_more);
    }

pub returns-clause-same : goal.returns-clause-same
returns-clause-same c = subst (λ (l : List Bound). HaveSame l c.bounds.key.items)
    (take_all c.bounds.bound-index c.args.bounds.now (omega (arith, c.bounds-test.false))) c.bounds.invariant.same
