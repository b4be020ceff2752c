-- The turns are those of the cells seen so far; a sort keeps them, in the order of their starts.
use Rattle.std.proofs.Common.{arith, rules, sym, refl, ◌∙◌, ap}
use Rattle.std.proofs.lemmas.List.{take_all}
use Rattle.std.proofs.lemmas.List.Sorted.{IsNonDecreasingBy-from_sort_by_key}
use Rattle.tl_problem.specs.inner.Axes.{turns_from}
use Rattle.tl_problem.proofs.AxisLemmas.{turns_from-more}
use Rattle.tl_problem.proofs.axis.order.Goals as goal

pub loop-number-preserved : goal.loop-number-preserved
loop-number-preserved c =
    let more = turns_from-more c.args.axis c.args.cells.now c.loop-number.number c.index-cells-number.result
    c.loop-number-test.true in
    rw (c.in_ok-push.ensures.items, more, ← c.index-cells-number.is, c.loop-number.invariant, c.start.ensures) refl

pub returns : goal.returns
returns c = record {
  same =
      let all = c.loop-number.invariant ∙ ap (turns_from c.args.axis 0)
      (take_all c.loop-number.number c.args.cells.now (omega arith)) in
      rw (sym all) c.in_ok-sort_by_key.ensures.permutation;
  rising = IsNonDecreasingBy-from_sort_by_key (λ t. t.start) _ c.in_ok-sort_by_key.ensures.sorted (λ a r q k. search rules);
}
