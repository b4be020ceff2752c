use Rattle.std.proofs.Common.{length, arith}
use Rattle.std.proofs.lemmas.List.Sorted.{sum_by-IsPermutation}
use Rattle.tl_table.specs.declared.widest.NumberedArc.{NumberedArc}
use Rattle.tl_table.proofs.Sorted.{HaveArcs-permuted}
use Rattle.tl_table.proofs.widest.arcs_in_order.Goals as goal

pub returns-clause-arcs : goal.returns-clause-arcs
returns-clause-arcs c = HaveArcs-permuted c.args.gap c.args.demands.now (length c.args.demands.now) _ _ c.in_ok-arcs.ensures.same
    c.in_ok-numbered.ensures.arcs

pub returns-clause-total : goal.returns-clause-total
returns-clause-total c = omega (
  arith,
  sum_by-IsPermutation (λ (one : NumberedArc). one.arc.weight) _ _ c.in_ok-arcs.ensures.same,
  c.in_ok-numbered.ensures.total,
)
