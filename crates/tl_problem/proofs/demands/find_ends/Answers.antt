-- The arcs lead forward, in order, and weigh no more than what is demanded.
use Rattle.std.proofs.Common.{arith}
use Rattle.tl_problem.proofs.DemandLemmas.{arcs-forward, arcs-in_order, arcs-weight}
use Rattle.tl_problem.proofs.demands.find_ends.Goals as goal

pub heaviest-requires-clause-forward : goal.heaviest-requires-clause-forward
heaviest-requires-clause-forward c =
    rw c.count.ensures (arcs-forward c.args.problem.now c.args.axis c.args.demands.now c.fill_arcs.new.arcs
    c.fill_arcs.ensures)

pub heaviest-requires-clause-in_order : goal.heaviest-requires-clause-in_order
heaviest-requires-clause-in_order c = arcs-in_order c.args.problem.now c.args.axis c.args.demands.now c.fill_arcs.new.arcs
    c.fill_arcs.ensures

pub heaviest-requires-clause-fits : goal.heaviest-requires-clause-fits
heaviest-requires-clause-fits c =
    omega (
      arith,
      arcs-weight c.args.problem.now c.args.axis c.args.demands.now c.fill_arcs.new.arcs c.fill_arcs.ensures
          c.requires.count,
      c.requires.fits,
    )

pub returns-clause-ends : goal.returns-clause-ends
returns-clause-ends c = record {
  arcs = c.fill_arcs.new.arcs;
  are = c.fill_arcs.ensures;
  heaviest = λ k up. c.heaviest.ensures.each k (rw c.count.ensures up);
}

pub returns-clause-small : goal.returns-clause-small
returns-clause-small c =
    omega (
      arith,
      arcs-weight c.args.problem.now c.args.axis c.args.demands.now c.fill_arcs.new.arcs c.fill_arcs.ensures c.requires.count,
      c.heaviest.ensures.at_most,
    )
