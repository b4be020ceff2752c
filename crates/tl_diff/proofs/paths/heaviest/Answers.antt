-- After the last place no arc is left.
use Rattle.std.proofs.Common.{◌≡◌, arith}
use Rattle.std.proofs.lemmas.List.Sums.{sum_by-take-le}
use Rattle.tl_diff.proofs.PathLemmas.{IsHeaviest-relaxed}
use Rattle.tl_diff.proofs.paths.heaviest.Goals as goal

pub returns-clause-each : goal.returns-clause-each
returns-clause-each c =
    let e : c.loop-place.place ≡ c.args.n = omega arith in
    IsHeaviest-relaxed c.args.n c.args.arcs.now c.loop-place.next c.loop-place.out c.requires.forward
    (rw e at c.loop-place.invariant)

-- What the pass finds is a part of what the arcs weigh together.
pub returns-clause-at_most : goal.returns-clause-at_most
returns-clause-at_most c =
    omega (
      arith,
      c.loop-place.invariant.small c.args.n (omega arith),
      sum_by-take-le (λ e. e.weight) c.args.arcs.now c.loop-place.next,
    )
