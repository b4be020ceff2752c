-- The sizes between the ends are the least.
use Rattle.std.proofs.Common.{◌≡◌, ◌-◌, length, get_or, sum, arith, sym, subst, ap, ◌∙◌}
use Rattle.std.proofs.lemmas.List.{take_all}
use Rattle.tl_problem.specs.Placements.{AreLeast}
use Rattle.tl_problem.specs.inner.Axes.{count_on, gap_on}
use Rattle.tl_problem.specs.inner.Demands.{GiveDemands, rises}
use Rattle.tl_problem.proofs.DemandLemmas.{ends-rise, sizes-sum, sizes-least, rises-length}
use Rattle.tl_problem.proofs.demands.sizes_in.Goals as goal

pub sizes_between-requires-clause-rising : goal.sizes_between-requires-clause-rising
sizes_between-requires-clause-rising c = λ k within.
    ends-rise c.args.problem.now c.args.axis c.args.demands.now c.find_ends.new.ends c.find_ends.ensures.ends k
    (omega (arith, c.find_ends.auto.ends, c.requires.end_room))

pub returns-clause-least : goal.returns-clause-least
returns-clause-least c =
    let ends = c.find_ends.new.ends in
    let count : length ends - 1 ≡ count_on c.args.axis c.args.problem.now =
    omega (arith, c.find_ends.auto.ends, c.requires.end_room) in
    let is : c.in_ok-sizes.sizes ≡ rises (λ k. get_or ends k 0) (count_on c.args.axis c.args.problem.now) =
    c.in_ok-sizes.ensures ∙ ap
    (rises (λ k. get_or ends k 0)) count in
    subst (AreLeast (gap_on c.args.axis c.args.problem.now) (GiveDemands c.args.problem.now c.args.axis c.args.demands.now))
    (sym is)
    (sizes-least c.args.problem.now c.args.axis c.args.demands.now ends c.find_ends.ensures.ends)

pub returns-clause-small : goal.returns-clause-small
returns-clause-small c =
    let ends = c.find_ends.new.ends in
    let n = count_on c.args.axis c.args.problem.now in
    let count : length ends - 1 ≡ n = omega (arith, c.find_ends.auto.ends, c.requires.end_room) in
    let is : c.in_ok-sizes.sizes ≡ rises (λ k. get_or ends k 0) n =
    c.in_ok-sizes.ensures ∙ ap (rises (λ k. get_or ends k 0)) count in
    let whole = ap sum (take_all n (rises (λ k. get_or ends k 0) n) (omega (arith, rises-length (λ k. get_or ends k 0) n))) in
    let last = sizes-sum c.args.problem.now c.args.axis c.args.demands.now ends c.find_ends.ensures.ends n (omega arith) in
    rw is (omega (arith, whole, last, c.find_ends.ensures.last, c.find_ends.ensures.small))
