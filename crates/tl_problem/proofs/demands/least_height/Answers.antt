-- The heaviest path, the gaps between the rows, and both edges.
use Rattle.std.proofs.Common.{◌<◌, arith}
use Rattle.tl_problem.proofs.DemandLemmas.{least_total-none, least_total-some}
use Rattle.tl_problem.proofs.demands.least_height.Goals as goal

pub returns-then-rows-eq0 : goal.returns-then-rows-eq0
returns-then-rows-eq0 c = least_total-none c.args.problem.now c.args.demands.now c.find_ends-sizes.new.ends
    c.find_ends-sizes.ensures.ends
    (omega (arith, c.rows-rows.ensures, c.if-rows-eq0.true))

pub returns : goal.returns
returns c =
    let some : 0 < c.args.problem.now.rows = omega (arith, c.rows-rows.ensures, c.if-rows-eq0.false) in
    rw (c.find_ends-sizes.ensures.last, c.spacing-spacing.ensures.spacing, c.rows-rows.ensures)
    (least_total-some c.args.problem.now c.args.demands.now c.find_ends-sizes.new.ends c.find_ends-sizes.ensures.ends some)
