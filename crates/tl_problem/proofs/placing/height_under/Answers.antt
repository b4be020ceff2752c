-- The least height for what the cells need is that of all rows under these widths.
use Rattle.tl_problem.specs.declared.axis.Axis.TheVariants.{Rows}
use Rattle.tl_problem.specs.Layouts.{GiveHigh}
use Rattle.tl_problem.specs.inner.Demands.{GiveDemands}
use Rattle.tl_problem.proofs.NeedLemmas.{IsLeastTotal-same, high-give, give-high, high-sum}
use Rattle.tl_problem.proofs.placing.height_under.Goals as goal

pub least_height-requires-clause-fits : goal.least_height-requires-clause-fits
least_height-requires-clause-fits c =
    high-sum c.args.problem.now c.fill_high.ensures.sound c.args.widths.now c.fill_high.new.demands c.fill_high.ensures.high

pub returns : goal.returns
returns c =
    let p = c.args.problem.now in
    let widths = c.args.widths.now in
    let demands = c.fill_high.new.demands in
    IsLeastTotal-same p.spacing.row_gap p.spacing.lines (GiveDemands p Rows demands) (GiveHigh p widths)
    c.least_height.result
    (λ heights. high-give p c.fill_high.ensures.sound widths demands heights c.fill_high.ensures.high)
    (λ heights. give-high p c.fill_high.ensures.sound widths demands heights c.fill_high.ensures.high)
    c.least_height.ensures
