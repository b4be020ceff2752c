-- The least height for what the cells need is the bound.
use Rattle.tl_problem.specs.declared.axis.Axis.TheVariants.{Rows}
use Rattle.tl_problem.specs.Bounds.{GiveLow}
use Rattle.tl_problem.specs.Works.{AreAllowed}
use Rattle.tl_problem.specs.inner.Demands.{GiveDemands}
use Rattle.tl_problem.proofs.NeedLemmas.{IsLeastTotal-same, low-give, give-low, low-sum}
use Rattle.tl_problem.proofs.WorkLemmas.{left-some}
use Rattle.tl_problem.proofs.bound.bound_in.Goals as goal

pub least_height-requires-clause-fits : goal.least_height-requires-clause-fits
least_height-requires-clause-fits c =
    low-sum c.args.problem.now c.fill_low.ensures.sound (AreAllowed c.args.problem.now c.args.matrix.now.bounds)
    c.fill_low.new.demands
    c.requires.keeps.page c.fill_low.ensures.low

pub returns : goal.returns
returns c =
    let p = c.args.problem.now in
    let Among = AreAllowed p c.args.matrix.now.bounds in
    let demands = c.fill_low.new.demands in
    record {
      some = left-some p c.args.matrix.now.bounds c.requires.keeps c.requires.some;
      least = IsLeastTotal-same p.spacing.row_gap p.spacing.lines (GiveDemands p Rows demands) (GiveLow p Among)
          c.least_height.result
          (low-give p c.fill_low.ensures.sound Among demands c.fill_low.ensures.low)
          (give-low p c.fill_low.ensures.sound Among demands c.fill_low.ensures.low) c.least_height.ensures;
    }
