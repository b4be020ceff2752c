-- The least positions that keep each cell's height.
use Rattle.std.proofs.Common.{arith}
use Rattle.tl_problem.specs.declared.axis.Axis.TheVariants.{Columns}
use Rattle.tl_problem.specs.Tight.{KeepHigh, IsTightFrom}
use Rattle.tl_problem.specs.inner.Demands.{GiveDemands}
use Rattle.tl_problem.proofs.NeedLemmas.{AreLeast-same, keep-give, give-keep, page-keep, width-sum}
use Rattle.tl_problem.proofs.TightLaws.{tight-no_wider, tight-no_higher}
use Rattle.tl_problem.proofs.problem.Problem.tight.Goals as goal

pub least_sizes-requires-clause-fits : goal.least_sizes-requires-clause-fits
least_sizes-requires-clause-fits c =
    rw c.deref.ensures.value
    (omega (
      arith,
      width-sum c.args.self.now c.cells-cells.ensures.sound c.args.placed.now.widths c.in_ok-demands.demands.items c.requires.page
          (rw c.as_slice.ensures at c.in_ok-demands.ensures),
    ))

pub place_under-requires : goal.place_under-requires
place_under-requires c =
    let p = c.args.self.now in
    let sound = c.cells-cells.ensures.sound in
    let widths = c.args.placed.now.widths in
    let demands = c.in_ok-demands.demands.items in
    let need = rw c.as_slice.ensures at c.in_ok-demands.ensures in
    let least = AreLeast-same p.spacing.gap (GiveDemands p Columns demands) (KeepHigh p widths) c.in_ok-widths.widths
    (λ xs. keep-give p sound widths demands xs need) (λ xs. give-keep p sound widths demands xs need)
    (rw c.deref.ensures.value at c.in_ok-widths.ensures.least) in
    rw c.as_slice-2.ensures (page-keep p sound widths c.in_ok-widths.widths c.requires.page least)

pub returns-clause-tight : goal.returns-clause-tight
returns-clause-tight c =
    let p = c.args.self.now in
    let sound = c.cells-cells.ensures.sound in
    let widths = c.args.placed.now.widths in
    let demands = c.in_ok-demands.demands.items in
    let need = rw c.as_slice.ensures at c.in_ok-demands.ensures in
    let least = AreLeast-same p.spacing.gap (GiveDemands p Columns demands) (KeepHigh p widths) c.in_ok-widths.widths
    (λ xs. keep-give p sound widths demands xs need) (λ xs. give-keep p sound widths demands xs need)
    (rw c.deref.ensures.value at c.in_ok-widths.ensures.least) in
    let made : IsTightFrom p widths c.in_ok-tight.tight = record {
      columns = rw (c.in_ok-tight.ensures.1, c.as_slice-2.ensures) least;
      placement = c.in_ok-tight.ensures.0;
    } in
    made

pub returns-clause-no_wider : goal.returns-clause-no_wider
returns-clause-no_wider c =
    let p = c.args.self.now in
    let sound = c.cells-cells.ensures.sound in
    let widths = c.args.placed.now.widths in
    let demands = c.in_ok-demands.demands.items in
    let need = rw c.as_slice.ensures at c.in_ok-demands.ensures in
    let least = AreLeast-same p.spacing.gap (GiveDemands p Columns demands) (KeepHigh p widths) c.in_ok-widths.widths
    (λ xs. keep-give p sound widths demands xs need) (λ xs. give-keep p sound widths demands xs need)
    (rw c.deref.ensures.value at c.in_ok-widths.ensures.least) in
    let made : IsTightFrom p widths c.in_ok-tight.tight = record {
      columns = rw (c.in_ok-tight.ensures.1, c.as_slice-2.ensures) least;
      placement = c.in_ok-tight.ensures.0;
    } in
    tight-no_wider p c.args.placed.now c.in_ok-tight.tight c.requires made

pub returns-clause-no_higher : goal.returns-clause-no_higher
returns-clause-no_higher c =
    let p = c.args.self.now in
    let sound = c.cells-cells.ensures.sound in
    let widths = c.args.placed.now.widths in
    let demands = c.in_ok-demands.demands.items in
    let need = rw c.as_slice.ensures at c.in_ok-demands.ensures in
    let least = AreLeast-same p.spacing.gap (GiveDemands p Columns demands) (KeepHigh p widths) c.in_ok-widths.widths
    (λ xs. keep-give p sound widths demands xs need) (λ xs. give-keep p sound widths demands xs need)
    (rw c.deref.ensures.value at c.in_ok-widths.ensures.least) in
    let made : IsTightFrom p widths c.in_ok-tight.tight = record {
      columns = rw (c.in_ok-tight.ensures.1, c.as_slice-2.ensures) least;
      placement = c.in_ok-tight.ensures.0;
    } in
    tight-no_higher p c.args.placed.now c.in_ok-tight.tight c.requires made
