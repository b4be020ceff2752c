-- The least heights that give what is needed are those of a placement, and they are not large.
use Rattle.std.proofs.Common.{◌≡◌, refl, arith}
use Rattle.tl_problem.specs.declared.axis.Axis.TheVariants.{Rows}
use Rattle.tl_problem.specs.Problem.{total_width, total_height}
use Rattle.tl_problem.specs.Layouts.{GiveHigh}
use Rattle.tl_problem.specs.Placements.{AreLeast}
use Rattle.tl_problem.specs.inner.Demands.{GiveDemands}
use Rattle.tl_problem.proofs.NeedLemmas.{AreLeast-same, high-give, give-high, high-sum}
use Rattle.tl_base.proofs.SizeLaws.{total-few}
use Rattle.tl_problem.proofs.placing.place_under.Goals as goal

pub least_sizes-requires-clause-fits : goal.least_sizes-requires-clause-fits
least_sizes-requires-clause-fits c =
    rw c.deref.ensures.value
    (omega (
      arith,
      high-sum c.args.problem.now c.cells-cells.ensures.sound c.args.widths.now c.in_ok-demands.demands.items
          c.in_ok-demands.ensures,
    ))

pub total_size-width-requires-clause-few : goal.total_size-width-requires-clause-few
total_size-width-requires-clause-few c = omega (arith, c.requires.columns, c.cells-cells.ensures.sound.few_columns)

pub overflow_cast-width : goal.overflow_cast-width
overflow_cast-width c =
    let is : c.total_size-width.result ≡ total_width c.args.problem.now c.args.widths.now =
    rw (c.spacing-spacing.ensures.spacing)
    at c.total_size-width.ensures.total in
    omega (arith, is, c.requires.page, c.cells-cells.ensures.sound.narrow)

pub total_size-height-requires-clause-few : goal.total_size-height-requires-clause-few
total_size-height-requires-clause-few c = rw c.as_slice.ensures
    (omega (arith, c.in_ok-heights.ensures.least.kind.count, c.cells-cells.ensures.sound.few_rows))

pub overflow_cast-height : goal.overflow_cast-height
overflow_cast-height c =
    let p = c.args.problem.now in
    let is : c.total_size-height.result ≡ total_height p c.in_ok-heights.heights = rw
    (c.as_slice.ensures, c.spacing-spacing.ensures.spacing) at c.total_size-height.ensures.total in
    let spaced = c.spacing-spacing.ensures.sound in
    let few = total-few p.spacing.row_gap p.spacing.lines c.in_ok-heights.heights spaced.close spaced.few
    (omega (arith, c.in_ok-heights.ensures.least.kind.count, c.cells-cells.ensures.sound.few_rows)) in
    let sums = high-sum p c.cells-cells.ensures.sound c.args.widths.now c.in_ok-demands.demands.items c.in_ok-demands.ensures in
    let small = rw c.deref.ensures.value at c.in_ok-heights.ensures.small in
    omega (arith, is, few, sums, small)

pub returns : goal.returns
returns c =
    let p = c.args.problem.now in
    let demands = c.in_ok-demands.demands.items in
    let need = c.in_ok-demands.ensures in
    let least : AreLeast p.spacing.row_gap (GiveDemands p Rows demands) c.in_ok-heights.heights = rw c.deref.ensures.value at
    c.in_ok-heights.ensures.least in
    rw c.in_ok-from_slice.ensures (
      record {
        page = c.requires;
        rows = AreLeast-same p.spacing.row_gap (GiveDemands p Rows demands) (GiveHigh p c.args.widths.now)
            c.in_ok-heights.heights
            (λ hs. high-give p c.cells-cells.ensures.sound c.args.widths.now demands hs need)
            (λ hs. give-high p c.cells-cells.ensures.sound c.args.widths.now demands hs need) least;
        width = rw (c.spacing-spacing.ensures.spacing) at c.total_size-width.ensures.total;
        height = rw (c.as_slice.ensures, c.spacing-spacing.ensures.spacing) at c.total_size-height.ensures.total;
      },
      refl,
    )
