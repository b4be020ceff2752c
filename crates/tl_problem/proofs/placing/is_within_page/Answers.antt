-- Each test that fails is a part of what it is to be within the page.
use Rattle.std.proofs.Common.{◌≡◌, ◌≤◌, length, refl, arith, ap}
use Rattle.tl_base.specs.Steps.{first_width}
use Rattle.tl_problem.specs.Problem.{cell_width, total_width}
use Rattle.tl_problem.proofs.NeedLemmas.{All-from_numbers}
use Rattle.tl_problem.proofs.placing.is_within_page.Goals as goal

pub returns : goal.returns
returns c =
    let p = c.args.problem.now in
    let total : c.total_size.result ≡ total_width p c.args.widths.now =
    rw (c.spacing-spacing.ensures.spacing) at c.total_size.ensures.total in (
      λ yes. record {
        columns = omega (arith, c.if-widths-cols.false, c.cols.ensures);
        page = omega (arith, c.if-total_size-from.false, total, c.from.ensures, c.width.ensures);
        cells = All-from_numbers (λ cell. first_width cell.low ≤ cell_width p c.args.widths.now cell) p.cells
            (λ k within. c.loop-number.invariant k (omega (
              arith,
              c.loop-number-test.false,
              ap length c.cells-cells.ensures.cells,
            )));
      },
      λ page. refl,
    )
