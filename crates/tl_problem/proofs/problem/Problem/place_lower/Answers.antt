-- The placement takes no more lines than the rows that were found.
use Rattle.std.proofs.Common.{arith, sym, subst, ◌∙◌}
use Rattle.tl_problem.specs.Layouts.{GiveHigh}
use Rattle.tl_problem.proofs.TightLaws.{least-total}
use Rattle.tl_problem.proofs.problem.Problem.place_lower.Goals as goal

pub returns-clause-lower : goal.returns-clause-lower
returns-clause-lower c =
    let p = c.args.self.now in
    let placed = c.in_ok-placed.placed in
    let is = c.in_ok-placed.ensures in
    let found = c.height_under-least.ensures.attained in
    let enough : GiveHigh p placed.widths found.0 = subst (λ widths. GiveHigh p widths found.0) (sym is.1) found.1 in
    let less = least-total p.spacing.row_gap p.spacing.lines (GiveHigh p placed.widths) placed.heights found.0 is.0.rows
    enough (is.0.rows.kind.rows ∙ sym found.1.rows) in
    (is.0, is.1, omega (arith, less, is.0.height, found.2, c.if-least-height.false))
