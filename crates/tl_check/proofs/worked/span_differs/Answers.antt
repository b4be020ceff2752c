-- No class ends past the page.
use Rattle.std.proofs.Common.{arith}
use Rattle.tl_problem.proofs.SpanLaws.{class-in_page}
use Rattle.tl_check.proofs.worked.span_differs.Goals as goal

pub some_cell_differs-requires-clause-last : goal.some_cell_differs-requires-clause-last
some_cell_differs-requires-clause-last c =
    omega (
      arith,
      c.last_width-last.ensures,
      class-in_page c.args.problem.now c.requires.sound c.args.s c.args.range.last c.requires.last,
      c.requires.sound.narrow,
    )
