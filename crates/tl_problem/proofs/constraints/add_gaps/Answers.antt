use Rattle.std.proofs.Common.{length, arith}
use Rattle.tl_problem.specs.Spans.{spans_of}
use Rattle.tl_problem.proofs.ConstraintLemmas.{page-satisfiable, PageUpto-gap}
use Rattle.tl_problem.proofs.constraints.add_gaps.Goals as goal

pub keep_apart-requires-clause-begins : goal.keep_apart-requires-clause-begins
keep_apart-requires-clause-begins c = omega (arith, c.loop-column.invariant.variables, c.cols-column-end.ensures)

pub keep_apart-requires-clause-ends : goal.keep_apart-requires-clause-ends
keep_apart-requires-clause-ends c = omega (arith, c.loop-column.invariant.variables, c.cols-column-end.ensures)

pub keep_apart-requires-clause-holds : goal.keep_apart-requires-clause-holds
keep_apart-requires-clause-holds c = page-satisfiable c.args.problem.now c.loop-column.column _ c.loop-column.matrix
    c.loop-column.invariant

pub loop-column-preserved : goal.loop-column-preserved
loop-column-preserved c =
    PageUpto-gap c.args.problem.now c.loop-column.column c.loop-column.matrix c.keep_apart.new.matrix
    (length (spans_of c.args.problem.now)) (omega (arith, c.cols-column-end.ensures))
    c.loop-column.invariant
    (rw (c.spacing-gap.ensures.spacing) at c.keep_apart.ensures.adds)
