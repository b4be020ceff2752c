-- The least assignment gives the widths at the least places.
use Rattle.std.proofs.Common.{sym, subst, ◌∙◌}
use Rattle.tl_diff.specs.Bounds.{assignment_of}
use Rattle.tl_problem.specs.Placements.{AreLeast}
use Rattle.tl_problem.specs.Works.{AreAllowed}
use Rattle.tl_problem.proofs.ConstraintLemmas.{least-left, place-small, place-bounded}
use Rattle.tl_problem.proofs.bound.widths_in.Goals as goal

pub solve_least-requires-clause-room : goal.solve_least-requires-clause-room
solve_least-requires-clause-room c = c.requires.room ∙ sym c.requires.keeps.variables

pub solve_least-requires-clause-bounded : goal.solve_least-requires-clause-bounded
solve_least-requires-clause-bounded c = place-bounded c.args.problem.now c.args.matrix.now.bounds c.requires.keeps

pub widths_between-requires-clause-small : goal.widths_between-requires-clause-small
widths_between-requires-clause-small c = place-small c.args.problem.now c.args.matrix.now.bounds c.requires.keeps
    (assignment_of c.solve_least.new.out) c.solve_least.ensures c.requires.sound

pub widths_between-requires-clause-rising : goal.widths_between-requires-clause-rising
widths_between-requires-clause-rising c = λ k below. c.requires.keeps.gaps (assignment_of c.solve_least.new.out)
    c.solve_least.ensures.satisfies k below

pub returns : goal.returns
returns c =
    subst (AreLeast c.args.problem.now.spacing.gap (AreAllowed c.args.problem.now c.args.matrix.now.bounds))
    (sym c.in_ok-widths.ensures)
    (least-left c.args.problem.now c.args.matrix.now.bounds c.requires.keeps (assignment_of c.solve_least.new.out)
    c.solve_least.ensures)
