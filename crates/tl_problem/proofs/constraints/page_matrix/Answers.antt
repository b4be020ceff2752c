-- The constraints of the page, one after another: the gaps, the least widths, and the end.
use Rattle.std.proofs.Common.{arith}
use Rattle.tl_problem.specs.Works.{places}
use Rattle.tl_problem.proofs.ConstraintLemmas.{page-satisfiable, KeepsPage-ends, whole-ends}
use Rattle.tl_problem.proofs.constraints.page_matrix.Goals as goal

pub add_rooms-requires-clause-page : goal.add_rooms-requires-clause-page
add_rooms-requires-clause-page c = record {
  sound = c.spans-spans.ensures.sound;
  variables = omega (arith, c.in_ok-matrix.ensures.variables, c.cols-cols.ensures);
  marks = c.in_ok-matrix.ensures.marks;
  none_held = c.in_ok-matrix.ensures.none_held;
  whole = λ widths page. record {
    columns = page.columns;
    satisfies =
        c.in_ok-matrix.ensures.free (places c.args.problem.now widths);
  };
  gaps = λ x meets k below. absurd (omega arith);
  rooms = λ x meets k below. absurd (omega arith);
}

pub keep_near-requires-clause-holds : goal.keep_near-requires-clause-holds
keep_near-requires-clause-holds c = page-satisfiable c.args.problem.now _ _ c.add_gaps.new.matrix c.add_gaps.ensures

pub returns-clause-keeps : goal.returns-clause-keeps
returns-clause-keeps c =
    KeepsPage-ends c.args.problem.now c.add_gaps.new.matrix c.keep_near.new.matrix c.add_gaps.ensures
    (rw (
      c.saturating_sub-most.ensures,
      c.cols-cols.ensures,
      c.width.ensures,
      c.spacing-spacing.ensures.spacing,
    ) at c.keep_near.ensures.adds)

pub returns-clause-whole : goal.returns-clause-whole
returns-clause-whole c =
    whole-ends c.args.problem.now c.add_gaps.new.matrix c.keep_near.new.matrix c.add_gaps.ensures
    (rw (
      c.saturating_sub-most.ensures,
      c.cols-cols.ensures,
      c.width.ensures,
      c.spacing-spacing.ensures.spacing,
    ) at c.keep_near.ensures.adds)
