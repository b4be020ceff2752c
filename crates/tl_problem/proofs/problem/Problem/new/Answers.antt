-- The cells share no slot, so there are few; what was found is what the spans and classes of the problem are.
use Rattle.std.proofs.Common.{arith}
use Rattle.tl_problem.specs.Problem.{ProblemModel}
use Rattle.tl_problem.proofs.DemandLemmas.{few-cells}
use Rattle.tl_problem.proofs.SpanningLemmas.{spans-found, classes-found}
use Rattle.tl_problem.proofs.problem.Problem.new.Goals as goal

pub order-requires : goal.order-requires
order-requires c =
    let p : ProblemModel = record {
      cols = c.args.cols;
      rows = c.args.rows;
      spacing = c.args.spacing;
      width = c.args.width;
      cells =
          c.args.cells;
    } in
    rw c.as_slice-2.ensures (omega (arith, few-cells p c.requires))

pub order-requires-2 : goal.order-requires-2
order-requires-2 c =
    let p : ProblemModel = record {
      cols = c.args.cols;
      rows = c.args.rows;
      spacing = c.args.spacing;
      width = c.args.width;
      cells =
          c.args.cells;
    } in
    rw c.as_slice-4.ensures (omega (arith, few-cells p c.requires))

pub find_classes-requires : goal.find_classes-requires
find_classes-requires c = rw (c.as_slice-3.ensures, c.deref.ensures.value) (rw c.as_slice-2.ensures at c.in_ok-by_left.ensures)

pub invariant_of-result : goal.invariant_of-result
invariant_of-result c =
    let p : ProblemModel = record {
      cols = c.args.cols;
      rows = c.args.rows;
      spacing = c.args.spacing;
      width = c.args.width;
      cells =
          c.args.cells;
    } in
    let each = spans-found p c.requires c.in_ok-spans.spans.items (rw c.as_slice.ensures at c.in_ok-spans.ensures) in
    record {
      sound = c.requires;
      each_span = each;
      each_class = classes-found p c.in_ok-classes.classes.items
          (rw (
            c.as_slice-3.ensures,
            c.saturating_sub-page_room.ensures,
            c.deref-2.ensures.value,
            each,
          ) at c.in_ok-classes.ensures);
      columns = rw c.as_slice-2.ensures at c.in_ok-by_left.ensures;
      rows = rw c.as_slice-4.ensures at c.in_ok-by_top.ensures;
    }
