use Rattle.tl_problem.proofs.SpanningLemmas.{AreClasses-push, turns-at}
use Rattle.tl_problem.proofs.spans.find_classes.Goals as goal

pub first_widths-requires : goal.first_widths-requires
first_widths-requires c = turns-at c.args.cells.now c.args.by_left.now c.beginning_in-turns.result.now _ c.requires
    c.beginning_in-turns.ensures

pub loop-span-preserved : goal.loop-span-preserved
loop-span-preserved c =
    rw c.in_ok-push.ensures.items (AreClasses-push c.args.cells.now c.args.page_room c.args.spans.now c.loop-span.span-index
    c.loop-span.classes.items
    c.in_ok-first_widths.field-0 c.loop-span.invariant c.in_ok-first_widths.ensures)
