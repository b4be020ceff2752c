use Rattle.tl_problem.specs.inner.Spanning.{AreClasses}
use Rattle.tl_problem.proofs.spans.find_classes.Given as goal

abbrev pub invariant-loop-span : goal.invariant-loop-span
invariant-loop-span l = AreClasses l.cells l.page_room l.spans l.span-index l.classes.items
