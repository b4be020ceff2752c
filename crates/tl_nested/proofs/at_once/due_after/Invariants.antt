use Rattle.std.proofs.Common.{◌≡◌, Some, take}
use Rattle.tl_form.specs.Expected.{due_after, AreDueInOrder}
use Rattle.tl_form.specs.Subjects.{due_of, meant}
use Rattle.tl_nested.proofs.at_once.due_after.Given as goal

abbrev pub invariant-loop-section : goal.invariant-loop-section
invariant-loop-section l = AreDueInOrder (meant l.subject) l.sections l.section-index
    × (due_after (meant l.subject) (take l.section-index l.sections) ≡ Some (due_of l.due))
