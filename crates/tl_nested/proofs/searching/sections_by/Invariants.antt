use Rattle.std.proofs.Common.{Some}
use Rattle.tl_form.specs.Subjects.{due_of, meant}
use Rattle.tl_nested.specs.Solved.{GivesOutcome}
use Rattle.tl_nested.specs.inner.SoFar.{AreSoFar, sections_left}
use Rattle.tl_nested.proofs.searching.sections_by.Given as goal

abbrev pub invariant-loop-sections : goal.invariant-loop-sections
invariant-loop-sections g l =
    AreSoFar (GivesOutcome g.F.Fn l.solve l.budget) (meant l.subject) l.budget l.sections (Some (due_of l.due))

abbrev pub decreases-loop-sections : goal.decreases-loop-sections
decreases-loop-sections g l = sections_left (meant l.subject) (Some (due_of l.due))
