use Rattle.std.specs.List.{All}
use Rattle.tl_form.specs.Expected.{least_of}
use Rattle.tl_form.specs.Subjects.{meant}
use Rattle.tl_nested.specs.Solved.{GivesOutcome}
use Rattle.tl_nested.specs.inner.Found.{IsFoundFor, MayBeSearchedNext, widths_left}
use Rattle.tl_nested.proofs.found.table_sections.Given as goal

abbrev pub invariant-loop-width : goal.invariant-loop-width
invariant-loop-width g l =
    All (IsFoundFor (GivesOutcome g.F.Fn l.solve l.budget) (meant l.subject) l.budget l.told l.number) l.sections
    × MayBeSearchedNext (least_of (meant l.subject) l.number) l.subject.page l.width

abbrev pub decreases-loop-width : goal.decreases-loop-width
decreases-loop-width g l = widths_left l.width
