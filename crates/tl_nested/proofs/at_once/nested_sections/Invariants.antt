use Rattle.std.proofs.Common.{◌-◌}
use Rattle.tl_form.specs.Subjects.{meant}
use Rattle.tl_nested.specs.Solved.{GivesOutcome}
use Rattle.tl_nested.specs.inner.Found.{AreTold}
use Rattle.tl_nested.proofs.at_once.nested_sections.Given as goal

abbrev pub invariant-loop-up : goal.invariant-loop-up
invariant-loop-up g l =
    AreTold (GivesOutcome g.F.Fn l.solve l.budget) (meant l.subject) l.budget l.depths.items (l.most - l.up) l.told
