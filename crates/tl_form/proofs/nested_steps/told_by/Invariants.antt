use Rattle.std.proofs.Common.{◌≡◌, take}
use Rattle.tl_form.specs.inner.Collecting.{told_by}
use Rattle.tl_form.proofs.nested_steps.told_by.Given as goal

abbrev pub invariant-loop-section : goal.invariant-loop-section
invariant-loop-section l = l.told.items ≡ told_by l.style l.number (take l.section-index l.sections)
