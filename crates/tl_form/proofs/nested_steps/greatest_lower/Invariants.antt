use Rattle.std.proofs.Common.{take}
use Rattle.tl_form.specs.inner.Collecting.{IsAsWideAs}
use Rattle.tl_form.proofs.BestOf.{BestMost}
use Rattle.tl_form.proofs.nested_steps.greatest_lower.Given as goal

abbrev pub invariant-loop-one : goal.invariant-loop-one
invariant-loop-one l = BestMost (IsAsWideAs l.w) (λ one. one.lower) (take l.one-index l.told) l.greatest
