use Rattle.std.proofs.Common.{take}
use Rattle.tl_form.specs.inner.Collecting.{IsPlacedIn}
use Rattle.tl_form.proofs.BestOf.{BestFewest}
use Rattle.tl_form.proofs.nested_steps.least_height.Given as goal

abbrev pub invariant-loop-one : goal.invariant-loop-one
invariant-loop-one l = BestFewest (IsPlacedIn l.w) (λ one. one.height) (take l.one-index l.told) l.least
