use Rattle.std.proofs.Common.{◌≡◌, drop}
use Rattle.tl_form.specs.Problems.{steps_for}
use Rattle.tl_form.proofs.heights.has_steps.Given as goal

-- the table has not come yet
abbrev pub invariant-loop-one : goal.invariant-loop-one
invariant-loop-one l = steps_for l.inner l.number ≡ steps_for (drop l.one-index l.inner) l.number
