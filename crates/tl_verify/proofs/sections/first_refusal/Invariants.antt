use Rattle.std.proofs.Common.{length}
use Rattle.tl_verify.specs.inner.Sections.{AreNoErrors}
use Rattle.tl_verify.proofs.sections.first_refusal.Given as goal

abbrev pub invariant-loop-one : goal.invariant-loop-one
invariant-loop-one l = AreNoErrors l.yielded (length l.yielded)
