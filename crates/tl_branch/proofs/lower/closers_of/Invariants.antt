use Rattle.tl_branch.specs.inner.Opens.{AreClosers}
use Rattle.tl_branch.proofs.lower.closers_of.Given as goal

abbrev pub invariant-loop-zone : goal.invariant-loop-zone
invariant-loop-zone l = AreClosers l.cuts l.lines l.zone l.closers.items
