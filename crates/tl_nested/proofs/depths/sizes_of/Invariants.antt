use Rattle.tl_form.specs.Subjects.{meant}
use Rattle.tl_nested.specs.inner.Depths.{AreSizes}
use Rattle.tl_nested.proofs.depths.sizes_of.Given as goal

abbrev pub invariant-loop-k : goal.invariant-loop-k
invariant-loop-k l = AreSizes (meant l.subject) l.sizes.items l.k
