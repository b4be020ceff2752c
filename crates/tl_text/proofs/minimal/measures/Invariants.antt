use Rattle.std.proofs.Common.{◌≡◌, map, take}
use Rattle.tl_text.specs.inner.Measure.{measure_of}
use Rattle.tl_text.proofs.minimal.measures.Given as goal

-- the atoms so far are measured
abbrev pub invariant-loop-atom : goal.invariant-loop-atom
invariant-loop-atom l = l.list ≡ map measure_of (take l.atom-index l.atoms)
