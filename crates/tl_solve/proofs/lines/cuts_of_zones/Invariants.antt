use Rattle.tl_solve.specs.CutsFound.{AreCutsOf}
use Rattle.tl_solve.proofs.lines.cuts_of_zones.Given as goal

abbrev pub invariant-loop-number : goal.invariant-loop-number
invariant-loop-number l = AreCutsOf l.trace l.number l.cuts.items
