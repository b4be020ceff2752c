use Rattle.tl_solve.specs.inner.Shapes.{AreLinesOf}
use Rattle.tl_solve.proofs.log.lines_of_zones.Given as goal

abbrev pub invariant-loop-number : goal.invariant-loop-number
invariant-loop-number l = AreLinesOf l.last l.cuts l.bounds l.lower l.number l.log
