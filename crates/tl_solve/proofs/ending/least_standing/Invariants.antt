use Rattle.tl_solve.specs.Ends.{IsLeastUpto}
use Rattle.tl_solve.proofs.ending.least_standing.Given as goal

abbrev pub invariant-loop-zone : goal.invariant-loop-zone
invariant-loop-zone l = IsLeastUpto l.closers l.bounds l.height l.zone l.least
