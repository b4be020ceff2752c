use Rattle.std.proofs.Common.{take}
use Rattle.std.specs.List.{All}
use Rattle.tl_problem.specs.Works.{AreAllowed}
use Rattle.tl_cert.specs.Implied.{Implied}
use Rattle.tl_store.proofs.closing.are_implied.Given as goal

abbrev pub invariant-bounds : goal.invariant-bounds
invariant-bounds l = All (Implied l.problem (AreAllowed l.problem l.matrix.bounds)) (take l.bound-index l.bounds)
