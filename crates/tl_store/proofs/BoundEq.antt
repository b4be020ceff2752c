-- The test of two bounds says whether they are one.
use Rattle.std.proofs.Common.{rules, ◌≡◌}
use Rattle.std.specs.Bool.{Decides}
use Rattle.tl_cert.specs.declared.log.Bound.{Bound}
use Rattle.tl_cert.specs.contracts.log.BoundPartialEq.TheImpl.{ghosts}

pub bound_eq-decides : (a b : Bound) → Decides (ghosts.eq a b) (a ≡ b)
bound_eq-decides a b = search rules
