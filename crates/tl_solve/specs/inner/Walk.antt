-- What the plain search keeps on its way. No public clause cites this file.
use Rattle.std.specs.Prelude.{◌≢◌, ℕ, ◌⊎◌, List}
use Rattle.std.specs.List.{All, AllPairs, Contains}
use Rattle.tl_problem.specs.Problem.{ProblemModel}
use Rattle.tl_cert.specs.declared.trace.CutAt.{CutAt}
use Rattle.tl_cert.specs.Traces.{Stands, zone_of}
use Rattle.tl_cert.specs.Worked.{IsClosedZone}
use Rattle.tl_cert.specs.ZoneOrders.{ZoneComesBefore}
use Rattle.tl_solve.specs.Orders.{CutsFirstSpans, CutsBelowPlacements, Follows, IsInClassOrder}

-- The zones on the stack, the last of which is cut next: they stand, and each comes before those under it and follows all
-- that were cut. The other zones that stand are closed for the height.
pub record IsStack (problem : ProblemModel) (trace : List CutAt) (height : ℕ) (stack : List ℕ) : Type 0 where
  pub standing : All (Stands trace) stack
  pub apart : AllPairs (λ under over. (over ≢ under) × ZoneComesBefore trace over under) stack
  pub follow : All (λ z. All (λ cut. Follows trace cut.zone z) trace) stack
  pub closed : (z : ℕ) → Stands trace z → Contains stack z ⊎ IsClosedZone problem (zone_of problem trace z) height

-- the cuts so far keep the order of the plain search
pub record KeepsClassOrder (problem : ProblemModel) (trace : List CutAt) : Type 0 where
  pub spans : CutsFirstSpans problem trace
  pub below : CutsBelowPlacements problem trace
  pub order : IsInClassOrder trace
