-- What the best-first search keeps on its way. No public clause cites this file.
use Rattle.std.specs.Prelude.{◌≢◌, ℕ, ◌<◌, ◌≤◌, ◌⊎◌, List, length}
use Rattle.std.specs.List.{All, AllPairs, Contains}
use Rattle.tl_problem.specs.declared.zone.Range.{Range}
use Rattle.tl_problem.specs.Problem.{ProblemModel}
use Rattle.tl_problem.specs.Zones.{range_at}
use Rattle.tl_problem.specs.Agreement.{LowIsHigh}
use Rattle.tl_cert.specs.declared.trace.CutAt.{CutAt}
use Rattle.tl_cert.specs.Traces.{Stands, zone_of}
use Rattle.tl_cert.specs.Worked.{IsBoundOf}
use Rattle.tl_solve.specs.Logs.{Proves}
use Rattle.tl_cert.specs.ZoneOrders.{AtEachCut}
use Rattle.tl_solve.specs.Arenas.{HasBoundBelow}
use Rattle.tl_solve.specs.Orders.{CutsBelowPlacements, IsFirstCut}
use Rattle.tl_astar.specs.Best.{CutsBelowByArea, HaveSameSteps, IsAreaOf, IsOfLeastBound, IsShut}

-- the number is at most the bound of each of these zones that has one
abbrev pub IsUnderBounds : ProblemModel → List CutAt → ℕ → List ℕ → Type 0
IsUnderBounds problem trace bound zones = All (λ z. (other : ℕ) → IsBoundOf problem trace z other → bound ≤ other) zones

-- the zones that may still be cut: they stand, each is there once, and all other zones that stand are shut. The zones
-- that were cut had lower bounds, or the same
pub record IsFrontier (problem : ProblemModel) (trace : List CutAt) (height : ℕ) (zones : List ℕ) : Type 0 where
  pub standing : All (Stands trace) zones
  pub once : AllPairs (λ a b. a ≢ b) zones
  pub others : (z : ℕ) → Stands trace z → Contains zones z ⊎ IsShut problem (zone_of problem trace z) height
  pub rising : All (λ cut. (bound : ℕ) → IsBoundOf problem trace cut.zone bound → IsUnderBounds problem trace bound zones) trace

-- the zone with this number has an area bound below the height
abbrev pub HasAreaBelow : ProblemModel → List CutAt → ℕ → ℕ → Type 0
HasAreaBelow problem trace z height = (area : ℕ) × IsAreaOf problem trace z area × (area < height)

-- the first cut of a zone that needs one for a best placement of this height: its bound is below the height and, if each
-- cell has the same steps by `low` and by `high`, its area bound too
pub record IsNeededCut (problem : ProblemModel) (trace : List CutAt) (height : ℕ) (cut : CutAt) : Type 0 where
  pub first : IsFirstCut (zone_of problem trace cut.zone) cut
  pub below : HasBoundBelow problem trace cut.zone height
  pub below_by_area : HaveSameSteps problem → HasAreaBelow problem trace cut.zone height

-- each zone that stands proves the bound that the cut zone has
abbrev pub IsCutProved : ProblemModel → List CutAt → CutAt → Type 0
IsCutProved problem trace cut = (bound : ℕ) × IsBoundOf problem trace cut.zone bound
    × ((z : ℕ) → Stands trace z → Proves problem (zone_of problem trace z) bound)

-- the cuts so far keep the order of the best-first search, for a best placement of this height
pub record KeepsBoundOrder (problem : ProblemModel) (trace : List CutAt) (height : ℕ) : Type 0 where
  pub order : AtEachCut (IsOfLeastBound problem height) trace
  pub below : CutsBelowPlacements problem trace
  pub below_by_area : HaveSameSteps problem → CutsBelowByArea problem trace
  pub proved : LowIsHigh problem → All (IsCutProved problem trace) trace

-- the cut splits the range of a span of the zone in two that have classes
abbrev pub PartsRange : List Range → CutAt → Type 0
PartsRange zone cut = (cut.span < length zone) × ((range_at zone cut.span).first ≤ cut.class) ×
    (cut.class < (range_at zone cut.span).last)
