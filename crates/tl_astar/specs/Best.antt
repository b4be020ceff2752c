-- What the best-first search promises besides what every search does: which zones it cuts, and its lower bound.
use Rattle.std.specs.Prelude.{◌≡◌, ℕ, ◌<◌, ◌≤◌, max, ◌⊎◌, List, length}
use Rattle.std.specs.List.{All}
use Rattle.tl_problem.specs.declared.placed.Placed.{Placed}
use Rattle.tl_problem.specs.declared.zone.Range.{Range}
use Rattle.tl_problem.specs.Problem.{ProblemModel}
use Rattle.tl_problem.specs.Agreement.{HasOneClass, LowIsHigh}
use Rattle.tl_problem.specs.Areas.{IsAreaBound}
use Rattle.tl_problem.specs.Placements.{IsOpening}
use Rattle.tl_problem.specs.Zones.{InZone}
use Rattle.tl_cert.specs.declared.trace.CutAt.{CutAt}
use Rattle.tl_cert.specs.Traces.{Stands, zone_of}
use Rattle.tl_cert.specs.Worked.{IsBoundOf, IsClosedZone}
use Rattle.tl_solve.specs.declared.outcome.Outcome.{Outcome}
use Rattle.tl_solve.specs.Arenas.{IsLowered}
use Rattle.tl_solve.specs.Logs.{HasAreaFrom}
use Rattle.tl_cert.specs.ZoneOrders.{AtEachCut}
use Rattle.tl_solve.specs.Orders.{CutsBelowPlacements, IsBelowPlacements}
use Rattle.tl_solve.specs.TraceLogs.{IsTraceLog}

-- ---- which zone is cut

-- each cell has the same steps by `low` and by `high`, those past the page too
abbrev pub HaveSameSteps : ProblemModel → Type 0
HaveSameSteps problem = All (λ cell. cell.low ≡ cell.high) problem.cells

-- the zone may still hold a layout that is lower: some span has more than one class and, if each cell has the same steps by
-- `low` and by `high`, the area bound is below the height
pub record MayBeLower (problem : ProblemModel) (zone : List Range) (height : ℕ) : Type 0 where
  pub classes : HasOneClass zone → ⊥
  pub area : HaveSameSteps problem → (bound : ℕ) × IsAreaBound problem (InZone problem zone) bound × (bound < height)

-- the zone that is cut has a bound that is at most that of each zone that stands then, has widths and may hold a layout
-- below the height
abbrev pub IsOfLeastBound : ProblemModel → ℕ → List CutAt → CutAt → Type 0
IsOfLeastBound problem height cuts cut = (bound : ℕ) × IsBoundOf problem cuts cut.zone bound
    × ((z other : ℕ) → Stands cuts z → IsBoundOf problem cuts z other → MayBeLower problem (zone_of problem cuts z) height →
    bound ≤ other)

-- each zone that was cut has a bound of at most `lower`
abbrev pub CutsUpTo : ProblemModel → List CutAt → ℕ → Type 0
CutsUpTo problem trace lower = All (λ cut. (bound : ℕ) × IsBoundOf problem trace cut.zone bound × (bound ≤ lower)) trace

-- the area bound of the zone with this number
abbrev pub IsAreaOf : ProblemModel → List CutAt → ℕ → ℕ → Type 0
IsAreaOf problem trace z area = IsAreaBound problem (InZone problem (zone_of problem trace z)) area

-- each zone that was cut had an area bound below the height of the placement in every zone that the trace had made by then
abbrev pub CutsBelowByArea : ProblemModel → List CutAt → Type 0
CutsBelowByArea problem trace =
    AtEachCut (λ cuts cut. (area : ℕ) × IsAreaOf problem cuts cut.zone area × IsBelowPlacements problem cuts area) trace

-- ---- when a search may end

-- the zone needs no cut: it is closed for the height or, if each cell has the same steps by `low` and by `high`, its area
-- bound is at least the height
abbrev pub IsShut : ProblemModel → List Range → ℕ → Type 0
IsShut problem zone height = IsClosedZone problem zone height ⊎ (HaveSameSteps problem × HasAreaFrom problem zone height)

-- no zone that stands needs a cut
abbrev pub AreShut : ProblemModel → List CutAt → ℕ → Type 0
AreShut problem trace height = (z : ℕ) → Stands trace z → IsShut problem (zone_of problem trace z) height

-- ---- the lower bound

-- `lower` is the least of the height and, over the zones that stand and have widths, of the greater of bound and area bound
pub record IsLeastProved (problem : ProblemModel) (trace : List CutAt) (height lower : ℕ) : Type 0 where
  pub at_most : lower ≤ height
  pub never_more : (z bound area : ℕ) → Stands trace z → IsBoundOf problem trace z bound → IsAreaOf problem trace z area →
      lower ≤ max bound area
  pub attained : (lower ≡ height) ⊎ ((z bound area : ℕ) × Stands trace z × IsBoundOf problem trace z bound
      × IsAreaOf problem trace z area × (lower ≡ max bound area))

-- ---- both

-- The search began with the opening, replaced it only by lower placements, and not at all for a budget of no cuts. Each
-- zone that it cut had the least bound of those that may hold a layout below the best, and a bound below the height of
-- the placement in every zone that was made by then; so was its area bound, if each cell has the same steps by `low` and
-- by `high`. Its lower bound is the least that the zones prove; if `low` is `high` on the page, no zone was cut whose bound
-- is above it. It ended with all cuts of its budget made, or with no zone that needs one. Its log is the one that is made
-- for its trace.
pub record IsBestOutcome (problem : ProblemModel) (budget : ℕ) (outcome : Outcome) : Type 0 where
  pub opening : (placed : Placed) × IsOpening problem placed × IsLowered placed outcome.best
  pub shown : budget ≡ 0 → IsOpening problem outcome.best
  pub order : AtEachCut (IsOfLeastBound problem outcome.best.height) outcome.trace
  pub below : CutsBelowPlacements problem outcome.trace
  pub below_by_area : HaveSameSteps problem → CutsBelowByArea problem outcome.trace
  pub lower : IsLeastProved problem outcome.trace outcome.best.height outcome.lower
  pub up_to : LowIsHigh problem → CutsUpTo problem outcome.trace outcome.lower
  pub ended : (length outcome.trace ≡ budget) ⊎ AreShut problem outcome.trace outcome.best.height
  pub log : IsTraceLog problem outcome.trace outcome.lower outcome.log
