-- In which order a search cuts the zones of a problem, and where it cuts them.
use Rattle.std.specs.Prelude.{◌≡◌, ℕ, ◌<◌, ◌⊎◌, List}
use Rattle.std.specs.List.{AllPairs}
use Rattle.tl_problem.specs.declared.placed.Placed.{Placed}
use Rattle.tl_problem.specs.declared.zone.Range.{Range}
use Rattle.tl_problem.specs.Problem.{ProblemModel}
use Rattle.tl_problem.specs.Zones.{range_at, InZone, IsFirstOpen}
use Rattle.tl_problem.specs.Placements.{IsPlacementIn}
use Rattle.tl_cert.specs.declared.trace.CutAt.{CutAt}
use Rattle.tl_cert.specs.Traces.{IsZoneOf, zone_of}
use Rattle.tl_cert.specs.ZoneOrders.{AtEachCut, ComesFrom, ZoneComesBefore}
use Rattle.tl_cert.specs.Worked.{IsBoundOf}

-- ---- where a zone is cut

-- the cut is of the first span of more than one class, after the first of its classes
pub record IsFirstCut (zone : List Range) (cut : CutAt) : Type 0 where
  pub span : IsFirstOpen zone cut.span
  pub class : cut.class ≡ (range_at zone cut.span).first

-- each zone was cut there
abbrev pub CutsFirstSpans : ProblemModel → List CutAt → Type 0
CutsFirstSpans problem trace = AtEachCut (λ cuts cut. IsFirstCut (zone_of problem cuts cut.zone) cut) trace

-- ---- which zones are cut

-- the height is below that of the placement in each zone of the trace that has one
abbrev pub IsBelowPlacements : ProblemModel → List CutAt → ℕ → Type 0
IsBelowPlacements problem trace height = (z : ℕ) (placed : Placed) → IsZoneOf trace z →
    IsPlacementIn problem (InZone problem (zone_of problem trace z)) placed → height < placed.height

-- each zone that was cut had a bound below the height of the placement in every zone that the trace had made by then
abbrev pub CutsBelowPlacements : ProblemModel → List CutAt → Type 0
CutsBelowPlacements problem trace =
    AtEachCut (λ cuts cut. (bound : ℕ) × IsBoundOf problem cuts cut.zone bound × IsBelowPlacements problem cuts bound) trace

-- ---- in which order

-- zone `b` follows zone `a` in the order of classes: it comes from it, or `a` comes before it
abbrev pub Follows : List CutAt → ℕ → ℕ → Type 0
Follows trace a b = ComesFrom trace a b ⊎ ZoneComesBefore trace a b

-- each zone that was cut follows those that were cut before it: the lower part of a cut is cut, with all that comes from it,
-- before the upper part
abbrev pub IsInClassOrder : List CutAt → Type 0
IsInClassOrder trace = AllPairs (λ first second. Follows trace first.zone second.zone) trace
