-- What the arena of a search keeps of a problem: the trace so far, its zones and their bounds, and the best placement.
use Rattle.std.specs.Prelude.{◌≡◌, ℕ, ◌+◌, ◌*◌, ◌<◌, ◌≤◌, ◌⊎◌, List, length, get_or, Option, MatchOption}
use Rattle.std.specs.List.{All}
use Rattle.tl_base.specs.declared.limits.TheConstants.{MAX_BUDGET}
use Rattle.tl_problem.specs.declared.placed.Placed.{Placed}
use Rattle.tl_problem.specs.declared.zone.Range.{Range}
use Rattle.tl_problem.specs.Problem.{ProblemModel}
use Rattle.tl_problem.specs.Zones.{whole_zone, InZone}
use Rattle.tl_problem.specs.Bounds.{HasNoWidths, IsBound}
use Rattle.tl_problem.specs.Placements.{AreLeast, HasNoLower, IsOpening}
use Rattle.tl_problem.specs.Tight.{IsTight}
use Rattle.tl_problem.specs.Works.{IsWorkOf}
use Rattle.tl_cert.specs.declared.trace.CutAt.{CutAt}
use Rattle.tl_cert.specs.Traces.{zones_of, zone_of, IsZoneOf, IsTraceOf}
use Rattle.tl_cert.specs.Worked.{IsBoundOf}
use Rattle.tl_solve.specs.declared.arena.Arena.{Arena}

-- the bound of a zone, none where it has no widths
abbrev pub IsBoundFound : ProblemModel → List Range → Option ℕ → Type 0
IsBoundFound problem zone found = MatchOption found (HasNoWidths (InZone problem zone)) (IsBound problem (InZone problem zone))

-- the bounds of the zones of a trace, by their numbers
pub record AreBoundsOf (problem : ProblemModel) (trace : List CutAt) (bounds : List (Option ℕ)) : Type 0 where
  pub count : length bounds ≡ 2 * length trace + 1
  pub each : (z : ℕ) (d : Option ℕ) → z < length bounds → IsBoundFound problem (zone_of problem trace z) (get_or bounds z d)

-- the zone with this number has a bound below the height
abbrev pub HasBoundBelow : ProblemModel → List CutAt → ℕ → ℕ → Type 0
HasBoundBelow problem trace z height = (bound : ℕ) × IsBoundOf problem trace z bound × (bound < height)

-- the zone was looked at for a placement that is lower: it has no widths, or a bound of at least the height, or no rows are
-- lower under the widths at its least positions
abbrev pub IsLookedAt : ProblemModel → List Range → ℕ → Type 0
IsLookedAt problem zone height =
    HasNoWidths (InZone problem zone)
    ⊎ (((bound : ℕ) × IsBound problem (InZone problem zone) bound × (height ≤ bound))
    ⊎ ((widths : List ℕ) × AreLeast problem.spacing.gap (InZone problem zone) widths × HasNoLower problem widths height))

-- of these widths it is known that no rows are lower under them, if the zone has a bound below the height
abbrev pub IsKnownFor : ProblemModel → List Range → List ℕ → ℕ → Type 0
IsKnownFor problem zone widths height = (bound : ℕ) → IsBound problem (InZone problem zone) bound → bound < height →
    HasNoLower problem widths height

-- a placement is kept, or replaced by a lower one
abbrev pub IsLowered : Placed → Placed → Type 0
IsLowered old new = (new ≡ old) ⊎ (new.height < old.height)

-- the opening, which has this height, or a placement that is lower
abbrev pub IsOpeningOrLower : ProblemModel → ℕ → Placed → Type 0
IsOpeningOrLower problem height best = (opening : Placed) × IsOpening problem opening × (opening.height ≡ height) ×
    IsLowered opening best

-- the arena is one of this problem: its zones and bounds are those of its trace, each cut zone had a bound below the
-- height of the opening, and the best placement is tight, and each zone was looked at for a lower one
pub record IsArenaOf (problem : ProblemModel) (arena : Arena) : Type 0 where
  pub work : IsWorkOf problem arena.work
  pub trace_of : IsTraceOf problem arena.trace
  pub few : length arena.trace ≤ MAX_BUDGET
  pub zones : arena.zones.items ≡ zones_of (whole_zone problem) arena.trace
  pub bounds : AreBoundsOf problem arena.trace arena.bounds.items
  pub cut_zones : All (λ cut. HasBoundBelow problem arena.trace cut.zone arena.opening) arena.trace
  pub opening : IsOpeningOrLower problem arena.opening arena.best
  pub tight : IsTight problem arena.best
  pub looked : (z : ℕ) → IsZoneOf arena.trace z → IsLookedAt problem (zone_of problem arena.trace z) arena.best.height
