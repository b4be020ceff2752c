-- Traces: lists of cuts of zones, and the zones that they make. Zones go by number: 0 is the whole, and cut `i`, counted
-- from 0, makes the zones `2i + 1` and `2i + 2` of the zone that it cuts. A zone that no cut names stands.
use Rattle.std.specs.Prelude.{◌≢◌, ℕ, ◌+◌, ◌*◌, ◌<◌, ◌≤◌, List, [], ◌∷◌, ◌++◌, length, get_or, take}
use Rattle.std.specs.List.{All}
use Rattle.tl_problem.specs.declared.placed.Placed.{Placed}
use Rattle.tl_problem.specs.declared.zone.Range.{Range}
use Rattle.tl_problem.specs.Problem.{ProblemModel}
use Rattle.tl_problem.specs.Zones.{range_at, whole_zone, lower_part, upper_part, InZone}
use Rattle.tl_problem.specs.Placements.{IsPlacementIn}
use Rattle.tl_cert.specs.declared.trace.CutAt.{CutAt}

-- the zones with the two parts of a cut one after them
abbrev pub with_parts : List (List Range) → CutAt → List (List Range)
with_parts zones cut =
    let zone = get_or zones cut.zone [] in
    zones ++ lower_part zone cut.span cut.class ∷ upper_part zone cut.span cut.class ∷ []

-- the zones once these cuts are made
abbrev pub zones_after : List (List Range) → List CutAt → List (List Range)
zones_after zones [] = zones
zones_after zones (cut ∷ cuts) = zones_after (with_parts zones cut) cuts

-- the zones of a trace, by their numbers: the whole, and the parts of each cut
abbrev pub zones_of : List Range → List CutAt → List (List Range)
zones_of whole trace = zones_after (whole ∷ []) trace

-- the zone of a trace with this number
abbrev pub zone_at : List Range → List CutAt → ℕ → List Range
zone_at whole trace z = get_or (zones_of whole trace) z []

-- the zone with this number is there
abbrev pub IsZoneOf : List CutAt → ℕ → Type 0
IsZoneOf trace z = z < 2 * length trace + 1

-- the zone is there and not cut
pub record Stands (trace : List CutAt) (z : ℕ) : Type 0 where
  pub there : IsZoneOf trace z
  pub not_cut : All (λ cut. cut.zone ≢ z) trace

-- after these cuts, the cut is of a zone that stands, and splits the range of a span in two that have classes
pub record IsCut (whole : List Range) (cuts : List CutAt) (cut : CutAt) : Type 0 where
  pub stands : Stands cuts cut.zone
  pub span : cut.span < length whole
  pub lower : (range_at (zone_at whole cuts cut.zone) cut.span).first ≤ cut.class
  pub upper : cut.class < (range_at (zone_at whole cuts cut.zone) cut.span).last

-- a trace: each cut is one after those before it
abbrev pub IsTrace : List Range → List CutAt → Type 0
IsTrace whole trace = (i : ℕ) (d : CutAt) → i < length trace → IsCut whole (take i trace) (get_or trace i d)

-- a trace of the problem, from the whole of it
abbrev pub IsTraceOf : ProblemModel → List CutAt → Type 0
IsTraceOf problem trace = IsTrace (whole_zone problem) trace

-- the zone with this number of a trace of the problem
abbrev pub zone_of : ProblemModel → List CutAt → ℕ → List Range
zone_of problem trace z = zone_at (whole_zone problem) trace z

-- the height is at most that of the placement in each zone of the trace, cut or not, that has one
abbrev pub IsKeen : ProblemModel → List Range → List CutAt → ℕ → Type 0
IsKeen problem whole trace height = (z : ℕ) (placed : Placed) → IsZoneOf trace z →
    IsPlacementIn problem (InZone problem (zone_at whole trace z)) placed → height ≤ placed.height
