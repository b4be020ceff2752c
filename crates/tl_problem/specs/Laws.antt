-- Laws of the definitions, which searches and the checker rest on. Each is the contract of a function of `laws`.
use Rattle.std.specs.Prelude.{◌≡◌, ℕ, ◌<◌, ◌≤◌, ◌⊎◌, ◌↔◌, List, length}
use Rattle.tl_problem.specs.declared.placed.Placed.{Placed}
use Rattle.tl_problem.specs.declared.zone.Range.{Range}
use Rattle.tl_problem.specs.Problem.{ProblemModel, total_height}
use Rattle.tl_problem.specs.Layouts.{WithinPage, GiveHigh, IsLayoutByLow}
use Rattle.tl_problem.specs.Sound.{IsSound}
use Rattle.tl_problem.specs.Zones.{range_at, IsZone, whole_zone, lower_part, upper_part, InZone}
use Rattle.tl_problem.specs.Agreement.{HasOneClass, AgreeIn}
use Rattle.tl_problem.specs.Bounds.{IsBound}
use Rattle.tl_problem.specs.Areas.{IsAreaBound}
use Rattle.tl_problem.specs.declared.weighting.Weighting.{Weighting}
use Rattle.tl_problem.specs.Shares.{IsShareBound, IsWeighting}
use Rattle.tl_problem.specs.Placements.{AreLeast, IsPlacement}
use Rattle.tl_problem.specs.Tight.{IsTightFrom, IsTight}

-- no layout by `low` in a zone is lower than the zone's bound
abbrev pub BoundIsBelowLayouts : Type 0
BoundIsBelowLayouts = (problem : ProblemModel) → IsSound problem → (zone : List Range) (bound : ℕ) (widths heights : List ℕ) →
    IsBound problem (InZone problem zone) bound →
    InZone problem zone widths → IsLayoutByLow problem widths heights → bound ≤ total_height problem heights

-- no layout by `low` in a zone is lower than the zone's area bound
abbrev pub AreaBoundIsBelowLayouts : Type 0
AreaBoundIsBelowLayouts = (problem : ProblemModel) → IsSound problem → (zone : List Range) (bound : ℕ) (widths heights : List ℕ) →
    IsAreaBound problem (InZone problem zone) bound →
    InZone problem zone widths → IsLayoutByLow problem widths heights → bound ≤ total_height problem heights

-- no layout by `low` in a zone is lower than the zone's shared bound by a weighting
abbrev pub ShareBoundIsBelowLayouts : Type 0
ShareBoundIsBelowLayouts = (problem : ProblemModel) → IsSound problem → (weighting : Weighting) → IsWeighting problem weighting →
    (zone : List Range) (bound : ℕ) (widths heights : List ℕ) → IsShareBound problem weighting (InZone problem zone) bound →
    InZone problem zone widths → IsLayoutByLow problem widths heights → bound ≤ total_height problem heights

-- a zone whose widths lie in another has no lower shared bound by the same weighting
abbrev pub ShareBoundRises : Type 0
ShareBoundRises = (problem : ProblemModel) (weighting : Weighting) (zone part : List Range) →
    ((widths : List ℕ) → InZone problem part widths → InZone problem zone widths) → (low high : ℕ) →
    IsShareBound problem weighting (InZone problem zone) low → IsShareBound problem weighting (InZone problem part) high → low ≤ high

-- no placement in a zone is lower than the zone's bound
abbrev pub BoundIsBelowPlacements : Type 0
BoundIsBelowPlacements = (problem : ProblemModel) → IsSound problem → (zone : List Range) (bound : ℕ) (placed : Placed) →
    IsBound problem (InZone problem zone) bound →
    InZone problem zone placed.widths → IsPlacement problem placed → bound ≤ placed.height

-- in a zone of one class for each span, in which `low` is `high`, each layout of least heights is as high as the bound
abbrev pub OneClassIsExact : Type 0
OneClassIsExact = (problem : ProblemModel) → IsSound problem →
    (zone : List Range) → IsZone problem zone → HasOneClass zone → AgreeIn problem zone →
    (bound : ℕ) (widths heights : List ℕ) → IsBound problem (InZone problem zone) bound → InZone problem zone widths →
    AreLeast problem.spacing.row_gap (GiveHigh problem widths) heights → total_height problem heights ≡ bound

-- the whole is a zone with all widths within the page
abbrev pub WholeHasAll : Type 0
WholeHasAll = (problem : ProblemModel) → IsSound problem →
    IsZone problem (whole_zone problem) × ((widths : List ℕ) →
    WithinPage problem widths ↔ InZone problem (whole_zone problem) widths)

-- the parts of a cut are zones that have between them the widths of the cut zone, and none in common
pub record IsPartition (problem : ProblemModel) (zone low high : List Range) : Type 0 where
  pub lower : IsZone problem low
  pub upper : IsZone problem high
  pub either : (widths : List ℕ) → InZone problem zone widths ↔ (InZone problem low widths ⊎ InZone problem high widths)
  pub apart : (widths : List ℕ) → InZone problem low widths → InZone problem high widths → ⊥

-- a zone that is cut between two classes of its range of a span has its two parts for a partition
abbrev pub CutsArePartitions : Type 0
CutsArePartitions = (problem : ProblemModel) → IsSound problem → (zone : List Range) → IsZone problem zone →
    (s class : ℕ) → s < length zone → (range_at zone s).first ≤ class → class < (range_at zone s).last →
    IsPartition problem zone (lower_part zone s class) (upper_part zone s class)

-- making a placement tight makes it neither wider nor higher
abbrev pub TightRaisesNothing : Type 0
TightRaisesNothing = (problem : ProblemModel) (placed tight : Placed) →
    IsPlacement problem placed → IsTightFrom problem placed.widths tight →
    (tight.width ≤ placed.width) × (tight.height ≤ placed.height)

-- what is made tight is tight, and making it tight again gives it again
abbrev pub TightOnce : Type 0
TightOnce = (problem : ProblemModel) (widths : List ℕ) (tight : Placed) → IsTightFrom problem widths tight →
    IsTight problem tight × ((again : Placed) → IsTightFrom problem tight.widths again → again ≡ tight)
