-- When a trace was worked for a budget: the search ended at the budget, or with each zone closed.
use Rattle.std.specs.Prelude.{◌≡◌, ℕ, ◌<◌, ◌≤◌, ◌⊎◌, List, length}
use Rattle.std.specs.List.{All}
use Rattle.tl_problem.specs.declared.placed.Placed.{Placed}
use Rattle.tl_problem.specs.declared.zone.Range.{Range}
use Rattle.tl_problem.specs.Problem.{ProblemModel}
use Rattle.tl_problem.specs.Zones.{InZone}
use Rattle.tl_problem.specs.Agreement.{HasOneClass, DifferIn}
use Rattle.tl_problem.specs.Bounds.{HasNoWidths, IsBound}
use Rattle.tl_problem.specs.Placements.{IsOpening}
use Rattle.tl_cert.specs.declared.trace.CutAt.{CutAt}
use Rattle.tl_cert.specs.Traces.{Stands, IsTraceOf, zone_of}

-- the zone is closed for a height: it has no widths, or a bound of at least the height, or one class for each span while
-- `low` and `high` of some cell differ there
abbrev pub IsClosedZone : ProblemModel → List Range → ℕ → Type 0
IsClosedZone problem zone height =
    HasNoWidths (InZone problem zone)
    ⊎ (((bound : ℕ) × IsBound problem (InZone problem zone) bound × (height ≤ bound)) ⊎
    (HasOneClass zone × DifferIn problem zone))

-- the bound of the zone with this number
abbrev pub IsBoundOf : ProblemModel → List CutAt → ℕ → ℕ → Type 0
IsBoundOf problem trace z bound = IsBound problem (InZone problem (zone_of problem trace z)) bound

-- a trace that ended with `lower` below the height: each cut zone had a bound below the opening's height; `lower` is at
-- least the bound of some zone that stands, and so at least the least of these bounds; and the cuts are as many as the
-- budget, or each zone that stands is closed
pub record IsWorkedBelow (problem : ProblemModel) (trace : List CutAt) (height lower budget : ℕ) : Type 0 where
  pub opening : Placed
  pub is_opening : IsOpening problem opening
  pub cut_zones : All (λ cut. (bound : ℕ) × IsBoundOf problem trace cut.zone bound × (bound < opening.height)) trace
  pub enough : (z bound : ℕ) × Stands trace z × IsBoundOf problem trace z bound × (bound ≤ lower)
  pub ended : (length trace ≡ budget) ⊎ ((z : ℕ) → Stands trace z → IsClosedZone problem (zone_of problem trace z) height)

-- the trace, with this height and this lower bound, was worked for the budget
pub record IsWorked (problem : ProblemModel) (trace : List CutAt) (height lower budget : ℕ) : Type 0 where
  pub trace_of : IsTraceOf problem trace
  pub within : length trace ≤ budget
  pub ordered : lower ≤ height
  pub below : lower < height → IsWorkedBelow problem trace height lower budget
