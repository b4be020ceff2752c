-- What a zone that stands proves of a problem, so that a log can be made for its trace.
use Rattle.std.specs.Prelude.{ℕ, ◌≤◌, ◌⊎◌, List}
use Rattle.tl_problem.specs.declared.zone.Range.{Range}
use Rattle.tl_problem.specs.Problem.{ProblemModel}
use Rattle.tl_problem.specs.Zones.{InZone}
use Rattle.tl_problem.specs.Bounds.{HasNoWidths, IsBound}
use Rattle.tl_problem.specs.Areas.{IsAreaBound}

-- the bound of the zone is at least `lower`
abbrev pub HasBoundFrom : ProblemModel → List Range → ℕ → Type 0
HasBoundFrom problem zone lower = (bound : ℕ) × IsBound problem (InZone problem zone) bound × (lower ≤ bound)

-- the area bound of the zone is at least `lower`
abbrev pub HasAreaFrom : ProblemModel → List Range → ℕ → Type 0
HasAreaFrom problem zone lower = (bound : ℕ) × IsAreaBound problem (InZone problem zone) bound × (lower ≤ bound)

-- the zone proves `lower`: it has no widths, or a bound or an area bound of at least so many lines
abbrev pub Proves : ProblemModel → List Range → ℕ → Type 0
Proves problem zone lower = HasNoWidths (InZone problem zone) ⊎ (HasBoundFrom problem zone lower ⊎ HasAreaFrom problem zone lower)
