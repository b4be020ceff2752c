-- How many cuts show which layout is the chosen one: the need of a zone. A zone is cut at its first span of more than one
-- class, after the first of them; where the lower part holds a layout that is low enough, the upper part is not looked at.
use Rattle.std.specs.Prelude.{ℕ, ◌+◌, ◌<◌, ◌≤◌, ◌⊎◌, List}
use Rattle.tl_problem.specs.declared.zone.Range.{Range}
use Rattle.tl_problem.specs.Problem.{ProblemModel}
use Rattle.tl_problem.specs.Zones.{range_at, whole_zone, lower_part, upper_part, InZone, IsFirstOpen}
use Rattle.tl_problem.specs.Agreement.{HasOneClass}
use Rattle.tl_problem.specs.Bounds.{HasNoWidths, IsBound}
use Rattle.tl_tidy.specs.Classes.{HoldsLow}

-- the two parts of the zone, cut at a span after the first class of its range
abbrev pub first_part : List Range → ℕ → List Range
first_part zone s = lower_part zone s (range_at zone s).first

abbrev pub rest_part : List Range → ℕ → List Range
rest_part zone s = upper_part zone s (range_at zone s).first

-- the zone has widths, and a bound of at most the height
abbrev pub HasLowBound : ProblemModel → ℕ → List Range → Type 0
HasLowBound problem height zone = (bound : ℕ) × IsBound problem (InZone problem zone) bound × (bound ≤ height)

-- the zone has no widths, or a bound above the height
abbrev pub IsTooHigh : ProblemModel → ℕ → List Range → Type 0
IsTooHigh problem height zone =
    HasNoWidths (InZone problem zone) ⊎ ((bound : ℕ) × IsBound problem (InZone problem zone) bound × (height < bound))

-- some layout in the zone is low enough
abbrev pub ZoneHoldsLow : ProblemModel → ℕ → List Range → Type 0
ZoneHoldsLow problem height zone = HoldsLow problem height (InZone problem zone)

-- the need of a zone: none where the bound shows that it holds no layout that is low enough, or it has one class for each
-- span; else one cut, and the need of its lower part, and that of the upper part if the lower one holds no such layout
pub data IsNeed (problem : ProblemModel) (height : ℕ) : List Range → ℕ → Type 0 where
  too_high : {zone : List Range} → IsTooHigh problem height zone → IsNeed problem height zone 0
  one_class : {zone : List Range} → HasOneClass zone → IsNeed problem height zone 0
  lower : {zone : List Range} {n : ℕ} → (s : ℕ) → HasLowBound problem height zone → IsFirstOpen zone s →
      ZoneHoldsLow problem height (first_part zone s) →
      IsNeed problem height (first_part zone s) n → IsNeed problem height zone (1 + n)
  both : {zone : List Range} {n m : ℕ} → (s : ℕ) → HasLowBound problem height zone → IsFirstOpen zone s →
      (ZoneHoldsLow problem height (first_part zone s) → ⊥) →
      IsNeed problem height (first_part zone s) n →
      IsNeed problem height (rest_part zone s) m → IsNeed problem height zone (1 + n + m)

-- the need of the whole zone is at most this number, or above it
abbrev pub IsNeedWithin : ProblemModel → ℕ → ℕ → Type 0
IsNeedWithin problem height quota = (need : ℕ) × IsNeed problem height (whole_zone problem) need × (need ≤ quota)

abbrev pub IsNeedAbove : ProblemModel → ℕ → ℕ → Type 0
IsNeedAbove problem height quota = (need : ℕ) × IsNeed problem height (whole_zone problem) need × (quota < need)
