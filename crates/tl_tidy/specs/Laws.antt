-- Laws of the definitions. Each is the contract of a function of `laws`.
use Rattle.std.specs.Prelude.{◌≡◌, ℕ, ◌-◌, ◌<◌, ◌^◌, List}
use Rattle.tl_problem.specs.declared.placed.Placed.{Placed}
use Rattle.tl_problem.specs.declared.zone.Range.{Range}
use Rattle.tl_problem.specs.Problem.{ProblemModel}
use Rattle.tl_problem.specs.Sound.{IsSound}
use Rattle.tl_problem.specs.Spans.{count_of}
use Rattle.tl_problem.specs.Zones.{IsZone, whole_zone}
use Rattle.tl_tidy.specs.Classes.{IsChosen}
use Rattle.tl_tidy.specs.Needs.{IsNeed}

-- each zone of a sound problem has a need
abbrev pub EachZoneHasNeed : Type 0
EachZoneHasNeed = (problem : ProblemModel) → IsSound problem → (height : ℕ) (zone : List Range) → IsZone problem zone →
    (need : ℕ) × IsNeed problem height zone need

-- and no two
abbrev pub NeedIsUnique : Type 0
NeedIsUnique = (problem : ProblemModel) → IsSound problem → (height : ℕ) (zone : List Range) (need other : ℕ) →
    IsNeed problem height zone need → IsNeed problem height zone other → need ≡ other

-- the need of the whole zone is below the number of class vectors, as far as this is counted
abbrev pub NeedIsBelowCount : Type 0
NeedIsBelowCount = (problem : ProblemModel) → IsSound problem → (height need : ℕ) →
    IsNeed problem height (whole_zone problem) need → need < 2 ^ 64 - 1 → need < count_of problem

-- a problem has one chosen placement at most
abbrev pub ChosenIsUnique : Type 0
ChosenIsUnique = (problem : ProblemModel) (height : ℕ) (placed other : Placed) →
    IsChosen problem height placed → IsChosen problem height other → placed ≡ other
