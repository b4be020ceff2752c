-- What the walk over the zones keeps on its way; no public clause cites this file.
use Rattle.std.specs.Prelude.{◌≡◌, ℕ, ◌+◌, ◌⊎◌, ⊤, List, [], ◌∷◌}
use Rattle.tl_problem.specs.declared.zone.Range.{Range}
use Rattle.tl_problem.specs.Problem.{ProblemModel}
use Rattle.tl_problem.specs.Zones.{IsZone, whole_zone, HasVector}
use Rattle.tl_tidy.specs.Classes.{IsBefore, IsLowVector}
use Rattle.tl_tidy.specs.Needs.{ZoneHoldsLow, IsNeed}

-- no layout in the zone is low enough
abbrev pub HoldsNone : ProblemModel → ℕ → List Range → Type 0
HoldsNone problem height zone = ZoneHoldsLow problem height zone → ⊥

-- of the class vectors in the zone which a layout has that is low enough, this one comes first
pub record IsFirstIn (problem : ProblemModel) (height : ℕ) (zone : List Range) (vector : List ℕ) : Type 0 where
  pub inside : HasVector zone vector
  pub low : IsLowVector problem height vector
  pub first : (other : List ℕ) → HasVector zone other → IsLowVector problem height other →
      (vector ≡ other) ⊎ IsBefore vector other

-- it is the first in the first of the zones that holds one
abbrev pub IsFirstOf : ProblemModel → ℕ → List (List Range) → List ℕ → Type 0
IsFirstOf problem height [] vector = ⊥
IsFirstOf problem height (zone ∷ zones) vector =
    IsFirstIn problem height zone vector ⊎ (HoldsNone problem height zone × IsFirstOf problem height zones vector)

-- so many cuts are needed for the zones, one after the other, up to the first that holds a layout that is low enough
abbrev pub AreNeeds : ProblemModel → ℕ → List (List Range) → ℕ → Type 0
AreNeeds problem height [] need = need ≡ 0
AreNeeds problem height (zone ∷ zones) need =
    (own : ℕ) × IsNeed problem height zone own × (ZoneHoldsLow problem height zone × (need ≡ own)
    ⊎ (HoldsNone problem height zone × ((later : ℕ) × AreNeeds problem height zones later × (need ≡ own + later))))

abbrev pub AllHoldNone : ProblemModel → ℕ → List (List Range) → Type 0
AllHoldNone problem height [] = ⊤
AllHoldNone problem height (zone ∷ zones) = HoldsNone problem height zone × AllHoldNone problem height zones

abbrev pub AreZones : ProblemModel → List (List Range) → Type 0
AreZones problem [] = ⊤
AreZones problem (zone ∷ zones) = IsZone problem zone × AreZones problem zones

-- the zones that are left after so many cuts, the next one first: what is so of them is so of the whole
pub record IsLeft (problem : ProblemModel) (height cuts : ℕ) (zones : List (List Range)) : Type 0 where
  pub are : AreZones problem zones
  pub choice : (vector : List ℕ) → IsFirstOf problem height zones vector → IsFirstIn problem height (whole_zone problem) vector
  pub needs : (need : ℕ) → AreNeeds problem height zones need → IsNeed problem height (whole_zone problem) (cuts + need)
  pub none : AllHoldNone problem height zones → HoldsNone problem height (whole_zone problem)
