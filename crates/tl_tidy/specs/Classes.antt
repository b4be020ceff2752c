-- The choice among the layouts that are low enough: the least class vector of one, read as words are in a dictionary, and
-- the tight placement of its least positions. So the choice depends on the problem and the height alone.
use Rattle.std.specs.Prelude.{◌≡◌, ℕ, ◌<◌, ◌≤◌, ◌⊎◌, List, map, get_or}
use Rattle.tl_problem.specs.declared.placed.Placed.{Placed}
use Rattle.tl_problem.specs.declared.zone.Range.{Range}
use Rattle.tl_problem.specs.Problem.{ProblemModel, total_height}
use Rattle.tl_problem.specs.Layouts.{IsLayoutByLow}
use Rattle.tl_problem.specs.Zones.{range, IsVector, InZone}
use Rattle.tl_problem.specs.Placements.{AreLeast}
use Rattle.tl_problem.specs.Tight.{IsTightFrom}

-- the set of widths has those of a layout by `low` that is no higher than `height`
pub record HoldsLow (problem : ProblemModel) (height : ℕ) (Among : List ℕ → Type 0) : Type 0 where
  pub widths : List ℕ
  pub heights : List ℕ
  pub among : Among widths
  pub layout : IsLayoutByLow problem widths heights
  pub low : total_height problem heights ≤ height

-- the zone of the widths that have this class vector: each span has its one class
abbrev pub zone_of_vector : List ℕ → List Range
zone_of_vector vector = map (λ class. range class class) vector

-- the class vector comes before another: at the first span where they differ it has the lower class
pub record IsBefore (vector other : List ℕ) : Type 0 where
  pub span : ℕ
  pub same : (s : ℕ) → s < span → get_or vector s 0 ≡ get_or other s 0
  pub less : get_or vector span 0 < get_or other span 0

-- a class vector of some layout by `low` that is no higher than `height`
pub record IsLowVector (problem : ProblemModel) (height : ℕ) (vector : List ℕ) : Type 0 where
  pub vectors : IsVector problem vector
  pub holds : HoldsLow problem height (InZone problem (zone_of_vector vector))

-- the chosen vector: of the class vectors of layouts that are low enough it comes first
pub record IsChosenVector (problem : ProblemModel) (height : ℕ) (vector : List ℕ) : Type 0 where
  pub low : IsLowVector problem height vector
  pub first : (other : List ℕ) → IsLowVector problem height other → (vector ≡ other) ⊎ IsBefore vector other

-- the chosen placement: that of the least positions which have the chosen vector, made tight
pub record IsChosen (problem : ProblemModel) (height : ℕ) (placed : Placed) : Type 0 where
  pub vector : List ℕ
  pub chosen : IsChosenVector problem height vector
  pub widths : List ℕ
  pub least : AreLeast problem.spacing.gap (InZone problem (zone_of_vector vector)) widths
  pub tight : IsTightFrom problem widths placed
