-- How the steps of nested tables are collected. No public clause cites this file.
use Rattle.std.specs.Prelude.{◌≡◌, ℕ, ◌-◌, ◌^◌, ◌<◌, ◌≤◌, nat_lt, Bool, true, ◌==◌, if◌then◌else◌, List, [], ◌∷◌, ◌++◌, length}
use Rattle.std.specs.Prelude.{map, filter}
use Rattle.std.specs.Prelude.{slice_get, max, min, Option, None, Some}
use Rattle.std.specs.List.{All, AllPairs, AllZip, Any}
use Rattle.tl_base.specs.declared.steps.Config.{Config}
use Rattle.tl_base.specs.declared.style.Style.{Style}
use Rattle.tl_base.specs.Steps.{first_width, height_at}
use Rattle.tl_cert.specs.declared.section.Section.{Section}
use Rattle.tl_table.specs.declared.cell.Table.{Table}
use Rattle.tl_form.specs.declared.heights.HeightBound.{HeightBound}
use Rattle.tl_form.specs.declared.heights.HeightBound.TheVariants.{Low, High}
use Rattle.tl_form.specs.declared.heights.InnerSteps.{InnerSteps}
use Rattle.tl_form.specs.declared.nested_steps.Finding.{Finding}
use Rattle.tl_form.specs.Expected.{placed_width}
use Rattle.tl_form.specs.Nested.{AreStepsBy}
use Rattle.tl_form.specs.Problems.{AreStepsOf}

-- ---- the best of some items

-- the greatest measure of the items that count
pub record IsMost {X : Type 0} (Counts : X → Type 0) (measure : X → ℕ) (xs : List X) (most : ℕ) : Type 0 where
  pub attained : Any (λ x. Counts x × (measure x ≡ most)) xs
  pub never_more : All (λ x. Counts x → measure x ≤ most) xs

-- the least measure of the items that count
pub record IsFewest {X : Type 0} (Counts : X → Type 0) (measure : X → ℕ) (xs : List X) (fewest : ℕ) : Type 0 where
  pub attained : Any (λ x. Counts x × (measure x ≡ fewest)) xs
  pub never_less : All (λ x. Counts x → fewest ≤ measure x) xs

-- the greater of a number that may be known and another
abbrev pub greater : Option ℕ → ℕ → ℕ
greater None n = n
greater (Some known) n = max known n

-- the lesser of a number that may be known and another
abbrev pub lesser : Option ℕ → ℕ → ℕ
lesser None n = n
lesser (Some known) n = min known n

-- ---- what sections tell

-- how many columns a placement takes, up to the last number of 64 bits
abbrev pub capped : ℕ → ℕ
capped width = min width (2 ^ 64 - 1)

-- what a section tells of its table
abbrev pub told_of : Style → Section → Finding
told_of style section = record {
  width = section.width;
  placed = capped (placed_width style section);
  height = section.height;
  lower = section.lower;
}

-- what the sections of a table tell, in their order
abbrev pub told_by : Style → ℕ → List Section → List Finding
told_by style number sections = map (told_of style) (filter (λ section. section.table == number) sections)

-- what is told is of a page of at least `w` columns
abbrev pub IsAsWideAs : ℕ → Finding → Type 0
IsAsWideAs w one = w ≤ one.width

-- what is told is of a placement of at most `w` columns
abbrev pub IsPlacedIn : ℕ → Finding → Type 0
IsPlacedIn w one = one.placed ≤ w

-- the height at a width, as a bound of either kind
abbrev pub TellsHeight : HeightBound → List Finding → ℕ → ℕ → Type 0
TellsHeight Low told w h = IsMost (IsAsWideAs w) (λ one. one.lower) told h
TellsHeight High told w h = IsFewest (IsPlacedIn w) (λ one. one.height) told h

-- ---- steps

-- whether the height is below that of the last step, if there is one
abbrev pub is_below : Option Config → ℕ → Bool
is_below None h = true
is_below (Some last) h = nat_lt h last.height

-- the steps with one more at the width, where it is lower
abbrev pub with_step : List Config → ℕ → ℕ → List Config
with_step steps w h = if is_below (slice_get steps (length steps - 1)) h then steps ++ record {
  width = w;
  height =
      h;
} ∷ [] else steps

-- steps that have the heights needed at the widths from `least` on and below `w`, and none at lesser ones
pub record AreStepsBelow (needs : ℕ → ℕ → Type 0) (least w : ℕ) (steps : List Config) : Type 0 where
  pub decreasing : AllPairs (λ a b. (a.width < b.width) × (b.height < a.height)) steps
  pub before : All (λ step. step.width < w) steps
  pub some : least < w → 0 < length steps
  pub first : 0 < length steps → first_width steps ≡ least
  pub each : (v : ℕ) → v < w → least ≤ v → (h : ℕ) × (height_at steps v ≡ Some h) × needs v h

-- the steps of a bound, from the least width up to `page`
pub record AreToldSteps (bound : HeightBound) (told : List Finding) (least page : ℕ) (steps : List Config) : Type 0 where
  pub begins : first_width steps ≡ least
  pub are : AreStepsOf (λ w h. (least ≤ w) × TellsHeight bound told w h) page steps

-- after these come the steps of the tables, one for each
pub record Collects (style : Style) (page : ℕ) (sections : List Section) (tables : List Table)
    (before after : List InnerSteps) : Type 0 where
  pub more : List InnerSteps
  pub joined : after ≡ before ++ more
  pub each : AllZip (AreStepsBy style page sections) tables more

-- some of the tables has no steps
abbrev pub LackSteps : Style → ℕ → List Section → List Table → Type 0
LackSteps style page sections tables = (inner : List InnerSteps) →
    AllZip (AreStepsBy style page sections) tables inner → ⊥
