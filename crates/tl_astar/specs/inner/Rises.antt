-- What rises say of the heights of cells at each room, and how high they make strips. No public clause cites this file.
use Rattle.std.specs.Prelude.{◌≡◌, ℕ, ◌<◌, ◌≤◌, nat_le, ◌⊎◌, if◌then◌else◌, List, [], ◌∷◌, ◌++◌, length, Some}
use Rattle.std.specs.Prelude.{slice_index, slice_index_or, slice_range}
use Rattle.std.specs.List.{All, Any}
use Rattle.tl_base.specs.declared.steps.Config.{Config}
use Rattle.tl_base.specs.Steps.{height_at, IsLowAt}
use Rattle.tl_astar.specs.declared.rises.Rise.{Rise}
use Rattle.tl_astar.specs.declared.rises.Rises.{Rises}

-- the rise is of a cell with these steps: wherever there is less room than its width, the cell is at least as high as it says
pub record IsRiseOf (steps : List Config) (strip : ℕ) (rise : Rise) : Type 0 where
  pub of_strip : rise.strip ≡ strip
  pub high : (room height : ℕ) → room < rise.width → height_at steps room ≡ Some height → rise.height ≤ height

-- the rise is needed between a least and a greatest room, for a strip that has so many lines anyway
pub record IsNeeded (least most lines : ℕ) (rise : Rise) : Type 0 where
  pub past : least < rise.width
  pub within : rise.width ≤ most
  pub above : lines < rise.height

-- one of the rises says that at this room a cell is at least this high
abbrev pub SayHeight : List Rise → ℕ → ℕ → Type 0
SayHeight rises room height = Any (λ rise. (room < rise.width) × (height ≤ rise.height)) rises

-- to the old rises those of a cell with these steps are added, between a least and a greatest room, for a strip that has so many
-- lines anyway: none is invented, and where the cell needs no more lines at the greatest room, none is left out
pub record AddsRises (steps : List Config) (strip least most lines : ℕ) (old new : List Rise) : Type 0 where
  pub more : List Rise
  pub after : new ≡ old ++ more
  pub each : All (IsRiseOf steps strip) more
  pub needed : All (IsNeeded least most lines) more
  pub whole : IsLowAt steps lines most → (room height : ℕ) → least ≤ room → room ≤ most →
      height_at steps room ≡ Some height → lines < height → SayHeight more room height

-- ---- rises that make strips higher

-- the rises of a span: those from the end of the span before it up to its own end, and none where the list is shorter
abbrev pub rises_of : Rises → ℕ → List Rise
rises_of rises span =
    if nat_le (slice_index rises.ends.items span) (length rises.all.items)
    then slice_range rises.all.items (slice_index (0 ∷ rises.ends.items) span) (slice_index rises.ends.items span)
    else []

-- one of the rises of a span wants the strip this high at this room: it and each rise before it are wider than the room
pub record Wants (rises : List Rise) (room strip height : ℕ) : Type 0 where
  pub number : ℕ
  pub rise : Rise
  pub there : number < length rises
  pub is : slice_index_or rises number rise ≡ rise
  pub wider : (k : ℕ) (d : Rise) → k ≤ number → room < (slice_index_or rises k d).width
  pub of_strip : rise.strip ≡ strip
  pub high : rise.height ≡ height

-- each strip that is there is at least as high as it is wanted
abbrev pub AreHighEnough : (ℕ → ℕ → Type 0) → List ℕ → Type 0
AreHighEnough Wanted heights = (strip height : ℕ) → Wanted strip height → strip < length heights →
    height ≤ slice_index heights strip

-- each strip that is there has the height that it had before, or one that is wanted of it
abbrev pub AreNoHigher : (ℕ → ℕ → Type 0) → List ℕ → List ℕ → Type 0
AreNoHigher Wanted old new = (strip : ℕ) → strip < length new →
    (slice_index new strip ≡ slice_index old strip) ⊎ Wanted strip (slice_index new strip)

-- each strip is made as high as it is wanted, and no higher, and none is made lower
pub record Raises (Wanted : ℕ → ℕ → Type 0) (old new : List ℕ) : Type 0 where
  pub len : length new ≡ length old
  pub no_lower : (strip : ℕ) → slice_index old strip ≤ slice_index new strip
  pub enough : AreHighEnough Wanted new
  pub no_higher : AreNoHigher Wanted old new
