-- Decreasing step functions: how high something is at each width that it is given. The wider, the
-- lower, by steps.
use Rattle.std.specs.Prelude.{ℕ, ◌+◌, ◌<◌, ◌≤◌, nat_le, List, [], ◌∷◌, length, Option, Some, filter, option_map, IsSomeAnd}
use Rattle.std.specs.List.{AllPairs, last_or}
use Rattle.std.specs.Prelude.{None}
use Rattle.tl_base.specs.declared.steps.Config.{Config}

-- a list of steps: there is one, and of any two the later is wider and lower
pub record AreSteps (steps : List Config) : Type 0 where
  pub has_step : 0 < length steps
  pub decreasing : AllPairs (λ a b. (a.width < b.width) × (b.height < a.height)) steps

-- the width of the first step, the least at which there is a height
abbrev pub first_width : List Config → ℕ
first_width [] = 0
first_width (step ∷ steps) = step.width

-- the height at a width: that of the last step whose width is at most this one
abbrev pub height_at : List Config → ℕ → Option ℕ
height_at steps w = option_map (λ step. step.height) (last_or None (filter (λ step. nat_le step.width w) steps))

-- the height of the first step, the greatest
abbrev pub first_height : List Config → ℕ
first_height [] = 0
first_height (step ∷ steps) = step.height

-- the sum of two heights, where there are both
abbrev pub both_heights : Option ℕ → Option ℕ → Option ℕ
both_heights None n = None
both_heights (Some m) None = None
both_heights (Some m) (Some n) = Some (m + n)

-- the height at a width of two things one above the other
abbrev pub stacked_height : List Config → List Config → ℕ → Option ℕ
stacked_height a b w = both_heights (height_at a w) (height_at b w)

-- at this width the height is at most `h`
abbrev pub IsLowAt : List Config → ℕ → ℕ → Type 0
IsLowAt steps h w = IsSomeAnd (height_at steps w) (λ height. height ≤ h)

-- the least width at which the height is at most `h`
pub record IsLeastWidthFor (steps : List Config) (h w : ℕ) : Type 0 where
  pub low : IsLowAt steps h w
  pub least : (v : ℕ) → IsLowAt steps h v → w ≤ v
