-- How marks are kept; no public clause cites this file.
use Rattle.std.specs.Prelude.{◌≡◌, ℕ, ◌≤◌, List, length, All}
use Rattle.tl_diff.specs.declared.matrix.TheConstants.{MAX_MARKS}
use Rattle.tl_diff.specs.Bounds.{Bounds}

-- The room for marks: copies of constraints between as many variables, of which the first `held` are in use.
pub record HasMarkRoom (held : ℕ) (bounds : Bounds) (copies : List Bounds) : Type 0 where
  pub few : length copies ≤ MAX_MARKS
  pub within : held ≤ length copies
  pub alike : All (λ copy. copy.n ≡ bounds.n) copies
