-- No public clause cites this file. Where the height changes, of one thing and of two, one above the other.
use Rattle.std.specs.Prelude.{◌≡◌, ℕ, ◌<◌, ◌≤◌, nat_le, true, false, List, Option, IsSomeAnd}
use Rattle.std.specs.List.Sorted.{IsPartitionPoint}
use Rattle.tl_base.specs.declared.steps.Config.{Config}

-- the first `n` steps are those whose width is at most `w`
abbrev pub IsPastNarrow : List Config → ℕ → ℕ → Type 0
IsPastNarrow steps w n = IsPartitionPoint (λ step. nat_le step.width w ≡ true) (λ step. nat_le step.width w ≡ false) steps n

-- the least width above `w` at which the height is less than at `w`; between the two it stays
pub record IsNextWidth (height : ℕ → Option ℕ) (w next : ℕ) : Type 0 where
  pub above : w < next
  pub same : (v : ℕ) → w ≤ v → v < next → height v ≡ height w
  pub lower : IsSomeAnd (height w) (λ before. IsSomeAnd (height next) (λ here. here < before))
