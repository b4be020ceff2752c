-- Columns side by side, or rows one under the other: where each begins, how much room a span of them has, and how much
-- all take together.
use Rattle.std.specs.Prelude.{◌≡◌, ℕ, ◌≤◌, ◌+◌, ◌-◌, ◌*◌, List, [], ◌∷◌, length, take, sum, slice_range}

-- where the column or row of this number begins, counted from the first: after the sizes and gaps before it
abbrev pub position : ℕ → List ℕ → ℕ → ℕ
position gap sizes place = sum (take place sizes) + gap * place

-- the room of a span: the sizes of its columns or rows, and the gaps between them
abbrev pub room : ℕ → List ℕ → ℕ → ℕ → ℕ
room gap sizes from past = sum (slice_range sizes from past) + gap * (past - from - 1)

-- the total size: all sizes, the gaps between them, and what both edges take; nothing for no column or row
abbrev pub total : ℕ → ℕ → List ℕ → ℕ
total gap edges [] = 0
total gap edges (size ∷ sizes) = size + sum sizes + gap * length sizes + edges

-- `least` is the least total of sizes of this kind
pub record IsLeastTotal (gap edges : ℕ) (OfKind : List ℕ → Type 0) (least : ℕ) : Type 0 where
  pub attained : (sizes : List ℕ) × OfKind sizes × (total gap edges sizes ≡ least)
  pub never_less : (sizes : List ℕ) → OfKind sizes → least ≤ total gap edges sizes
