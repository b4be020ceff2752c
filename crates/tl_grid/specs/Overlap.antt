-- Where two cells cover one slot. The HTML Standard calls this a table model error and goes on;
-- here such a table has no grid.
use Rattle.std.specs.Prelude.{ℕ, ◌<◌, ◌≤◌, ◌≡◌, List, ◌∷◌, map, filter, length, ◌⊎◌}
use Rattle.tl_grid.specs.Forming.{FormedCell, covers}

-- the cells over the slot (x, y), in the order in which they were formed
abbrev pub cells_over : ℕ → ℕ → List FormedCell → List FormedCell
cells_over x y cells = filter (covers x y) cells

-- the numbers of the cells over the slot (x, y), in the order in which they were formed
abbrev pub numbers_over : ℕ → ℕ → List FormedCell → List ℕ
numbers_over x y cells = map (λ (cell : FormedCell). cell.number) (cells_over x y cells)

-- slots are read row by row, each row from the left
abbrev pub IsBefore : ℕ → ℕ → ℕ → ℕ → Type 0
IsBefore x y x' y' = (y < y') ⊎ ((y ≡ y') × (x < x'))

-- no slot has two cells
abbrev pub HasNoOverlap : List FormedCell → Type 0
HasNoOverlap cells = (x y : ℕ) → length (numbers_over x y cells) ≤ 1

-- (x, y) is the first slot with two cells, and these two are the first formed of those over it
pub record IsFirstOverlap (cells : List FormedCell) (first second x y : ℕ) : Type 0 where
  pub two : (more : List ℕ) × (numbers_over x y cells ≡ first ∷ second ∷ more)
  pub before : (x' y' : ℕ) → IsBefore x' y' x y → length (numbers_over x' y' cells) ≤ 1
