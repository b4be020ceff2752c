-- The slots of a dropped grid: which place has which, and what holds of them in every grid.
-- A slot (x, y) is column x of row y, both counted from 0 after columns and rows are dropped.
use Rattle.std.specs.Prelude.{ℕ, ◌<◌, ◌≤◌, ◌≡◌, List, IsTrue, ◌↔◌}
use Rattle.std.specs.List.{Any}
use Rattle.tl_grid.specs.declared.shape.Place.{Place}
use Rattle.tl_grid.specs.Forming.{FormedCell, Forming, covers}
use Rattle.tl_grid.specs.Dropping.{keeps_column, keeps_row, new_column, new_row, kept_place}

-- the place has the slot (x, y)
abbrev pub HasSlot : ℕ → ℕ → Place → Type 0
HasSlot x y place =
    (place.left ≤ x) × (x < place.right) × (place.top ≤ y) × (y < place.bottom)

-- two places share no slot
abbrev pub AreApart : Place → Place → Type 0
AreApart first second = (x y : ℕ) → HasSlot x y first → HasSlot x y second → ⊥

-- a cell is anchored in column x
abbrev pub HasAnchorInColumn : List Place → ℕ → Type 0
HasAnchorInColumn places x = Any (λ (place : Place). place.left ≡ x) places

-- a cell is anchored in row y
abbrev pub HasAnchorInRow : List Place → ℕ → Type 0
HasAnchorInRow places y = Any (λ (place : Place). place.top ≡ y) places

-- all slots to the left of a place are covered in its first row
abbrev pub IsFilledToLeft : List Place → Place → Type 0
IsFilledToLeft places place = (x : ℕ) → x < place.left → Any (HasSlot x place.top) places

-- the cell's kept slots, renumbered, are exactly the slots of its place
pub record KeepsSlots (s : Forming) (cell : FormedCell) : Type 0 where
  -- a kept slot is the cell's exactly where it is the place's after renumbering
  pub same : (x y : ℕ) → IsTrue (keeps_column s.cells x) → IsTrue (keeps_row s.cells y)
      → (IsTrue (covers x y cell)
      ↔ HasSlot (new_column s.cells x) (new_row s.cells y) (kept_place s cell))
  -- each slot of the place comes from a kept slot
  pub whole : (x y : ℕ) → HasSlot x y (kept_place s cell) → (column row : ℕ)
      × (IsTrue (keeps_column s.cells column)) × (IsTrue (keeps_row s.cells row))
      × (new_column s.cells column ≡ x) × (new_row s.cells row ≡ y)
