-- The dropped grid: columns and rows in which no cell is anchored are left out, and the others are
-- renumbered from 0, in order. This is a rule of ours, not the HTML Standard's.
use Rattle.std.specs.Prelude.{ℕ, ◌+◌, ◌<◌, ◌≤◌, ◌≡◌, zero, suc, Bool, ◌&&◌, ◌==◌, nat_lt, nat_le}
use Rattle.std.specs.Prelude.{if◌then◌else◌, List, length, slice_get, Some}
use Rattle.std.specs.List.{list_any, AllByRecursion}
use Rattle.tl_grid.specs.declared.shape.Shape.{Shape}
use Rattle.tl_grid.specs.declared.shape.Place.{Place}
use Rattle.tl_grid.specs.Forming.{FormedCell, Forming, formed, cell_count}

-- how many of the numbers below n are kept
abbrev pub count_below : (ℕ → Bool) → ℕ → ℕ
count_below keeps zero = 0
count_below keeps (suc n) = count_below keeps n + (if keeps n then 1 else 0)

-- whether a cell is anchored in column x
abbrev pub keeps_column : List FormedCell → ℕ → Bool
keeps_column cells x = list_any (λ (cell : FormedCell). cell.left == x) cells

-- whether a cell is anchored in row y
abbrev pub keeps_row : List FormedCell → ℕ → Bool
keeps_row cells y = list_any (λ (cell : FormedCell). cell.top == y) cells

-- the new number of a kept column
abbrev pub new_column : List FormedCell → ℕ → ℕ
new_column cells x = count_below (keeps_column cells) x

-- the new number of a kept row
abbrev pub new_row : List FormedCell → ℕ → ℕ
new_row cells y = count_below (keeps_row cells) y

-- how many kept columns a cell covers
abbrev pub covered_columns : Forming → FormedCell → ℕ
covered_columns s cell =
    count_below (λ x. keeps_column s.cells x && (nat_le cell.left x && nat_lt x cell.right)) s.width

-- how many kept rows a cell covers
abbrev pub covered_rows : Forming → FormedCell → ℕ
covered_rows s cell = count_below (λ y. keeps_row s.cells y && cell.rows y) s.height

-- a cell begins at its renumbered anchor, and takes its kept columns and rows
abbrev pub kept_place : Forming → FormedCell → Place
kept_place s cell = record {
  left = new_column s.cells cell.left;
  right = new_column s.cells cell.left + covered_columns s cell;
  top = new_row s.cells cell.top;
  bottom = new_row s.cells cell.top + covered_rows s cell;
}

-- a place has a slot, and lies within a grid of so many columns and rows
abbrev pub IsPlaced : ℕ → ℕ → Place → Type 0
IsPlaced cols rows place =
    (place.left < place.right) × (place.right ≤ cols)
    × (place.top < place.bottom) × (place.bottom ≤ rows)

-- the cell's place stands at the cell's number
abbrev pub StandsAtNumber : Forming → List Place → FormedCell → Type 0
StandsAtNumber s places cell = slice_get places cell.number ≡ Some (kept_place s cell)

-- these are the places of the table's cells, in the order of the cells as written
pub record ArePlaces (shape : Shape) (places : List Place) : Type 0 where
  pub as_many : length places ≡ cell_count shape
  pub each : AllByRecursion (StandsAtNumber (formed shape) places) (formed shape).cells

-- how many columns are kept
abbrev pub kept_column_count : Shape → ℕ
kept_column_count shape = count_below (keeps_column (formed shape).cells) (formed shape).width

-- how many rows are kept
abbrev pub kept_row_count : Shape → ℕ
kept_row_count shape = count_below (keeps_row (formed shape).cells) (formed shape).height
