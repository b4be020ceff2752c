-- What `form` returns: the dropped grid, or the first cause for which there is none, in this order:
-- too many cells, an overlap, too many columns, too many rows. Each cause says that the ones before
-- it do not hold, so a table has exactly one result beside out of memory.
use Rattle.std.specs.Prelude.{ℕ, ◌<◌, ◌≤◌, ◌≡◌}
use Rattle.tl_base.specs.declared.limits.TheConstants.{MAX_CELLS, MAX_COLUMNS, MAX_ROWS}
use Rattle.tl_grid.specs.declared.shape.Shape.{Shape}
use Rattle.tl_grid.specs.declared.shape.Grid.{Grid}
use Rattle.tl_grid.specs.declared.error.GridError.{GridError}
use Rattle.tl_grid.specs.declared.error.GridError.TheVariants.{Memory, TooManyCells, Overlap, TooManyColumns, TooManyRows}
use Rattle.tl_grid.specs.Forming.{formed, cell_count}
use Rattle.tl_grid.specs.Overlap.{HasNoOverlap, IsFirstOverlap}
use Rattle.tl_grid.specs.Dropping.{ArePlaces, kept_column_count, kept_row_count}

-- the table is within the limits, no two cells cover one slot, and this is its dropped grid
pub record HasGrid (shape : Shape) (grid : Grid) : Type 0 where
  pub few_cells : cell_count shape ≤ MAX_CELLS
  pub no_overlap : HasNoOverlap (formed shape).cells
  pub few_columns : kept_column_count shape ≤ MAX_COLUMNS
  pub few_rows : kept_row_count shape ≤ MAX_ROWS
  pub columns : grid.cols ≡ kept_column_count shape
  pub rows : grid.rows ≡ kept_row_count shape
  pub places : ArePlaces shape grid.places

-- this many cells are too many
pub record HasTooManyCells (shape : Shape) (count : ℕ) : Type 0 where
  pub counted : count ≡ cell_count shape
  pub many : MAX_CELLS < count

-- the first slot with two cells, and the first two formed of those over it
pub record HasOverlap (shape : Shape) (first second x y : ℕ) : Type 0 where
  pub few_cells : cell_count shape ≤ MAX_CELLS
  pub overlap : IsFirstOverlap (formed shape).cells first second x y

-- this many kept columns are too many
pub record HasTooManyColumns (shape : Shape) (count : ℕ) : Type 0 where
  pub few_cells : cell_count shape ≤ MAX_CELLS
  pub no_overlap : HasNoOverlap (formed shape).cells
  pub counted : count ≡ kept_column_count shape
  pub many : MAX_COLUMNS < count

-- this many kept rows are too many
pub record HasTooManyRows (shape : Shape) (count : ℕ) : Type 0 where
  pub few_cells : cell_count shape ≤ MAX_CELLS
  pub no_overlap : HasNoOverlap (formed shape).cells
  pub few_columns : kept_column_count shape ≤ MAX_COLUMNS
  pub counted : count ≡ kept_row_count shape
  pub many : MAX_ROWS < count

-- the error's cause holds of the table, and no earlier one; memory is no cause in a table
abbrev pub LacksGrid : Shape → GridError → Type 0
LacksGrid shape (Memory error) = ⊥
LacksGrid shape (TooManyCells count) = HasTooManyCells shape count
LacksGrid shape (Overlap first second x y) = HasOverlap shape first second x y
LacksGrid shape (TooManyColumns count) = HasTooManyColumns shape count
LacksGrid shape (TooManyRows count) = HasTooManyRows shape count
