-- Which cell covers which slot: the steps of the HTML Standard's "Forming a table" (4.9.12.1).
-- A slot (x, y) is column x of row y, both counted from 0. One departure is here: a cell that grows
-- downward stops at the table's height, where the standard's last turn would take one row more.
use Rattle.std.specs.Prelude.{ℕ, ◌+◌, ◌-◌, max, zero, suc, Bool, false, ◌&&◌, ◌||◌, not, ◌==◌}
use Rattle.std.specs.Prelude.{nat_lt, nat_le, if◌then◌else◌, List, [], ◌∷◌, ◌++◌, map, length}
use Rattle.std.specs.Prelude.{sum_by}
use Rattle.std.specs.List.{list_any}
use Rattle.tl_grid.specs.declared.shape.SpanOf.{SpanOf}
use Rattle.tl_grid.specs.declared.shape.ShapeGroup.{ShapeGroup}
use Rattle.tl_grid.specs.declared.shape.Shape.{Shape}

-- a cell that has been formed, and the slots that it covers: those in its columns and in its rows
pub record FormedCell : Type 0 where
  -- which cell of the table it is, as they are written, counted from 0
  pub number : ℕ
  -- its columns are those from `left` on and before `right`; it is anchored in the first
  pub left : ℕ
  pub right : ℕ
  -- the row in which it is anchored
  pub top : ℕ
  -- the set of its rows
  pub rows : ℕ → Bool
  -- whether it is on the standard's list of downward-growing cells
  pub grows : Bool

-- the state of the standard's steps
pub record Forming : Type 0 where
  -- the standard's x_width and y_height
  pub width : ℕ
  pub height : ℕ
  -- the standard's y_current
  pub row : ℕ
  -- the cells, in the order in which they were formed
  pub cells : List FormedCell

-- whether the pair of the slot (x, y) and the cell is in the table's set of pairs
abbrev pub covers : ℕ → ℕ → FormedCell → Bool
covers x y cell = (nat_le cell.left x && nat_lt x cell.right) && cell.rows y

-- whether the slot (x, y) has a cell
abbrev pub has_cell : ℕ → ℕ → List FormedCell → Bool
has_cell x y cells = list_any (covers x y) cells

-- x_current grows from x, by at most `more` columns, while the slot there is taken
abbrev pub first_free : (ℕ → Bool) → ℕ → ℕ → ℕ
first_free taken x zero = x
first_free taken x (suc more) = if taken x then first_free taken (x + 1) more else x

-- how many rows a cell takes when it is formed: a cell of rowspan 0 begins with one and grows
abbrev pub initial_rowspan : SpanOf → ℕ
initial_rowspan span = if span.rowspan == 0 then 1 else span.rowspan

-- the cell of this number, anchored at column x of the row y
abbrev pub anchored_cell : ℕ → ℕ → ℕ → SpanOf → FormedCell
anchored_cell number x y span = record {
  number = number;
  left = x;
  right = x + span.colspan;
  top = y;
  rows = λ row. nat_le y row && nat_lt row (y + initial_rowspan span);
  grows = span.rowspan == 0;
}

-- a cell is formed at column x of the current row: width and height rise to take it in
abbrev pub with_cell : ℕ → ℕ → SpanOf → Forming → Forming
with_cell number x span s = record {
  width = max s.width (x + span.colspan);
  height = max s.height (s.row + initial_rowspan span);
  row = s.row;
  cells = s.cells ++ anchored_cell number x s.row span ∷ [];
}

-- the cells of a row from x_current on; `number` is that of the first of them
abbrev pub form_cells : ℕ → ℕ → List SpanOf → Forming → Forming
form_cells number x [] s = s
form_cells number x (span ∷ spans) s =
    let at : ℕ = first_free (λ column. has_cell column s.row s.cells) x (s.width - x) in
    form_cells (number + 1) (at + span.colspan) spans (with_cell number at span s)

-- a cell that grows downward covers row y as well
abbrev pub grown_into : ℕ → FormedCell → FormedCell
grown_into y cell = record {
  number = cell.number;
  left = cell.left;
  right = cell.right;
  top = cell.top;
  rows = λ row. cell.rows row || (cell.grows && row == y);
  grows = cell.grows;
}

-- the current row begins: the table is at least that high, and the growing cells grow into it
abbrev pub begin_row : Forming → Forming
begin_row s = record {
  width = s.width;
  height = max s.height (s.row + 1);
  row = s.row;
  cells = map (grown_into s.row) s.cells;
}

-- the current row ends, and the one below it is the next
abbrev pub next_row : Forming → Forming
next_row s = record { width = s.width; height = s.height; row = s.row + 1; cells = s.cells }

-- a row of these cells is formed; `number` is that of its first cell
abbrev pub form_row : ℕ → List SpanOf → Forming → Forming
form_row number spans s = next_row (form_cells number 0 spans (begin_row s))

-- rows are formed, one after another; `number` is that of their first cell
abbrev pub form_rows : ℕ → List (List SpanOf) → Forming → Forming
form_rows number [] s = s
form_rows number (spans ∷ rows) s =
    form_rows (number + length spans) rows (form_row number spans s)

-- what the end of a row group leaves of a cell: y_current rises from `row` to `height` in steps of
-- one, and after each step a growing cell grows into that row, below `height`; then it grows no
-- more. So the row y_current itself is left out, as in the standard; no cell is anchored there.
abbrev pub at_group_end : ℕ → ℕ → FormedCell → FormedCell
at_group_end row height cell = record {
  number = cell.number;
  left = cell.left;
  right = cell.right;
  top = cell.top;
  rows = λ y. cell.rows y || (cell.grows && (nat_lt row y && nat_lt y height));
  grows = false;
}

-- a row group ends: its cells grow no more, and the next group begins below the table so far
abbrev pub end_group : Forming → Forming
end_group s = record {
  width = s.width;
  height = s.height;
  row = max s.row s.height;
  cells = map (at_group_end s.row s.height) s.cells;
}

-- a row group of these rows is formed; `number` is that of its first cell
abbrev pub form_group : ℕ → List (List SpanOf) → Forming → Forming
form_group number rows s = end_group (form_rows number rows s)

-- how many cells the rows have
abbrev pub cells_in : List (List SpanOf) → ℕ
cells_in rows = sum_by length rows

-- the groups whose turn it is, in order; `number` is that of the first cell of them all
abbrev pub form_groups : (ShapeGroup → Bool) → ℕ → List ShapeGroup → Forming → Forming
form_groups turn number [] s = s
form_groups turn number (group ∷ groups) s =
    form_groups turn (number + cells_in group.rows) groups
    (if turn group then form_group number group.rows s else s)

-- a table without cells, of so many columns
abbrev pub no_cells : ℕ → Forming
no_cells columns = record { width = columns; height = 0; row = 0; cells = [] }

-- the standard's result: the footers wait until all other groups are formed
abbrev pub formed : Shape → Forming
formed shape =
    form_groups (λ group. group.foot) 0 shape.groups
    (form_groups (λ group. not group.foot) 0 shape.groups (no_cells shape.columns))

-- how many cells the groups have
abbrev pub cells_in_groups : List ShapeGroup → ℕ
cells_in_groups groups = sum_by (λ group. cells_in group.rows) groups

-- how many rows the groups have
abbrev pub rows_in_groups : List ShapeGroup → ℕ
rows_in_groups groups = sum_by (λ group. length group.rows) groups

-- how many cells the table has
abbrev pub cell_count : Shape → ℕ
cell_count shape = cells_in_groups shape.groups

-- how many rows the table has
abbrev pub row_count : Shape → ℕ
row_count shape = rows_in_groups shape.groups
