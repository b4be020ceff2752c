-- The head of a table: its first rows that are of `thead` groups or, where it has none of them, its first rows that hold header
-- cells alone. A row from which a cell reaches below the others is not of the head, so no cell crosses the head's end. The
-- caption's row stands above the head, and is no part of it.
--
--   row 0  |   Fares   |   the caption
--   row 1  |    |  To  |   header cells; the left one covers two rows
--   row 2  |From| A| B |   header cells; the head is rows 1 and 2, and ends at row 3
--   row 3  | A  | -| 5 |
use Rattle.std.specs.Prelude.{ℕ, zero, suc, Bool, true, false, ◌&&◌, ◌||◌, nat_le, nat_lt, if◌then◌else◌, List, map, Option, Some, None}
use Rattle.std.specs.List.{list_all, list_any}
use Rattle.tl_table.specs.declared.cell.Kind.{Kind}
use Rattle.tl_table.specs.declared.cell.Kind.TheVariants as kinds
use Rattle.tl_table.specs.declared.cell.Table.{Table, out-Table}
use Rattle.tl_table.specs.declared.cell.TableCell.{out-TableCell}
use Rattle.tl_table.specs.Tables.{OpenCell, OpenTable}

-- ---- cells

-- a caption, and no cell of a row
abbrev pub is_caption : Kind → Bool
is_caption kinds.Caption = true
is_caption _ = false

-- a header cell
abbrev pub is_header : Kind → Bool
is_header kinds.Head = true
is_header _ = false

-- ---- runs of rows

-- a cell stands with a run of first rows that ends at this row: it begins there or below, or it ends there or above and is
-- the caption or passes the test
abbrev pub stands_with : (OpenCell → Bool) → ℕ → OpenCell → Bool
stands_with passes end cell =
    nat_le end cell.place.top || (nat_le cell.place.bottom end && (is_caption cell.kind || passes cell))

-- the rows above this one are a run: each of their cells is the caption or passes the test, and none reaches below
abbrev pub is_run : (OpenCell → Bool) → List OpenCell → ℕ → Bool
is_run passes cells end = list_all (stands_with passes end) cells

-- where the longest run of at most so many first rows ends
abbrev pub run_end : (OpenCell → Bool) → List OpenCell → ℕ → ℕ
run_end passes cells zero = 0
run_end passes cells (suc rows) = if is_run passes cells (suc rows) then suc rows else run_end passes cells rows

-- ---- the head

-- how many rows the caption takes, above all others
abbrev pub caption_rows_of : List OpenCell → ℕ
caption_rows_of cells = if list_any (λ cell. is_caption cell.kind) cells then 1 else 0

-- where the head of these cells in so many rows ends: past the rows of `thead` groups where the first row is of one, and
-- otherwise past the rows of header cells
abbrev pub head_end_of : List OpenCell → ℕ → ℕ
head_end_of cells rows =
    let grouped = run_end (λ cell. cell.in_head) cells rows in
    if nat_lt (caption_rows_of cells) grouped then grouped else run_end (λ cell. is_header cell.kind) cells rows

-- how many rows the table's caption takes, above all others: 1, or 0 where it has none
abbrev pub caption_height : Table → ℕ
caption_height table = caption_rows_of (map out-TableCell (out-Table table).cells)

-- the row at which the head of the table ends; without a head, that below the caption's, or the first
abbrev pub end_of_head : OpenTable → ℕ
end_of_head table = head_end_of (map out-TableCell table.cells) table.rows

-- the same of a table that is not opened
abbrev pub head_end : Table → ℕ
head_end table = end_of_head (out-Table table)

-- ---- the line under it

-- the last row, counted from 1, of the head of these cells in so many rows, where a line may be drawn under it: there is a
-- head, which a caption is no part of, and a row below it
abbrev pub head_row_of : List OpenCell → ℕ → Option ℕ
head_row_of cells rows =
    let end = head_end_of cells rows in
    if nat_lt (caption_rows_of cells) end && nat_lt end rows then Some end else None

-- the last row of a table's head, where a line may be drawn under it
abbrev pub head_row : OpenTable → Option ℕ
head_row table = head_row_of (map out-TableCell table.cells) table.rows
