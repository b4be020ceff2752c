-- The picture of a table: what stands on each line of its page, put together from left to right. The content of each
-- cell is given, line by line; a nested table's lines are those of its own page. Text is bytes of UTF-8.
use Rattle.std.specs.Prelude.{ℕ, ◌+◌, ◌-◌, ◌&&◌, ◌==◌, List, [], ◌∷◌, ◌++◌, map, replicate, slice_get, Option, Some, None}
use Rattle.std.specs.Prelude.{if◌then◌else◌}
use Rattle.std.specs.List.{flat_map, range_with_len}
use Rattle.tl_base.specs.declared.style.Style.{Style}
use Rattle.tl_base.specs.declared.style.Style.TheVariants.{Rule, Apart}
use Rattle.tl_base.specs.Style.{gap_of, row_gap_of, edge_of}
use Rattle.tl_base.specs.Sizes.{room}
use Rattle.tl_grid.specs.declared.shape.Place.{Place}
use Rattle.tl_page.specs.declared.owner.Owner.{Owner}
use Rattle.tl_page.specs.declared.owner.Owner.TheVariants.{Outside, Bare, Cell}
use Rattle.tl_page.specs.declared.line.Drawn.{Drawn}
use Rattle.tl_page.specs.declared.line.TextLine.{TextLine}
use Rattle.tl_page.specs.declared.strip.Gaps.{Gaps}
use Rattle.tl_page.specs.declared.strip.Lined.{Lined}
use Rattle.tl_page.specs.declared.strip.Lined.TheVariants.{No, After, From}
use Rattle.tl_page.specs.declared.strip.Strip.{Strip}
use Rattle.tl_page.specs.Corners.{Grid, owner_of, corner_of, corner_sign, is_one, is_on_line}
use Rattle.tl_page.specs.Signs.{run}
use Rattle.tl_page.specs.Strips.{begin_in, even, strips}

-- ---- what is drawn

-- a table to be drawn: its style, its strips of columns and of rows, who owns each slot, the last row of its head if the
-- line under it is drawn, and its cells by their numbers
pub record Picture : Type 0 where
  pub style : Style
  pub across : List Strip
  pub down : List Strip
  pub owner : ℕ → ℕ → Owner
  pub head : Option ℕ
  pub cells : List Drawn

-- the rows, counted from 1, after which a line of its own stands, by the last row of the head, if the line under it is drawn,
-- and the row at which the head ends: in style rule that last row alone; in style apart each from it on or, without it, each
-- below the end
abbrev pub lined_rows : Style → Option ℕ → ℕ → Lined
lined_rows Rule (Some row) end = After row
lined_rows Apart (Some row) end = From row
lined_rows Apart None end = From (end + 1)
lined_rows style head end = No

-- how far the rows of a grid stand apart in this style
abbrev pub row_gaps : Style → Grid → Gaps
row_gaps style grid = record { between = row_gap_of style; lined = lined_rows style grid.head grid.end }

-- a cell with its lines, where the rows stand so far apart: it begins in its first column, and on the page's line where its
-- first row begins, and has the room of its columns
abbrev pub drawn_cell : Style → Gaps → List ℕ → List ℕ → Place → List TextLine → Drawn
drawn_cell style rows widths heights place lines = record {
  left = place.left;
  columns = room (gap_of style) widths place.left place.right;
  first = edge_of style + begin_in rows heights place.top;
  lines = lines;
}

-- each cell with its lines, in the order of their places
abbrev pub drawn_cells : Style → Gaps → List ℕ → List ℕ → List Place → List (List TextLine) → List Drawn
drawn_cells style rows widths heights [] contents = []
drawn_cells style rows widths heights (place ∷ places) [] = []
drawn_cells style rows widths heights (place ∷ places) (lines ∷ contents) =
    drawn_cell style rows widths heights place lines ∷ drawn_cells style rows widths heights places contents

-- the picture of cells in a grid, with these widths of its columns, heights of its rows and lines in its cells
abbrev pub picture : Style → Grid → List ℕ → List ℕ → List (List TextLine) → Picture
picture style grid widths heights contents = record {
  style = style;
  across = strips (even (gap_of style)) (edge_of style) widths;
  down = strips (row_gaps style grid) (edge_of style) heights;
  owner = owner_of grid;
  head = grid.head;
  cells = drawn_cells style (row_gaps style grid) widths heights grid.places contents;
}

-- ---- its lines

-- a run of spaces
abbrev pub spaces : ℕ → List ℕ
spaces count = replicate count 0x20

-- a line filled with spaces to the room; spaces where there is no line
abbrev pub filled : ℕ → Option TextLine → List ℕ
filled columns (Some line) = line.text ++ spaces (columns - line.width)
filled columns None = spaces columns

-- what stands on line `y` of the page inside a cell, at a strip of columns: its line of content stands once, at its
-- first column, as wide as its room
abbrev pub inside_cell : Option Drawn → Strip → ℕ → List ℕ
inside_cell None across y = []
inside_cell (Some cell) across y =
    if (across.before == cell.left + 1) && (across.after == cell.left + 1)
    then filled cell.columns (slice_get cell.lines (y - cell.first))
    else []

-- what stands on a line inside an owner's slots; an uncovered slot is blank
abbrev pub inside : List Drawn → Owner → Strip → ℕ → List ℕ
inside cells Outside across y = spaces across.size
inside cells (Bare column row) across y = spaces across.size
inside cells (Cell number) across y = inside_cell (slice_get cells number) across y

-- what stands on line `y` of the page where a strip of columns crosses a strip of rows
abbrev pub piece : Picture → Strip → ℕ → Strip → List ℕ
piece picture down y across =
    let corner = corner_of picture.owner across down in
    if is_one corner
    then inside picture.cells corner.up_left across y
    else run across.size (corner_sign picture.style (is_on_line picture.style picture.head across down) corner)

-- line `y` of the page, which lies in a strip of rows
abbrev pub picture_line : Picture → Strip → ℕ → List ℕ
picture_line picture down y = flat_map (piece picture down y) picture.across

-- the lines of a strip of rows
abbrev pub strip_lines : Picture → Strip → List (List ℕ)
strip_lines picture down = map (picture_line picture down) (range_with_len down.from down.size)

-- the lines of the page
abbrev pub lines_of : Picture → List (List ℕ)
lines_of picture = flat_map (strip_lines picture) picture.down
