-- On which side the lines of each cell of a table stand. `l` and `r` are the left and the right:
--
--   |   Fares    |  l          the caption stays left
--   | To |  Fare |  l   r      a header cell stands as its column does
--   | A  |  5.50 |  l   r      by `Auto` a column whose cells with text below the head are all numbers
--   | all of it  |  l          a cell over two columns stays left
--
-- By `Cells` each cell that asks for a side stands there, and all others as by `Auto`.
use Rattle.std.specs.Prelude.{ℕ, ◌+◌, ◌==◌, Bool, false, not, ◌&&◌, ◌||◌, nat_le, nat_lt, if◌then◌else◌, List, [], ◌∷◌, length, map}
use Rattle.std.specs.Prelude.{slice_index_or, Option, None, unwrap_or}
use Rattle.std.specs.List.{list_all, list_any}
use Rattle.tl_sides.specs.declared.align.Align.{Align}
use Rattle.tl_sides.specs.declared.align.Align.TheVariants.{Columns, Auto, Cells}
use Rattle.tl_sides.specs.declared.side.Side.{Side}
use Rattle.tl_sides.specs.declared.side.Side.TheVariants.{Left, Right}
use Rattle.tl_table.specs.declared.cell.Content.{Content, out-Content}
use Rattle.tl_table.specs.declared.cell.Content.TheOpen as open_content
use Rattle.tl_table.specs.declared.cell.TableCell.{out-TableCell}
use Rattle.tl_table.specs.Heads.{head_end_of, is_caption}
use Rattle.tl_table.specs.Tables.{OpenCell, OpenContent, OpenTable}
use Rattle.tl_align.specs.Numbers.{is_number_word}

-- ---- cells

-- the cell is over one column, and no caption: it stands as its column does
abbrev pub is_single : OpenCell → Bool
is_single cell = (cell.place.right == cell.place.left + 1) && not (is_caption cell.kind)

-- it has a block
abbrev pub has_text : OpenCell → Bool
has_text cell = nat_lt 0 (length cell.blocks)

-- the block is a paragraph of one word alone, which is a number
abbrev pub is_number_block : OpenContent → Bool
is_number_block (open_content.Para units) = is_number_word units
is_number_block (open_content.Table box) = false

-- these blocks are one that is a number
abbrev pub are_number : List Content → Bool
are_number (block ∷ []) = is_number_block (out-Content block)
are_number _ = false

-- ---- columns of numbers

-- the cell tells what is in this column of a table whose head ends at that row: it is over this column alone, below the head,
-- and has text
abbrev pub tells : ℕ → ℕ → OpenCell → Bool
tells head_end column cell = is_single cell && (cell.place.left == column) && nat_le head_end cell.place.top && has_text cell

-- of these cells of a table whose head ends at that row some tells what is in the column, and each that does is a number
abbrev pub are_of_numbers : ℕ → ℕ → List OpenCell → Bool
are_of_numbers head_end column cells =
    list_any (tells head_end column) cells
    && list_all (λ cell. not (tells head_end column cell) || are_number cell.blocks) cells

-- the column is one of numbers
abbrev pub is_of_numbers : OpenTable → ℕ → Bool
is_of_numbers table column =
    let cells = map out-TableCell table.cells in
    are_of_numbers (head_end_of cells table.rows) column cells

-- ---- sides

-- the side of a column by what is in it
abbrev pub numbers_side : OpenTable → ℕ → Side
numbers_side table column = if is_of_numbers table column then Right else Left

-- on which side the cells of a column stand: as the list says, and left past its end, or by what is in the column
abbrev pub column_side : Align → OpenTable → ℕ → Side
column_side (Columns sides) table column = slice_index_or sides column Left
column_side Auto table column = numbers_side table column
column_side Cells table column = numbers_side table column

-- the side that a cell asks for, where it is asked
abbrev pub own_side : Align → OpenCell → Option Side
own_side Cells cell = cell.align
own_side _ cell = None

-- on which side the lines of a cell stand
abbrev pub side_of : Align → OpenTable → OpenCell → Side
side_of align table cell =
    unwrap_or (own_side align cell) (if is_single cell then column_side align table cell.place.left else Left)

-- one side for each cell, in the order of the cells
abbrev pub sides_of : Align → OpenTable → List Side
sides_of align table = map (λ cell. side_of align table (out-TableCell cell)) table.cells
