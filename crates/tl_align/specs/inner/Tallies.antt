-- No public clause cites this file: it says what is kept of each column while the cells are looked at, one after the other.
use Rattle.std.specs.Prelude.{◌≡◌, ℕ, ◌<◌, Bool, true, if◌then◌else◌, List, [], ◌∷◌, map, length, slice_index_or, None, unwrap_or}
use Rattle.tl_base.specs.declared.limits.TheConstants.{MAX_COLUMNS}
use Rattle.tl_sides.specs.declared.side.Side.{Side}
use Rattle.tl_sides.specs.declared.side.Side.TheVariants.{Left, Right}
use Rattle.tl_table.specs.declared.cell.TableCell.{out-TableCell}
use Rattle.tl_table.specs.Heads.{head_end_of}
use Rattle.tl_table.specs.Tables.{OpenCell, OpenTable}
use Rattle.tl_align.specs.declared.columns.Tally.{Tally}
use Rattle.tl_align.specs.declared.columns.Tally.TheVariants.{Blank, Numbers, Other}
use Rattle.tl_align.specs.Sides.{are_number, is_single, tells}

-- a tally with one cell more, which is a number or is none
abbrev pub with : Tally → Bool → Tally
with Blank true = Numbers
with Numbers true = Numbers
with _ _ = Other

-- the side of a column
abbrev pub side : Tally → Side
side Numbers = Right
side Blank = Left
side Other = Left

-- the tally of a column from one on, through these cells of a table whose head ends at that row
abbrev pub tally_from : ℕ → ℕ → Tally → List OpenCell → Tally
tally_from head_end column tally [] = tally
tally_from head_end column tally (cell ∷ cells) =
    if tells head_end column cell
    then tally_from head_end column (with tally (are_number cell.blocks)) cells
    else tally_from head_end column tally cells

-- the tally of a column of a table
abbrev pub tally_of : OpenTable → ℕ → Tally
tally_of table column =
    let cells = map out-TableCell table.cells in
    tally_from (head_end_of cells table.rows) column Blank cells

-- these are the tallies of the columns of a table
abbrev pub AreTallies : OpenTable → List Tally → Type 0
AreTallies table tallies =
    (length tallies ≡ MAX_COLUMNS) × ((column : ℕ) → column < MAX_COLUMNS → slice_index_or tallies column Blank ≡ tally_of table column)

-- the side of a cell by those of the first columns
abbrev pub listed_side : List Side → OpenCell → Side
listed_side columns cell = if is_single cell then slice_index_or columns cell.place.left Left else Left

-- the side that a cell asks for, if it is asked and asks for one, and else that by those of the first columns
abbrev pub given_side : Bool → List Side → OpenCell → Side
given_side asked columns cell = unwrap_or (if asked then cell.align else None) (listed_side columns cell)
