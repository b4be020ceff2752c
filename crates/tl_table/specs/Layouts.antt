-- Layouts of a table: a width for each column, a height for each row, and a layout of each table nested directly in
-- it, each whatever it may be; and when one fits a page.
use Rattle.std.specs.Prelude.{◌≡◌, ℕ, zero, suc, ◌+◌, ◌-◌, ◌≤◌, nat_lt, if◌then◌else◌, is_some, List, [], ◌∷◌, length, sum_by}
use Rattle.std.specs.List.{AllZip, flat_map}
use Rattle.tl_base.specs.declared.style.Style.{Style}
use Rattle.tl_base.specs.declared.spacing.Spacing.{Spacing}
use Rattle.tl_base.specs.declared.style.Style.TheVariants.{Plain, Compact, Frame, Grid, Box, Rule, Apart}
use Rattle.tl_base.specs.Style.{gap_of, row_gap_of, edges_of, spacing_of}
use Rattle.tl_grid.specs.declared.shape.Place.{Place}
use Rattle.tl_base.specs.Sizes.{room, total}
use Rattle.tl_text.specs.declared.paragraph.Atom.{Atom}
use Rattle.tl_text.specs.Cuttings.{joined, IsCutting, HoldsIn}
use Rattle.tl_table.specs.declared.cell.Content.{out-Content}
use Rattle.tl_table.specs.declared.cell.Content.TheOpen as open_content
use Rattle.tl_table.specs.declared.cell.Table.{Table, out-Table}
use Rattle.tl_table.specs.declared.cell.TableCell.{out-TableCell}
use Rattle.tl_table.specs.declared.layout.Layout.{Layout, Layout-F, out-Layout}
use Rattle.tl_table.specs.Heads.{end_of_head, head_row}
use Rattle.tl_table.specs.Tables.{OpenTable, OpenCell, OpenContent}

-- a layout by its fields
abbrev pub OpenLayout : Type 0
OpenLayout = Layout-F Layout

-- the total width of a layout, in columns of the page
abbrev pub total_width : Style → OpenLayout → ℕ
total_width style layout = total (gap_of style) (edges_of style) layout.widths

-- the lines that a page of a table with rows has beside those of its rows and of the gaps between any two: those of both
-- edges; in style rule the one under the head; and in style apart that one, and one between any two rows below
abbrev pub lines_of : Style → OpenTable → ℕ
lines_of Plain table = edges_of Plain
lines_of Compact table = edges_of Compact
lines_of Frame table = edges_of Frame
lines_of Grid table = edges_of Grid
lines_of Box table = edges_of Box
lines_of Rule table = if is_some (head_row table) then 1 else 0
lines_of Apart table = (if is_some (head_row table) then 1 else 0) + (table.rows - end_of_head table - 1)

-- the lines that lie inside a place, beside those of its rows and of the gaps between any two: in style apart one between any
-- two of its rows below the head. No cell crosses the head's end
abbrev pub lines_inside : Style → OpenTable → Place → ℕ
lines_inside Apart table place = if nat_lt place.top (end_of_head table) then 0 else place.bottom - place.top - 1
lines_inside style table place = 0

-- how far the columns and rows of a table stand apart
abbrev pub spacing_in : Style → OpenTable → Spacing
spacing_in style table = spacing_of style (lines_of style table)

-- the total height of a layout of the table, in lines
abbrev pub total_height : Style → OpenTable → OpenLayout → ℕ
total_height style table layout = total (row_gap_of style) (lines_of style table) layout.heights

-- the room that a layout gives a place, in columns of the page
abbrev pub width_for : Style → OpenLayout → Place → ℕ
width_for style layout place = room (gap_of style) layout.widths place.left place.right

-- the room that a layout gives a place, in lines
abbrev pub height_for : Style → OpenTable → OpenLayout → Place → ℕ
height_for style table layout place =
    room (row_gap_of style) layout.heights place.top place.bottom + lines_inside style table place

-- a block's share of its cell: so many lines, and the layouts of the nested tables that it is, one or none
pub record Share : Type 0 where
  pub height : ℕ
  pub inner : List Layout

-- the paragraph has a cutting that holds in `w` columns, into at most `h` lines
abbrev pub FitsParagraph : ℕ → List Atom → ℕ → Type 0
FitsParagraph w paragraph h = (cut : List (List (List Atom))) × IsCutting paragraph cut × HoldsIn w cut ×
    (length (joined cut) ≤ h)

-- a nested table fits a page of `w` columns by the layout of its share, with a total height of at most the lines of
-- the share
pub record FitsInside (fits : ℕ → ℕ → Layout → Type 0) (w : ℕ) (share : Share) : Type 0 where
  pub layout : Layout
  pub height : ℕ
  pub laid : fits w height layout
  pub within : height ≤ share.height
  pub given : share.inner ≡ layout ∷ []

-- a block fits in `w` columns by its share; `fits` says which layouts fit a nested table
abbrev pub FitsShare : (Table → ℕ → ℕ → Layout → Type 0) → ℕ → OpenContent → Share → Type 0
FitsShare fits w (open_content.Para paragraph) share = FitsParagraph w paragraph share.height × (share.inner ≡ [])
FitsShare fits w (open_content.Table box) share = FitsInside (fits box.value) w share

-- a cell fits in a room of `w` columns and `h` lines: the room is as wide as the cell's floor, and its blocks stand
-- one under the other, its nested tables by these layouts
pub record FitsRoom (fits : Table → ℕ → ℕ → Layout → Type 0) (w h : ℕ) (cell : OpenCell)
    (inner : List Layout) : Type 0 where
  pub floor : cell.least ≤ w
  pub shares : List Share
  pub blocks : AllZip (λ block share. FitsShare fits w (out-Content block) share) cell.blocks shares
  pub within : sum_by (λ share. share.height) shares ≤ h
  pub given : flat_map (λ share. share.inner) shares ≡ inner

-- a cell of the table fits in the room that the layout gives it
abbrev pub FitsCell : (Table → ℕ → ℕ → Layout → Type 0) → Style → OpenTable → OpenLayout → OpenCell → List Layout → Type 0
FitsCell fits style table layout cell inner = FitsRoom fits (width_for style layout cell.place)
    (height_for style table layout cell.place) cell inner

-- the layout fits a page of `width` columns with a total height of `height` lines, where `fits` says the same of the
-- tables nested in its cells
pub record FitsBy (fits : Table → ℕ → ℕ → Layout → Type 0) (style : Style) (table : OpenTable) (width height : ℕ)
    (layout : OpenLayout) : Type 0 where
  pub columns : length layout.widths ≡ table.cols
  pub rows : length layout.heights ≡ table.rows
  pub within : total_width style layout ≤ width
  pub high : total_height style table layout ≡ height
  pub parts : List (List Layout)
  pub cells : AllZip (λ cell inner. FitsCell fits style table layout (out-TableCell cell) inner) table.cells parts
  pub given : flat_map (λ inner. inner) parts ≡ layout.inner

-- the layout fits, of a table with fewer than `depth` tables inside one another
abbrev pub FitsWithin : ℕ → Style → Table → ℕ → ℕ → Layout → Type 0
FitsWithin zero style table width height layout = ⊥
FitsWithin (suc depth) style table width height layout =
    FitsBy (FitsWithin depth style) style (out-Table table) width height (out-Layout layout)

-- the layout fits a page of `width` columns with a total height of `height` lines
abbrev pub Fits : Table → Style → ℕ → ℕ → Layout → Type 0
Fits table style width height layout = (depth : ℕ) × FitsWithin depth style table width height layout
