-- No public clause cites this file: it says what the code that fills cells is given and gives, which layouts of nested
-- tables are left, and which lines stand in a cell so far.
use Rattle.std.specs.Prelude.{◌≡◌, ℕ, ◌≤◌, List, ◌++◌, drop, length, map}
use Rattle.std.specs.List.{AllZip, flat_map}
use Rattle.tl_base.specs.declared.limits.TheConstants.{MAX_HEIGHT, MAX_PAGE_WIDTH}
use Rattle.tl_base.specs.declared.style.Style.{Style}
use Rattle.tl_base.specs.Style.{gap_of, edge_of}
use Rattle.tl_sides.specs.declared.side.Side.{Side}
use Rattle.tl_table.specs.declared.cell.Table.{Table, out-Table}
use Rattle.tl_table.specs.declared.cell.TableCell.{out-TableCell}
use Rattle.tl_table.specs.declared.layout.Layout.{Layout, out-Layout}
use Rattle.tl_table.specs.Tables.{OpenTable, OpenCell, OpenContent}
use Rattle.tl_table.specs.Heads.{head_row}
use Rattle.tl_table.specs.Layouts.{OpenLayout, Share, Fits, FitsWithin, FitsShare, FitsRoom}
use Rattle.tl_table.specs.Sound.{places_of}
use Rattle.tl_page.specs.declared.line.Drawn.{Drawn}
use Rattle.tl_page.specs.declared.line.TextLine.{TextLine}
use Rattle.tl_page.specs.Corners.{owner_of}
use Rattle.tl_page.specs.declared.look.Look.{Look}
use Rattle.tl_page.specs.Pages.{Content, ShowsBlock, ShowsCell, ShowsCellOf, ShowsWithin, grid_of}
use Rattle.tl_page.specs.Pictures.{Picture, drawn_cells, row_gaps}
use Rattle.tl_page.specs.Strips.{even, strips}

-- ---- what is given

-- the layout fits some page
abbrev pub FitsPage : Style → Table → Layout → Type 0
FitsPage style table layout =
    (width height : ℕ) × (width ≤ MAX_PAGE_WIDTH) × (height ≤ MAX_HEIGHT) × Fits table style width height layout

-- the block fits in `w` columns by a share whose layouts come next
pub record FitsBlockRoom (style : Style) (w : ℕ) (block : OpenContent) (inner : List Layout) (next : ℕ) : Type 0 where
  pub narrow : w ≤ MAX_PAGE_WIDTH
  pub depth : ℕ
  pub share : Share
  pub low : share.height ≤ MAX_HEIGHT
  pub fits : FitsShare (FitsWithin depth style) w block share
  pub more : List Layout
  pub rest : share.inner ++ more ≡ drop next inner

-- the cell fits in `w` columns by layouts that come next
pub record FitsCellRoom (style : Style) (w : ℕ) (cell : OpenCell) (inner : List Layout) (next : ℕ) : Type 0 where
  pub narrow : w ≤ MAX_PAGE_WIDTH
  pub depth : ℕ
  pub height : ℕ
  pub low : height ≤ MAX_HEIGHT
  pub given : List Layout
  pub fits : FitsRoom (FitsWithin depth style) w height cell given
  pub more : List Layout
  pub rest : given ++ more ≡ drop next inner

-- ---- what is given back

-- the block's lines come after `before`, and its layouts stand from `next` on and before `after`
pub record ShowsPart (look : Look) (side : Side) (w : ℕ) (block : OpenContent) (inner : List Layout) (next after : ℕ)
    (before lines : List TextLine) : Type 0 where
  pub depth : ℕ
  pub content : Content
  pub shows : ShowsBlock (ShowsWithin depth look) look side w block content
  pub written : lines ≡ before ++ content.lines
  pub rest : content.inner ++ drop after inner ≡ drop next inner

-- the cell's lines, and its layouts
pub record ShowsParts (look : Look) (side : Side) (w : ℕ) (cell : OpenCell) (inner : List Layout) (next after : ℕ)
    (lines : List TextLine) : Type 0 where
  pub depth : ℕ
  pub content : Content
  pub shows : ShowsCell (ShowsWithin depth look) look side w cell content
  pub written : lines ≡ content.lines
  pub rest : content.inner ++ drop after inner ≡ drop next inner

-- the cells of a table with their lines
pub record ShowsCells (look : Look) (table : Table) (layout : Layout) (cells : List Drawn) : Type 0 where
  pub depth : ℕ
  pub contents : List Content
  pub shows : AllZip (λ cell content. ShowsCellOf (ShowsWithin depth look) look (out-Table table) (out-Layout layout)
      (out-TableCell cell) content) (out-Table table).cells contents
  pub inner : flat_map (λ content. content.inner) contents ≡ (out-Layout layout).inner
  pub rows : length (out-Layout layout).heights ≡ (out-Table table).rows
  pub drawn : cells ≡ drawn_cells look.style (row_gaps look.style (grid_of (out-Table table))) (out-Layout layout).widths (out-Layout layout).heights
      (places_of (out-Table table)) (map (λ content. content.lines) contents)

-- the picture of a table with these cells
abbrev pub picture_with : Style → OpenTable → OpenLayout → List Drawn → Picture
picture_with style table layout cells = record {
  style = style;
  across = strips (even (gap_of style)) (edge_of style) layout.widths;
  down = strips (row_gaps style (grid_of table)) (edge_of style) layout.heights;
  owner = owner_of (grid_of table);
  head = head_row table;
  cells = cells;
}
