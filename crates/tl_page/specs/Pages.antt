-- The text page of a table in a layout. Each cell's content is its blocks one under the other: a paragraph's greedy
-- lines in the cell's room, each at the cell's side, and a nested table's own page at the left.
use Rattle.std.specs.Prelude.{◌≡◌, ℕ, zero, suc, ◌+◌, ◌-◌, ◌/◌, List, [], ◌∷◌, ◌++◌, length, map, encode_utf8_all}
use Rattle.std.specs.List.{AllZip, flat_map}
use Rattle.tl_align.specs.Sides.{side_of}
use Rattle.tl_base.specs.declared.style.Style.{Style}
use Rattle.tl_sides.specs.declared.side.Side.{Side}
use Rattle.tl_sides.specs.declared.side.Side.TheVariants.{Left, Right, Center}
use Rattle.tl_text.specs.declared.paragraph.Atom.{Atom}
use Rattle.tl_text.specs.declared.paragraph.Atom.TheVariants.{Word, Glue, Break}
use Rattle.tl_text.specs.Paragraph.{gap_before}
use Rattle.tl_text.specs.Cuttings.{joined, line_width, IsGreedyCutting}
use Rattle.tl_table.specs.declared.cell.Content.{out-Content}
use Rattle.tl_table.specs.declared.cell.Content.TheOpen as open_content
use Rattle.tl_table.specs.declared.cell.Table.{Table, out-Table}
use Rattle.tl_table.specs.declared.cell.TableCell.{out-TableCell}
use Rattle.tl_table.specs.declared.layout.Layout.{Layout, out-Layout}
use Rattle.tl_table.specs.Tables.{OpenTable, OpenCell, OpenContent}
use Rattle.tl_table.specs.Heads.{end_of_head, head_row}
use Rattle.tl_table.specs.Layouts.{OpenLayout, total_width, width_for}
use Rattle.tl_table.specs.Sound.{places_of}
use Rattle.tl_page.specs.declared.line.TextLine.{TextLine}
use Rattle.tl_page.specs.declared.look.Look.{Look}
use Rattle.tl_page.specs.Corners.{Grid}
use Rattle.tl_page.specs.Pictures.{picture, spaces, lines_of}

-- ---- paragraphs

-- the bytes of a unit
abbrev pub text_of : Atom → List ℕ
text_of (Word text) = encode_utf8_all text
text_of (Glue text) = encode_utf8_all text
text_of Break = []

-- the units of a line, with the gap before each but the first
abbrev pub line_text : List Atom → List ℕ
line_text [] = []
line_text (unit ∷ units) = text_of unit ++ flat_map (λ next. spaces (gap_before next) ++ text_of next) units

-- a line of units with its width
abbrev pub line_from : List Atom → TextLine
line_from units = record { text = line_text units; width = line_width units }

-- the lines of the paragraph's greedy cutting in `w` columns
abbrev pub AreParagraphLines : ℕ → List Atom → List TextLine → Type 0
AreParagraphLines w paragraph lines =
    (cut : List (List (List Atom))) × IsGreedyCutting w paragraph cut × (lines ≡ map line_from (joined cut))

-- ---- sides

-- how many spaces bring a line of `width` columns to a side of a room of so many columns; in the middle the odd column is
-- left after the line
abbrev pub indent : Side → ℕ → ℕ → ℕ
indent Left columns width = 0
indent Right columns width = columns - width
indent Center columns width = (columns - width) / 2

-- the line with the spaces before it that bring it to its side of a room of so many columns
abbrev pub aligned : Side → ℕ → TextLine → TextLine
aligned side columns line = record {
  text = spaces (indent side columns line.width) ++ line.text;
  width = indent side columns line.width + line.width;
}

-- ---- blocks and cells

-- what a part of a cell gives: its lines, and the layouts of the nested tables in it that were used
pub record Content : Type 0 where
  pub lines : List TextLine
  pub inner : List Layout

-- the lines of a nested table's page: each is as wide as the layout
abbrev pub nested_lines : Style → Layout → List (List ℕ) → List TextLine
nested_lines style layout page = map (λ text. record { text = text; width = total_width style (out-Layout layout) }) page

-- a paragraph at a side of a room of `w` columns: each line is aligned alone
pub record ShowsParagraph (side : Side) (w : ℕ) (paragraph : List Atom) (content : Content) : Type 0 where
  pub lines : List TextLine
  pub cut : AreParagraphLines w paragraph lines
  pub at_side : content.lines ≡ map (aligned side w) lines
  pub inner : content.inner ≡ []

-- a nested table in this layout: it stands at the left
pub record ShowsTable (shows : Layout → List (List ℕ) → Type 0) (look : Look) (content : Content) : Type 0 where
  pub layout : Layout
  pub page : List (List ℕ)
  pub shown : shows layout page
  pub lines : content.lines ≡ nested_lines look.style layout page
  pub inner : content.inner ≡ layout ∷ []

-- a block of a cell at that side of a room of `w` columns; `shows` says which lines are the page of a nested table
abbrev pub ShowsBlock : (Table → Layout → List (List ℕ) → Type 0) → Look → Side → ℕ → OpenContent → Content → Type 0
ShowsBlock shows look side w (open_content.Para paragraph) content = ShowsParagraph side w paragraph content
ShowsBlock shows look side w (open_content.Table box) content = ShowsTable (shows box.value) look content

-- a cell at that side of a room of `w` columns: its blocks one under the other
pub record ShowsCell (shows : Table → Layout → List (List ℕ) → Type 0) (look : Look) (side : Side) (w : ℕ) (cell : OpenCell)
    (content : Content) : Type 0 where
  pub parts : List Content
  pub blocks : AllZip (λ block part. ShowsBlock shows look side w (out-Content block) part) cell.blocks parts
  pub lines : flat_map (λ part. part.lines) parts ≡ content.lines
  pub inner : flat_map (λ part. part.inner) parts ≡ content.inner

-- a cell of a table in its room, at its side
abbrev pub ShowsCellOf : (Table → Layout → List (List ℕ) → Type 0) → Look → OpenTable → OpenLayout → OpenCell → Content → Type 0
ShowsCellOf shows look table layout cell content =
    ShowsCell shows look (side_of look.align table cell) (width_for look.style layout cell.place) cell content

-- ---- pages

-- the grid of a table
abbrev pub grid_of : OpenTable → Grid
grid_of table = record {
  cols = table.cols;
  rows = table.rows;
  places = places_of table;
  head = head_row table;
  end = end_of_head table;
}

-- these are the lines of a table's page, in a layout with a height for each row; `shows` says the same of the tables nested in
-- its cells
pub record ShowsBy (shows : Table → Layout → List (List ℕ) → Type 0) (look : Look) (table : OpenTable)
    (layout : OpenLayout) (page : List (List ℕ)) : Type 0 where
  pub contents : List Content
  pub cells : AllZip (λ cell content. ShowsCellOf shows look table layout (out-TableCell cell) content) table.cells contents
  pub inner : flat_map (λ content. content.inner) contents ≡ layout.inner
  pub rows : length layout.heights ≡ table.rows
  pub drawn : page ≡ lines_of
      (picture look.style (grid_of table) layout.widths layout.heights (map (λ content. content.lines) contents))

-- these are the lines of the page of a table with fewer than `depth` tables inside one another
abbrev pub ShowsWithin : ℕ → Look → Table → Layout → List (List ℕ) → Type 0
ShowsWithin zero look table layout page = ⊥
ShowsWithin (suc depth) look table layout page =
    ShowsBy (ShowsWithin depth look) look (out-Table table) (out-Layout layout) page

-- these are the lines of the table's page in the layout
abbrev pub IsPage : Look → Table → Layout → List (List ℕ) → Type 0
IsPage look table layout page = (depth : ℕ) × ShowsWithin depth look table layout page

-- the bytes of a page: each line ends with a line feed
abbrev pub page_bytes : List (List ℕ) → List ℕ
page_bytes page = flat_map (λ line. line ++ 0x0A ∷ []) page
