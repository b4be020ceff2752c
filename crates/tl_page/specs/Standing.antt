-- Where the text of a table stands on its page: each line of a cell whole, under the one before it, after the columns
-- to the left of the cell; and the text of a nested table likewise on the table's own page.
--
--   +---+-----+      the lines of the second cell, `cc dd` and `ee`, stand on lines 1 and 2, each after 5 columns:
--   |aaa|cc dd|      the edge, the first column and the gap
--   |bbb|ee   |
--   +---+-----+
use Rattle.std.specs.Prelude.{◌≡◌, ℕ, zero, suc, ◌+◌, List, ◌++◌, Some, map, slice_get}
use Rattle.std.specs.List.{All, AllZip}
use Rattle.tl_align.specs.Sides.{side_of}
use Rattle.tl_base.specs.Style.{gap_of, edge_of}
use Rattle.tl_base.specs.Sizes.{position}
use Rattle.tl_sides.specs.declared.side.Side.{Side}
use Rattle.tl_text.specs.declared.paragraph.Atom.{Atom}
use Rattle.tl_text.specs.Cuttings.{joined, IsCutting}
use Rattle.tl_table.specs.declared.cell.Content.{out-Content}
use Rattle.tl_table.specs.declared.cell.Content.TheOpen as open_content
use Rattle.tl_table.specs.declared.cell.Table.{Table, out-Table}
use Rattle.tl_table.specs.declared.cell.TableCell.{out-TableCell}
use Rattle.tl_table.specs.declared.layout.Layout.{Layout, out-Layout}
use Rattle.tl_table.specs.Tables.{OpenTable, OpenCell, OpenContent}
use Rattle.tl_table.specs.Layouts.{OpenLayout, width_for}
use Rattle.tl_page.specs.declared.look.Look.{Look}
use Rattle.tl_page.specs.Pages.{IsPage, aligned, grid_of, line_from}
use Rattle.tl_page.specs.Pictures.{row_gaps}
use Rattle.tl_page.specs.Strips.{begin_in}
use Rattle.tl_page.specs.Widths.{TakesColumns}

-- the text stands whole on line `y` of the page, after `x` columns
pub record TextStandsAt (page : List (List ℕ)) (x y : ℕ) (text : List ℕ) : Type 0 where
  pub before : List ℕ
  pub after : List ℕ
  pub columns : TakesColumns before x
  pub line : slice_get page y ≡ Some (before ++ (text ++ after))

-- the texts stand one under the other, the first on line `y`, each after `x` columns
abbrev pub TextsStandAt : List (List ℕ) → ℕ → ℕ → List (List ℕ) → Type 0
TextsStandAt page x y texts = (k : ℕ) (text : List ℕ) → slice_get texts k ≡ Some text → TextStandsAt page x (y + k) text

-- a line of units with the spaces before it that bring it to its side of a room of `w` columns
abbrev pub aligned_text : Side → ℕ → List Atom → List ℕ
aligned_text side w line = (aligned side w (line_from line)).text

-- the texts of a block of a cell at that side of a room of `w` columns: the lines of a cutting of a paragraph, which are all
-- its units, whole and in order, each after the spaces that bring it to its side; or the lines of a page of a nested table,
-- of which `holds` says that it has all of the table's text
abbrev pub AreTextsOf : Look → (Table → Layout → List (List ℕ) → Type 0) → Side → ℕ → OpenContent → List (List ℕ) → Type 0
AreTextsOf look holds side w (open_content.Para paragraph) texts =
    (cut : List (List (List Atom))) × IsCutting paragraph cut × (texts ≡ map (aligned_text side w) (joined cut))
AreTextsOf look holds side w (open_content.Table box) texts =
    (layout : Layout) × IsPage look box.value layout texts × holds box.value layout texts

-- the blocks of a cell at that side of a room of `w` columns stand one under the other, the first on line `y`, after `x` columns
pub record StandsWhole (look : Look) (holds : Table → Layout → List (List ℕ) → Type 0) (page : List (List ℕ)) (x y : ℕ)
    (side : Side) (w : ℕ) (cell : OpenCell) : Type 0 where
  pub texts : List (List (List ℕ))
  pub blocks : AllZip (λ block text. AreTextsOf look holds side w (out-Content block) text) cell.blocks texts
  pub standing : TextsStandAt page x y (joined texts)

-- each cell of a table stands whole on the page, where its first column and its first row begin
abbrev pub HoldsBy : (Table → Layout → List (List ℕ) → Type 0) → Look → OpenTable → OpenLayout → List (List ℕ) → Type 0
HoldsBy holds look table layout page = All (λ cell. StandsWhole look holds page
    (edge_of look.style + position (gap_of look.style) layout.widths (out-TableCell cell).place.left)
    (edge_of look.style + begin_in (row_gaps look.style (grid_of table)) layout.heights (out-TableCell cell).place.top)
    (side_of look.align table (out-TableCell cell)) (width_for look.style layout (out-TableCell cell).place)
    (out-TableCell cell)) table.cells

-- each cell of a table with fewer than `depth` tables inside one another stands whole on the page, nested tables included
abbrev pub HoldsWithin : ℕ → Look → Table → Layout → List (List ℕ) → Type 0
HoldsWithin zero look table layout page = ⊥
HoldsWithin (suc depth) look table layout page =
    HoldsBy (HoldsWithin depth look) look (out-Table table) (out-Layout layout) page

-- all text of a table, that of nested tables included, stands whole and in order on its page
abbrev pub HoldsAllText : Look → Table → Layout → List (List ℕ) → Type 0
HoldsAllText look table layout page = (depth : ℕ) × HoldsWithin depth look table layout page
