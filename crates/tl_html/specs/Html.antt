-- The HTML page of a table in a layout. A flow is a cell's blocks in order: paragraphs, and nested tables in this same
-- form. The escapes are those of the HTML Standard, "Serializing HTML fragments" (13.3), for text.
use Rattle.std.specs.Prelude.{ℕ, ◌-◌, Bool, true, false, nat_lt, ◌==◌, List, [], ◌∷◌, ◌++◌, decimal, codes, if◌then◌else◌}
use Rattle.std.specs.List.{flat_map, range_with_len, list_any}
use Rattle.std.specs.Str.{encode_utf8_all}
use Rattle.tl_grid.specs.declared.shape.Place.{Place}
use Rattle.tl_text.specs.declared.paragraph.Atom.{Atom}
use Rattle.tl_text.specs.declared.paragraph.Atom.TheVariants.{Word, Glue, Break}
use Rattle.tl_table.specs.declared.cell.Content.TheOpen as open_content
use Rattle.tl_table.specs.declared.cell.Kind.{Kind}
use Rattle.tl_table.specs.declared.cell.Kind.TheVariants as kinds
use Rattle.tl_table.specs.declared.cell.Content.{Content, fold-Content}
use Rattle.tl_table.specs.declared.cell.Table.{Table, fold-Table}
use Rattle.tl_table.specs.declared.cell.TableCell.{TableCell, fold-TableCell}
use Rattle.tl_table.specs.declared.layout.Layout.{Layout, out-Layout}
use Rattle.tl_html.specs.declared.filled.Filled.{Filled}

-- ---- paragraphs

-- a character of a word, escaped where text may not have it as it is
abbrev pub escaped : ℕ → List ℕ
escaped c = if c == 0x26 then codes "&amp;" else if c == 0x3C then codes "&lt;" else if c == 0x3E then codes "&gt;" else
    if c == 0xA0 then codes "&nbsp;" else c ∷ []

-- a unit of a paragraph as it stands in a flow
abbrev pub atom_html : Atom → List ℕ
atom_html (Word text) = flat_map escaped text
atom_html (Glue text) = flat_map escaped text
atom_html Break = codes "<br>"

-- a word that follows a unit on its line has a space before it
abbrev pub space_before : Bool → Atom → List ℕ
space_before true (Word text) = 0x20 ∷ []
space_before _ _ = []

-- a word or a glue stands on a line; a break ends one
abbrev pub is_unit : Atom → Bool
is_unit Break = false
is_unit _ = true

-- the atoms of a paragraph, where a unit stands before them on their line or none does
abbrev pub atoms_html : Bool → List Atom → List ℕ
atoms_html follows [] = []
atoms_html follows (atom ∷ atoms) = space_before follows atom ++ atom_html atom ++ atoms_html (is_unit atom) atoms

-- a paragraph with its tags
abbrev pub paragraph_html : List Atom → List ℕ
paragraph_html paragraph = codes "<p>" ++ atoms_html false paragraph ++ codes "</p>"

-- ---- flows

-- what stands for some blocks, and the layouts of nested tables that come after them
pub record HtmlFlow : Type 0 where
  pub text : List ℕ
  pub rest : List Layout

-- a block takes the layouts of the nested tables that are left: none, or the first one
abbrev pub Block : Type 0
Block = List Layout → HtmlFlow

-- blocks one after the other
abbrev pub blocks_html : List Block → Block
blocks_html [] inner = record { text = []; rest = inner }
blocks_html (block ∷ blocks) inner =
    let first = block inner in
    let others = blocks_html blocks first.rest in
    record { text = first.text ++ others.text; rest = others.rest }

-- ---- cells

-- a cell: what it is, its place, its floor and its flow
pub record HtmlCell : Type 0 where
  pub kind : Kind
  pub place : Place
  pub least : ℕ
  pub flow : Block

-- the cells, each with its text
abbrev pub fill : List HtmlCell → List Layout → List Filled
fill [] inner = []
fill (cell ∷ cells) inner =
    let flow = cell.flow inner in
    record { kind = cell.kind; place = cell.place; least = cell.least; text = flow.text } ∷ fill cells flow.rest

-- an attribute with a number stands where the number is above its default
abbrev pub number_attribute : List ℕ → ℕ → ℕ → List ℕ
number_attribute name default number =
    if nat_lt default number then 0x20 ∷ name ++ codes "=\"" ++ decimal number ++ codes "\"" else []

-- the spans of a cell, and the least width that it asks for
abbrev pub attributes : Filled → List ℕ
attributes cell =
    number_attribute (codes "colspan") 1 (cell.place.right - cell.place.left)
    ++ number_attribute (codes "rowspan") 1 (cell.place.bottom - cell.place.top)
    ++ number_attribute (codes "data-min") 0 cell.least

-- the element of a cell of a row
abbrev pub element : Kind → List ℕ
element kinds.Head = codes "th"
element _ = codes "td"

-- a cell with its tags
abbrev pub cell_html : Filled → List ℕ
cell_html cell =
    0x3C ∷ element cell.kind ++ attributes cell ++ 0x3E ∷ cell.text ++ 0x3C ∷ 0x2F ∷ element cell.kind ++ 0x3E ∷ []

-- ---- tables

-- a line of the page ends with a line feed
abbrev pub line : List ℕ → List ℕ
line text = text ++ 0x0A ∷ []

-- a caption, and no cell of a row
abbrev pub is_caption_kind : Kind → Bool
is_caption_kind kinds.Caption = true
is_caption_kind _ = false

-- a cell that is a caption
abbrev pub is_caption : Filled → Bool
is_caption cell = is_caption_kind cell.kind

-- the line of a cell that is a caption, and nothing for another cell
abbrev pub caption_line : Filled → List ℕ
caption_line cell = if is_caption cell then line (codes "<caption>" ++ cell.text ++ codes "</caption>") else []

-- the line of the caption, where the table has one
abbrev pub caption_html : List Filled → List ℕ
caption_html cells = flat_map caption_line cells

-- a column by its width
abbrev pub column_html : ℕ → List ℕ
column_html width = codes "<col style=\"width:" ++ decimal width ++ codes "ch\">"

-- the line of the columns, where there is one
abbrev pub columns_html : List ℕ → List ℕ
columns_html [] = []
columns_html (width ∷ widths) = line (codes "<colgroup>" ++ flat_map column_html (width ∷ widths) ++ codes "</colgroup>")

-- a cell stands in the row in which it begins
abbrev pub cell_in_row : ℕ → Filled → List ℕ
cell_in_row row cell = if cell.place.top == row then cell_html cell else []

-- the cells of a row, from left to right
abbrev pub row_html : List Filled → ℕ → List ℕ
row_html cells row = line (codes "<tr>" ++ flat_map (cell_in_row row) cells ++ codes "</tr>")

-- how many rows a caption takes
abbrev pub caption_rows : List Filled → ℕ
caption_rows cells = if list_any is_caption cells then 1 else 0

-- the rows below the caption's
abbrev pub rows_html : ℕ → List Filled → List ℕ
rows_html rows cells =
    let captions = caption_rows cells in
    flat_map (row_html cells) (range_with_len captions (rows - captions))

-- a table whose nested tables stand as their flows say
abbrev pub table_page : open_content.Table-F Block (Layout → List ℕ) HtmlCell → Layout → List ℕ
table_page table layout =
    let cells = fill table.cells (out-Layout layout).inner in
    line (codes "<table>") ++ caption_html cells ++ columns_html (out-Layout layout).widths ++ rows_html table.rows cells
    ++ line (codes "</table>")

-- a block of a cell: a paragraph, or a nested table in the first of the layouts that are left
abbrev pub block_page : open_content.Content-F Block (Layout → List ℕ) HtmlCell → Block
block_page (open_content.Para paragraph) inner = record { text = paragraph_html paragraph; rest = inner }
block_page (open_content.Table box) [] = record { text = []; rest = [] }
block_page (open_content.Table box) (layout ∷ inner) = record { text = box.value layout; rest = inner }

-- a cell whose nested tables stand as their flows say
abbrev pub cell_page : open_content.TableCell-F Block (Layout → List ℕ) HtmlCell → HtmlCell
cell_page cell = record { kind = cell.kind; place = cell.place; least = cell.least; flow = blocks_html cell.blocks }

-- the flow of a block of a table
abbrev pub flow_of : Content → Block
flow_of = fold-Content Block (Layout → List ℕ) HtmlCell block_page table_page cell_page

-- a cell of a table, with its flow
abbrev pub cell_of : TableCell → HtmlCell
cell_of = fold-TableCell Block (Layout → List ℕ) HtmlCell block_page table_page cell_page

-- the characters of the HTML page of a table in a layout
abbrev pub html_of : Table → Layout → List ℕ
html_of = fold-Table Block (Layout → List ℕ) HtmlCell block_page table_page cell_page

-- the bytes of the page
abbrev pub html_bytes : Table → Layout → List ℕ
html_bytes table layout = encode_utf8_all (html_of table layout)
