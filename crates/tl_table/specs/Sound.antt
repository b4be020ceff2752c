-- When a table is sound: what `table` and `from_csv` give, and what every call that takes a table may count on. Its grid is
-- one of the HTML Standard's, "Forming a table", in which no two cells share a slot, and a file can spell it.
use Rattle.std.specs.Prelude.{ℕ, zero, suc, ◌+◌, ◌<◌, ◌≤◌, List, [], ◌∷◌, sum_by}
use Rattle.std.specs.List.{All, AllPairs, AllByRecursion, flat_map, range_with_len}
use Rattle.std.specs.List.Sorted.{IsPermutation}
use Rattle.tl_base.specs.declared.breaking.Breaking.{Breaking}
use Rattle.tl_base.specs.declared.limits.TheConstants.{MAX_COLUMNS, MAX_DEPTH, MAX_FILE_BYTES, MAX_PAGE_WIDTH, MAX_ROWS}
use Rattle.tl_base.specs.declared.limits.TheConstants.{MAX_TABLES}
use Rattle.tl_grid.specs.Dropping.{IsPlaced}
use Rattle.tl_grid.specs.Slots.{AreApart, HasAnchorInColumn, HasAnchorInRow}
use Rattle.tl_text.specs.Paragraph.{IsParagraph, atom_size}
use Rattle.tl_table.specs.declared.cell.Content.TheOpen as open_content
use Rattle.tl_table.specs.declared.cell.Table.{Table, out-Table, fold-Table}
use Rattle.tl_table.specs.declared.cell.TableCell.{TableCell, out-TableCell, fold-TableCell}
use Rattle.tl_table.specs.declared.cell.Content.{Content, fold-Content, out-Content}
use Rattle.tl_table.specs.Spellable.{IsSpellable}
use Rattle.tl_table.specs.Tables.{OpenCell, OpenContent, OpenTable, inner_tables, tables_in, tables_of}
pub use Rattle.tl_table.specs.Tables.{ComesBefore, place_of, places_of}

-- ---- how much a table holds, by a fold over it

-- a paragraph counts the bytes of its units and 1 for each break, a nested table what it counts
abbrev pub content_count : open_content.Content-F ℕ ℕ ℕ → ℕ
content_count (open_content.Para paragraph) = sum_by atom_size paragraph
content_count (open_content.Table box) = box.value

-- a cell counts 1 and its blocks
abbrev pub cell_count : open_content.TableCell-F ℕ ℕ ℕ → ℕ
cell_count cell = 1 + sum_by (λ block. block) cell.blocks

-- a table counts its cells
abbrev pub cells_in_table : open_content.Table-F ℕ ℕ ℕ → ℕ
cells_in_table table = sum_by (λ cell. cell) table.cells

-- the number of cells of a table, and the bytes and breaks of their paragraphs, those of nested tables included
abbrev pub table_size : Table → ℕ
table_size = fold-Table ℕ ℕ ℕ content_count cells_in_table cell_count

-- 1 for the cell, the bytes and breaks of its paragraphs, and the sizes of the tables nested in it
abbrev pub cell_size : TableCell → ℕ
cell_size = fold-TableCell ℕ ℕ ℕ content_count cells_in_table cell_count

-- the bytes and breaks of a block that is a paragraph, the size of one that is a nested table
abbrev pub content_size : Content → ℕ
content_size = fold-Content ℕ ℕ ℕ content_count cells_in_table cell_count

-- ---- how many tables a table has inside, by a fold over it

-- a nested table counts 1 and those inside it
abbrev pub content_tables : open_content.Content-F ℕ ℕ ℕ → ℕ
content_tables (open_content.Para paragraph) = 0
content_tables (open_content.Table box) = 1 + box.value

-- a cell counts the tables of its blocks
abbrev pub cell_tables : open_content.TableCell-F ℕ ℕ ℕ → ℕ
cell_tables cell = sum_by (λ block. block) cell.blocks

-- a table counts the tables of its cells
abbrev pub table_tables : open_content.Table-F ℕ ℕ ℕ → ℕ
table_tables table = sum_by (λ cell. cell) table.cells

-- the number of tables inside a table, at all depths
abbrev pub nested_in_table : Table → ℕ
nested_in_table = fold-Table ℕ ℕ ℕ content_tables table_tables cell_tables

-- the number of tables inside a cell, at all depths
abbrev pub nested_in_cell : TableCell → ℕ
nested_in_cell = fold-TableCell ℕ ℕ ℕ content_tables table_tables cell_tables

-- the number of tables in a block, at all depths; a block that is a table is one of them
abbrev pub nested_in_content : Content → ℕ
nested_in_content = fold-Content ℕ ℕ ℕ content_tables table_tables cell_tables

-- ---- the numbers of the tables that a table has inside, by a fold over it

-- a block has the numbers of the table that it is; a paragraph has none
abbrev pub content_numbers : open_content.Content-F (List ℕ) (List ℕ) (List ℕ) → List ℕ
content_numbers (open_content.Para paragraph) = []
content_numbers (open_content.Table box) = box.value

-- a cell has the numbers of its blocks
abbrev pub cell_numbers : open_content.TableCell-F (List ℕ) (List ℕ) (List ℕ) → List ℕ
cell_numbers cell = flat_map (λ block. block) cell.blocks

-- a table has its own number and those of its cells
abbrev pub table_numbers : open_content.Table-F (List ℕ) (List ℕ) (List ℕ) → List ℕ
table_numbers table = table.number ∷ flat_map (λ cell. cell) table.cells

-- the number of a table and those of the tables inside it, at all depths
abbrev pub numbers_of_table : Table → List ℕ
numbers_of_table = fold-Table (List ℕ) (List ℕ) (List ℕ) content_numbers table_numbers cell_numbers

-- the numbers of the tables inside a cell, at all depths
abbrev pub numbers_in_cell : TableCell → List ℕ
numbers_in_cell = fold-TableCell (List ℕ) (List ℕ) (List ℕ) content_numbers table_numbers cell_numbers

-- the numbers of the tables in a block, at all depths; a block that is a table is one of them
abbrev pub numbers_in_content : Content → List ℕ
numbers_in_content = fold-Content (List ℕ) (List ℕ) (List ℕ) content_numbers table_numbers cell_numbers

-- the numbers of the tables inside a table, in the order of its cells and their blocks
abbrev pub numbers_inside : OpenTable → List ℕ
numbers_inside table = flat_map numbers_in_cell table.cells

-- how many tables are inside
abbrev pub count_inside : OpenTable → ℕ
count_inside table = sum_by nested_in_cell table.cells

-- ---- soundness

-- a block that is a paragraph has units or breaks, each unit with its text
abbrev pub IsSpeltBlock : OpenContent → Type 0
IsSpeltBlock (open_content.Para paragraph) = IsParagraph paragraph
IsSpeltBlock (open_content.Table box) = Unit {0}

-- a table whose grid is sound; `sound` says the same of the tables nested directly in it
pub record IsSoundBy (sound : Table → Type 0) (table : OpenTable) : Type 0 where
  pub few_columns : table.cols ≤ MAX_COLUMNS
  -- a caption has a row of its own
  pub few_rows : table.rows ≤ MAX_ROWS + 1
  pub placed : All (IsPlaced table.cols table.rows) (places_of table)
  pub apart : AllPairs AreApart (places_of table)
  pub in_order : AllPairs ComesBefore (places_of table)
  pub columns : (column : ℕ) → column < table.cols → HasAnchorInColumn (places_of table) column
  pub rows : (row : ℕ) → row < table.rows → HasAnchorInRow (places_of table) row
  pub narrow : All (λ cell. (out-TableCell cell).least ≤ MAX_PAGE_WIDTH) table.cells
  pub spelt : All (λ cell. AllByRecursion (λ block. IsSpeltBlock (out-Content block)) (out-TableCell cell).blocks) table.cells
  -- the tables inside have the numbers that follow the table's own, in some order, as footers move
  pub numbered : IsPermutation (numbers_inside table) (range_with_len (table.number + 1) (count_inside table))
  pub inner : AllByRecursion sound (inner_tables table)

-- a table with fewer than `depth` tables inside one another, each with a sound grid
abbrev pub IsSoundWithin : ℕ → Table → Type 0
IsSoundWithin zero table = ⊥
IsSoundWithin (suc depth) table = IsSoundBy (IsSoundWithin depth) (out-Table table)

-- a sound table within the limits of depth, of tables and of a file's size: each cell counts beside the bytes of its text,
-- and in a file of CSV one cell has no separator. A file can spell it, by some breaking
pub record IsSound (table : Table) : Type 0 where
  pub depth : ℕ
  pub shallow : depth ≤ MAX_DEPTH
  pub sound : IsSoundWithin depth table
  -- the greatest number inside
  pub few_tables : (out-Table table).number + nested_in_table table < MAX_TABLES
  pub size : table_size table ≤ MAX_FILE_BYTES + 1
  pub breaking : Breaking
  pub spellable : IsSpellable breaking table

-- a block that is a table is sound
abbrev pub IsSoundBlock : OpenContent → Type 0
IsSoundBlock block = AllByRecursion IsSound (tables_of block)

-- a cell's floor is no wider than the widest page, and the tables nested in it are sound
pub record IsSoundCell (cell : OpenCell) : Type 0 where
  pub narrow : cell.least ≤ MAX_PAGE_WIDTH
  pub inner : AllByRecursion IsSound (tables_in cell)
