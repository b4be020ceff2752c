-- What a file can spell, beside the grid that a sound table has: the caption and the rows that the HTML Standard gives
-- ("Forming a table", 4.9.12), and paragraphs of whole words that text can stand for. Each sound table is so. A table that was
-- put together by hand may not be: with an empty slot to the left of a cell, with a caption that has a floor, with a control
-- character in a word, or with units that the breaking does not give. Which of its rows are of a `thead` is not asked here.
use Rattle.std.specs.Prelude.{◌≡◌, ℕ, zero, suc, ◌+◌, ◌≤◌, Bool, List, [], ◌∷◌, ◌++◌, length}
use Rattle.std.specs.List.{All, AllByRecursion}
use Rattle.tl_base.specs.declared.breaking.Breaking.{Breaking}
use Rattle.tl_base.specs.declared.limits.TheConstants.{MAX_CELLS, MAX_ROWS}
use Rattle.tl_grid.specs.Slots.{IsFilledToLeft}
use Rattle.tl_text.specs.declared.paragraph.Atom.{Atom}
use Rattle.tl_tree.specs.Sound.{IsPlainParagraph}
use Rattle.tl_table.specs.declared.cell.Content.{Content, out-Content}
use Rattle.tl_table.specs.declared.cell.Content.TheOpen as open_content
use Rattle.tl_table.specs.declared.cell.Kind.TheVariants as kinds
use Rattle.tl_table.specs.declared.cell.Table.{Table, out-Table}
use Rattle.tl_table.specs.declared.cell.TableCell.{TableCell, out-TableCell}
use Rattle.tl_table.specs.Formed.{broken, header_kind}
use Rattle.tl_table.specs.Tables.{OpenCell, OpenContent, OpenTable, inner_tables, places_of}

-- the units of a paragraph are those of whole words without control characters, by the breaking
abbrev pub IsSpellableBlock : Breaking → OpenContent → Type 0
IsSpellableBlock breaking (open_content.Para units) =
    (words : List Atom) × IsPlainParagraph words × (units ≡ broken breaking words)
IsSpellableBlock breaking (open_content.Table box) = Unit {0}

-- so it is of each paragraph among the blocks
abbrev pub AreSpellableBlocks : Breaking → List Content → Type 0
AreSpellableBlocks breaking blocks = AllByRecursion (λ block. IsSpellableBlock breaking (out-Content block)) blocks

-- a caption lies over all columns of the first row, and has no floor
pub record IsCaption (cols : ℕ) (cell : OpenCell) : Type 0 where
  pub kind : cell.kind ≡ kinds.Caption
  pub place : cell.place ≡ record { left = 0; right = cols; top = 0; bottom = 1 }
  pub least : cell.least ≡ 0

-- no cell, or one that is a caption
abbrev pub AreCaption : ℕ → List TableCell → Type 0
AreCaption cols [] = Unit {0}
AreCaption cols (cell ∷ cells) = IsCaption cols (out-TableCell cell) × (cells ≡ [])

-- a cell of a row is a header cell or a plain one
abbrev pub IsRowCell : TableCell → Type 0
IsRowCell cell = (head : Bool) × ((out-TableCell cell).kind ≡ header_kind head)

-- a file can spell the table, where `spellable` says so of the tables nested directly in it
pub record IsSpellableBy (spellable : Table → Type 0) (breaking : Breaking) (table : OpenTable) : Type 0 where
  -- the caption, if there is one, comes before the cells of the rows
  pub caption : List TableCell
  pub body : List TableCell
  pub split : table.cells ≡ caption ++ body
  pub captioned : AreCaption table.cols caption
  pub in_rows : AllByRecursion IsRowCell body
  -- no more rows and cells than a grid may have, besides the caption's
  pub few_rows : table.rows ≤ MAX_ROWS + length caption
  pub few_cells : length body ≤ MAX_CELLS
  -- no slot to the left of a cell is empty in its first row
  pub filled : All (IsFilledToLeft (places_of table)) (places_of table)
  pub words : AllByRecursion (λ cell. AreSpellableBlocks breaking (out-TableCell cell).blocks) table.cells
  pub inner : AllByRecursion spellable (inner_tables table)

-- a file can spell a table with fewer than `depth` tables inside one another, by the breaking
abbrev pub IsSpellableWithin : ℕ → Breaking → Table → Type 0
IsSpellableWithin zero breaking table = ⊥
IsSpellableWithin (suc depth) breaking table = IsSpellableBy (IsSpellableWithin depth breaking) breaking (out-Table table)

-- a file can spell the table by the breaking
abbrev pub IsSpellable : Breaking → Table → Type 0
IsSpellable breaking table = (depth : ℕ) × IsSpellableWithin depth breaking table
