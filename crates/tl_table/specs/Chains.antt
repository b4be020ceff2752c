-- Chains of columns: cells of a table side by side, whose widths no page can do without. What a chain weighs is a
-- lower bound on the width of every page that the table fits.
use Rattle.std.specs.Prelude.{◌≡◌, ℕ, zero, suc, ◌+◌, ◌-◌, ◌*◌, ◌<◌, ◌≤◌, max, List, [], ◌∷◌, length, sum_by, Option, Some, None}
use Rattle.std.specs.Prelude.{Contains, slice_get}
use Rattle.std.specs.List.{AllZip, flat_map}
use Rattle.tl_base.specs.declared.style.Style.{Style}
use Rattle.tl_base.specs.Style.{gap_of, edges_of}
use Rattle.tl_grid.specs.declared.shape.Place.{Place}
use Rattle.tl_base.specs.declared.chain.Chain.{Chain}
use Rattle.tl_base.specs.declared.chain.Entry.{Entry}
use Rattle.tl_text.specs.declared.paragraph.Atom.{Atom}
use Rattle.tl_text.specs.Paragraph.{unit_width}
use Rattle.tl_table.specs.declared.cell.Content.{Content, out-Content}
use Rattle.tl_table.specs.declared.cell.Content.TheOpen as open_content
use Rattle.tl_table.specs.declared.cell.Table.{Table, out-Table}
use Rattle.tl_table.specs.declared.cell.TableCell.{TableCell, out-TableCell}
use Rattle.tl_table.specs.Tables.{OpenTable, OpenCell, OpenContent, tables_in}

-- the width of the widest unit of a paragraph, 0 where there is no unit
abbrev pub widest_unit : List Atom → ℕ
widest_unit [] = 0
widest_unit (atom ∷ atoms) = max (unit_width atom) (widest_unit atoms)

-- the width of the widest unit among a cell's own blocks; a nested table has none of its own
abbrev pub widest_in : OpenContent → ℕ
widest_in (open_content.Para paragraph) = widest_unit paragraph
widest_in (open_content.Table box) = 0

-- the widest unit of blocks
abbrev pub widest_among : List Content → ℕ
widest_among [] = 0
widest_among (block ∷ blocks) = max (widest_in (out-Content block)) (widest_among blocks)

-- a cell's own width: the greater of its floor and its widest unit
abbrev pub own_width : OpenCell → ℕ
own_width cell = max cell.least (widest_among cell.blocks)

-- an entry with what it stands for: the place of its cell, its width, and the chains of a nested table that give it
pub record Link : Type 0 where
  pub place : Place
  pub width : ℕ
  pub inner : List Chain

-- an entry has its cell's own width, or what a chain of a table nested directly in the cell weighs; `weighs` says
-- which chains are a nested table's, and what they weigh
abbrev pub HasWidth : (Table → List Chain → ℕ → Type 0) → OpenCell → Option ℕ → Link → Type 0
HasWidth weighs cell None link = (link.width ≡ own_width cell) × (link.inner ≡ [])
HasWidth weighs cell (Some number) link = (nested : Table) × Contains (tables_in cell) nested ×
    ((out-Table nested).number ≡ number)
    × weighs nested link.inner link.width

-- the entry names a cell of the table, and stands for this
pub record IsLink (weighs : Table → List Chain → ℕ → Type 0) (table : OpenTable) (entry : Entry)
    (link : Link) : Type 0 where
  pub cell : TableCell
  pub named : slice_get table.cells entry.cell ≡ Some cell
  pub placed : link.place ≡ (out-TableCell cell).place
  pub wide : HasWidth weighs (out-TableCell cell) entry.inner link

-- from a column on, each begins at or past the right edge of the one before
abbrev pub AreSideBySide : ℕ → List Link → Type 0
AreSideBySide from [] = Unit {0}
AreSideBySide from (link ∷ links) = (from ≤ link.place.left) × AreSideBySide link.place.right links

-- how many columns the entries cover
abbrev pub covered : List Link → ℕ
covered links = sum_by (λ link. link.place.right - link.place.left) links

-- what entries weigh in a table of so many columns: their widths, a gap between each two of the entries and columns
-- that no entry covers, and both edges
abbrev pub links_weight : Style → ℕ → List Link → ℕ
links_weight style cols links = sum_by (λ link. link.width) links + gap_of style *
    (length links + (cols - covered links) - 1)
    + edges_of style

-- the chains are one of the table, and after it, for its entries in order, those of the nested tables that give their
-- widths; the first weighs `weight`
pub record IsChainBy (weighs : Table → List Chain → ℕ → Type 0) (style : Style) (table : OpenTable)
    (chains : List Chain) (weight : ℕ) : Type 0 where
  pub chain : Chain
  pub links : List Link
  pub of_table : chain.table ≡ table.number
  pub has_entry : 0 < length chain.entries
  pub stand : AllZip (λ entry link. IsLink weighs table entry link) chain.entries links
  pub in_order : AreSideBySide 0 links
  pub followed : chains ≡ chain ∷ flat_map (λ link. link.inner) links
  pub weighed : weight ≡ links_weight style table.cols links

-- a chain of a table with fewer than `depth` tables inside one another, with those that it rests on
abbrev pub IsChainWithin : ℕ → Style → Table → List Chain → ℕ → Type 0
IsChainWithin zero style table chains weight = ⊥
IsChainWithin (suc depth) style table chains weight =
    IsChainBy (IsChainWithin depth style) style (out-Table table) chains weight

-- the chains are one of the table with those of nested tables that it rests on, and it weighs `weight`
abbrev pub IsChain : Table → Style → List Chain → ℕ → Type 0
IsChain table style chains weight = (depth : ℕ) × IsChainWithin depth style table chains weight

-- the chain is one of the table, and none of the table weighs more
pub record IsHeaviestChain (table : Table) (style : Style) (chains : List Chain) (weight : ℕ) : Type 0 where
  pub chain : IsChain table style chains weight
  pub never_more : (other : List Chain) (more : ℕ) → IsChain table style other more → more ≤ weight

-- what the chains of a table weigh, however deep its tables are nested
abbrev pub Weighs : Style → Table → List Chain → ℕ → Type 0
Weighs style table chains weight = IsChain table style chains weight
