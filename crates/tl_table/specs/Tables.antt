-- Tables one level at a time: a table, a cell and a block by their fields, the tables nested in them, and where cells lie.
use Rattle.std.specs.Prelude.{◌≡◌, ◌⊎◌, ℕ, zero, suc, ◌<◌, Bool, List, [], ◌∷◌, map, Contains}
use Rattle.std.specs.List.{flat_map}
use Rattle.tl_grid.specs.declared.shape.Place.{Place}
use Rattle.tl_table.specs.declared.cell.Content.{Content, Content-F, out-Content}
use Rattle.tl_table.specs.declared.cell.Content.TheOpen as open_content
use Rattle.tl_table.specs.declared.cell.Table.{Table, Table-F, out-Table}
use Rattle.tl_table.specs.declared.cell.TableCell.{TableCell, TableCell-F, out-TableCell}

-- a table by its fields
abbrev pub OpenTable : Type 0
OpenTable = Table-F Content Table TableCell

-- a cell by its fields
abbrev pub OpenCell : Type 0
OpenCell = TableCell-F Content Table TableCell

-- a block: a paragraph, or a table in its box
abbrev pub OpenContent : Type 0
OpenContent = Content-F Content Table TableCell

-- the table that a block is, if it is one
abbrev pub tables_of : OpenContent → List Table
tables_of (open_content.Para paragraph) = []
tables_of (open_content.Table box) = box.value ∷ []

-- the tables nested directly in a cell, in the order of its blocks
abbrev pub tables_in : OpenCell → List Table
tables_in cell = flat_map (λ block. tables_of (out-Content block)) cell.blocks

-- the tables nested directly in a table, in the order of its cells and their blocks
abbrev pub inner_tables : OpenTable → List Table
inner_tables table = flat_map (λ cell. tables_in (out-TableCell cell)) table.cells

-- ---- places

-- where the cell lies
abbrev pub place_of : TableCell → Place
place_of cell = (out-TableCell cell).place

-- the cell's row is of a `thead`
abbrev pub is_in_head : TableCell → Bool
is_in_head cell = (out-TableCell cell).in_head

-- where the cells of a table lie, in their order
abbrev pub places_of : OpenTable → List Place
places_of table = map place_of table.cells

-- the first comes before the second in the order by top, then left
abbrev pub ComesBefore : Place → Place → Type 0
ComesBefore first second = (first.top < second.top) ⊎ ((first.top ≡ second.top) × (first.left < second.left))

-- ---- at any depth

-- `inside` is nested in a table with fewer than `depth` tables inside one another
abbrev pub IsInsideWithin : ℕ → Table → Table → Type 0
IsInsideWithin zero table inside = ⊥
IsInsideWithin (suc depth) table inside = (nested : Table) × Contains (inner_tables (out-Table table)) nested
    × ((nested ≡ inside) ⊎ IsInsideWithin depth nested inside)

-- `inside` is the table, or nested in it at any depth
abbrev pub IsAmong : Table → Table → Type 0
IsAmong table inside = (table ≡ inside) ⊎ ((depth : ℕ) × IsInsideWithin depth table inside)
