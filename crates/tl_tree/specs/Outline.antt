-- The outline of a tree: what stands in it, in order. Where a table ends it says so; a cell, a row,
-- a group or a caption ends where the next thing cannot be a part of it.
use Rattle.std.specs.Prelude.{ℕ, Bool, Option, Some, None, List, [], ◌∷◌, ◌++◌}
use Rattle.std.specs.List.{flat_map}
use Rattle.tl_sides.specs.declared.side.Side.{Side}
use Rattle.tl_text.specs.declared.paragraph.Atom.{Atom}
use Rattle.tl_tree.specs.declared.node.Part.{Part}
use Rattle.tl_tree.specs.declared.node.Block.{Block, fold-Block}
use Rattle.tl_tree.specs.declared.node.Block.TheOpen as parts
use Rattle.tl_tree.specs.declared.node.CellNode.{CellNode, fold-CellNode}
use Rattle.tl_tree.specs.declared.node.GroupNode.{GroupNode, fold-GroupNode}
use Rattle.tl_tree.specs.declared.node.TableNode.{TableNode, fold-TableNode}

-- a thing that stands in a tree
pub data Entry : Type 0 where
  -- a table begins, with its number
  table : ℕ → Entry
  caption : Entry
  -- how many columns the column tags of a table stand for
  columns : ℕ → Entry
  group : Part → Entry
  row : Entry
  -- whether it is a header cell, its colspan, its rowspan, how wide it is at least, and the side that it asks for
  cell : Bool → ℕ → ℕ → ℕ → Option Side → Entry
  paragraph : List Atom → Entry
  -- a table ends
  table_end : Entry

-- entries in their order
abbrev pub Entries : Type 0
Entries = List Entry

-- the entries of all of these, one after another
abbrev pub joined_entries : List Entries → Entries
joined_entries lists = flat_map (λ entries. entries) lists

-- a row, and the entries of its cells
abbrev pub row_entries : List Entries → Entries
row_entries cells = row ∷ joined_entries cells

-- a caption and the entries of its flow, or nothing where the table has no caption
abbrev pub caption_entries : Option (List Entries) → Entries
caption_entries None = []
caption_entries (Some flow) = caption ∷ joined_entries flow

-- a paragraph, or the entries of a nested table
abbrev pub block_entries : parts.Block-F Entries Entries Entries Entries → Entries
block_entries (parts.Para p) = paragraph p ∷ []
block_entries (parts.Table box) = box.value

-- a cell, and the entries of its flow
abbrev pub cell_entries : parts.CellNode-F Entries Entries Entries Entries → Entries
cell_entries c = cell c.head c.colspan c.rowspan c.least c.align ∷ joined_entries c.flow

-- a group, and the entries of its rows
abbrev pub group_entries : parts.GroupNode-F Entries Entries Entries Entries → Entries
group_entries g = group g.part ∷ flat_map row_entries g.rows

-- a table: its number, its caption, its columns, its groups, and its end
abbrev pub table_entries : parts.TableNode-F Entries Entries Entries Entries → Entries
table_entries t = table t.number ∷
    (caption_entries t.caption ++ (columns t.columns ∷ (joined_entries t.groups ++ table_end ∷ [])))

-- the outline of a block
abbrev pub block_outline : Block → Entries
block_outline = fold-Block Entries Entries Entries Entries block_entries cell_entries group_entries table_entries

-- the outline of a cell
abbrev pub cell_outline : CellNode → Entries
cell_outline = fold-CellNode Entries Entries Entries Entries block_entries cell_entries group_entries table_entries

-- the outline of a group
abbrev pub group_outline : GroupNode → Entries
group_outline = fold-GroupNode Entries Entries Entries Entries block_entries cell_entries group_entries table_entries

-- the outline of a whole tree
abbrev pub outline : TableNode → Entries
outline = fold-TableNode Entries Entries Entries Entries block_entries cell_entries group_entries table_entries

-- the entries of blocks
abbrev pub blocks_outline : List Block → Entries
blocks_outline blocks = flat_map block_outline blocks

-- the entries of a caption that is whole, or nothing where the table has no caption
abbrev pub caption_outline : Option (List Block) → Entries
caption_outline None = []
caption_outline (Some blocks) = caption ∷ blocks_outline blocks

-- the entries of a row of cells that are whole
abbrev pub row_outline : List CellNode → Entries
row_outline cells = row ∷ flat_map cell_outline cells

-- the entries of a row's cells
abbrev pub cells_outline : List CellNode → Entries
cells_outline cells = flat_map cell_outline cells
