-- Which table a tree becomes: its grid by the HTML Standard's "Forming a table", the columns and rows in which no cell
-- begins left out, the caption in a row of its own on top, and the cells by top, then left.
use Rattle.std.specs.Prelude.{◌≡◌, ℕ, zero, suc, ◌+◌, ◌*◌, max, Bool, true, false, List, [], ◌∷◌, ◌++◌, length, map, take, Option}
use Rattle.std.specs.Prelude.{Some, None}
use Rattle.std.specs.List.{AllZip, AllPairs, flat_map}
use Rattle.std.specs.List.Sorted.{IsPermutation}
use Rattle.tl_base.specs.declared.breaking.Breaking.{Breaking}
use Rattle.tl_base.specs.declared.breaking.Breaking.TheVariants.{Words, Wider}
use Rattle.tl_base.specs.declared.limits.TheConstants.{MAX_COLUMNS}
use Rattle.tl_grid.specs.declared.shape.Grid.{Grid}
use Rattle.tl_grid.specs.declared.shape.Place.{Place}
use Rattle.tl_grid.specs.declared.shape.Shape.{Shape}
use Rattle.tl_grid.specs.declared.shape.ShapeGroup.{ShapeGroup}
use Rattle.tl_grid.specs.declared.shape.SpanOf.{SpanOf}
use Rattle.tl_grid.specs.Form.{HasGrid}
use Rattle.tl_text.specs.declared.paragraph.Atom.{Atom}
use Rattle.tl_text.specs.Parts.{broken_above}
use Rattle.tl_tree.specs.declared.node.Block.{Block, Block-F, out-Block}
use Rattle.tl_tree.specs.declared.node.Block.TheOpen as open_block
use Rattle.tl_tree.specs.declared.node.CellNode.{CellNode, CellNode-F, out-CellNode}
use Rattle.tl_tree.specs.declared.node.GroupNode.{GroupNode, GroupNode-F, out-GroupNode}
use Rattle.tl_tree.specs.declared.node.Part.{Part}
use Rattle.tl_tree.specs.declared.node.Part.TheVariants as parts
use Rattle.tl_tree.specs.declared.node.TableNode.{TableNode, TableNode-F, out-TableNode}
use Rattle.tl_table.specs.declared.cell.Content.{Content, out-Content}
use Rattle.tl_table.specs.declared.cell.Content.TheOpen as open_content
use Rattle.tl_table.specs.declared.cell.Kind.{Kind}
use Rattle.tl_table.specs.declared.cell.Kind.TheVariants as kinds
use Rattle.tl_table.specs.declared.cell.Table.{Table, out-Table}
use Rattle.tl_table.specs.declared.cell.TableCell.{TableCell, out-TableCell}
use Rattle.tl_table.specs.Tables.{OpenTable, OpenCell, OpenContent, ComesBefore, is_in_head, place_of, places_of}

-- ---- a tree one level at a time

-- a table of a tree by its fields
abbrev pub OpenNode : Type 0
OpenNode = TableNode-F Block CellNode GroupNode TableNode

-- a group of rows of a tree by its fields
abbrev pub OpenGroup : Type 0
OpenGroup = GroupNode-F Block CellNode GroupNode TableNode

-- a cell of a tree by its fields
abbrev pub OpenCellNode : Type 0
OpenCellNode = CellNode-F Block CellNode GroupNode TableNode

-- a block of a tree by its fields
abbrev pub OpenBlock : Type 0
OpenBlock = Block-F Block CellNode GroupNode TableNode

-- ---- what the grid of a table depends on

-- the spans of a cell
abbrev pub span_of : CellNode → SpanOf
span_of cell = record { colspan = (out-CellNode cell).colspan; rowspan = (out-CellNode cell).rowspan }

-- a group is a `tfoot`, whose rows are formed last
abbrev pub is_foot : Part → Bool
is_foot parts.Foot = true
is_foot _ = false

-- a group of rows as the grid sees it
abbrev pub group_shape : GroupNode → ShapeGroup
group_shape group = record
    { foot = is_foot (out-GroupNode group).part; rows = map (map span_of) (out-GroupNode group).rows }

-- a table as the grid sees it
abbrev pub shape_of : OpenNode → Shape
shape_of node = record { columns = node.columns; groups = map group_shape node.groups }

-- the cells of a group as they are written, row by row
abbrev pub cells_of_group : OpenGroup → List CellNode
cells_of_group group = flat_map (λ row. row) group.rows

-- the cells of groups as they are written, one group after another
abbrev pub cells_of_groups : List GroupNode → List CellNode
cells_of_groups groups = flat_map (λ group. cells_of_group (out-GroupNode group)) groups

-- the cells of a table as they are written
abbrev pub cells_written : OpenNode → List CellNode
cells_written node = cells_of_groups node.groups

-- ---- which cells are of a `thead`

-- a group is a `thead`
abbrev pub is_thead : Part → Bool
is_thead parts.Head = true
is_thead _ = false

-- for each cell of a group as they are written, row by row, whether the group is a `thead`
abbrev pub marks_of_group : OpenGroup → List Bool
marks_of_group group = flat_map (λ row. map (λ cell. is_thead group.part) row) group.rows

-- for each cell of groups as they are written, one group after another, whether its group is a `thead`
abbrev pub marks_of_groups : List GroupNode → List Bool
marks_of_groups groups = flat_map (λ group. marks_of_group (out-GroupNode group)) groups

-- for each cell of a table as they are written, whether its group is a `thead`
abbrev pub marks_written : OpenNode → List Bool
marks_written node = marks_of_groups node.groups

-- ---- the blocks of a cell

-- the units of a paragraph: its words as they are, or those that are wider than so many columns in
-- their pieces
abbrev pub broken : Breaking → List Atom → List Atom
broken Words paragraph = paragraph
broken (Wider most) paragraph = broken_above most paragraph

-- a block of a tree becomes this block; `forms` says the same of a nested table
abbrev pub BecomesContent : (TableNode → Table → Type 0) → Breaking → OpenBlock → OpenContent → Type 0
BecomesContent forms breaking (open_block.Para paragraph) (open_content.Para units) = units ≡ broken breaking paragraph
BecomesContent forms breaking (open_block.Para paragraph) (open_content.Table box) = ⊥
BecomesContent forms breaking (open_block.Table node) (open_content.Para units) = ⊥
BecomesContent forms breaking (open_block.Table node) (open_content.Table box) = forms node.value box.value

-- the blocks of a flow become these, in order; `forms` says the same of nested tables
abbrev pub BecomeContents : (TableNode → Table → Type 0) → Breaking → List Block → List Content → Type 0
BecomeContents forms breaking flow blocks = AllZip
    (λ block content. BecomesContent forms breaking (out-Block block) (out-Content content)) flow blocks

-- ---- cells

-- a `th` is a header cell
abbrev pub header_kind : Bool → Kind
header_kind true = kinds.Head
header_kind false = kinds.Plain

-- a cell of the tree becomes this cell, wherever that lies and whatever its group is
pub record BecomesCell (forms : TableNode → Table → Type 0) (breaking : Breaking) (node : OpenCellNode)
    (cell : OpenCell) : Type 0 where
  pub kind : cell.kind ≡ header_kind node.head
  pub least : cell.least ≡ node.least
  pub align : cell.align ≡ node.align
  pub blocks : BecomeContents forms breaking node.flow cell.blocks

-- the cells of the tree become these, in order
abbrev pub BecomeCells : (TableNode → Table → Type 0) → Breaking → List CellNode → List TableCell → Type 0
BecomeCells forms breaking nodes cells = AllZip
    (λ node cell. BecomesCell forms breaking (out-CellNode node) (out-TableCell cell)) nodes cells

-- the place so many rows below
abbrev pub lowered : ℕ → Place → Place
lowered down place = record
    { left = place.left; right = place.right; top = place.top + down; bottom = place.bottom + down }

-- ---- the caption

-- how many rows a caption takes
abbrev pub caption_rows : Option (List Block) → ℕ
caption_rows None = 0
caption_rows (Some flow) = 1

-- a caption becomes one cell over all columns of the first row
pub record BecomesCaption (forms : TableNode → Table → Type 0) (breaking : Breaking) (cols : ℕ) (flow : List Block)
    (cell : OpenCell) : Type 0 where
  pub kind : cell.kind ≡ kinds.Caption
  pub in_head : cell.in_head ≡ false
  pub place : cell.place ≡ record { left = 0; right = cols; top = 0; bottom = 1 }
  pub least : cell.least ≡ 0
  pub align : cell.align ≡ None
  pub blocks : BecomeContents forms breaking flow cell.blocks

-- a caption becomes one cell, and none becomes none
abbrev pub BecomeCaption : (TableNode → Table → Type 0) → Breaking → ℕ → Option (List Block) → List TableCell → Type 0
BecomeCaption forms breaking cols None cells = cells ≡ []
BecomeCaption forms breaking cols (Some flow) [] = ⊥
BecomeCaption forms breaking cols (Some flow) (cell ∷ cells) =
    BecomesCaption forms breaking cols flow (out-TableCell cell) × (cells ≡ [])

-- ---- the table

-- a table of the tree becomes this table, where `forms` says the same of the tables nested in it
pub record BecomesBy (forms : TableNode → Table → Type 0) (breaking : Breaking) (node : OpenNode)
    (table : OpenTable) : Type 0 where
  pub number : table.number ≡ node.number
  pub grid : Grid
  pub has_grid : HasGrid (shape_of node) grid
  -- a caption makes a column where no cell does
  pub cols : table.cols ≡ max grid.cols (caption_rows node.caption)
  pub rows : table.rows ≡ grid.rows + caption_rows node.caption
  pub caption : List TableCell
  pub captioned : BecomeCaption forms breaking table.cols node.caption caption
  pub written : List TableCell
  pub cells : BecomeCells forms breaking (cells_written node) written
  pub marked : map is_in_head written ≡ marks_written node
  pub places : map place_of written ≡ map (lowered (caption_rows node.caption)) grid.places
  pub same : IsPermutation (caption ++ written) table.cells
  pub in_order : AllPairs ComesBefore (places_of table)

-- a table of the tree with fewer than `depth` tables inside one another becomes this table
abbrev pub BecomesWithin : ℕ → Breaking → TableNode → Table → Type 0
BecomesWithin zero breaking node table = ⊥
BecomesWithin (suc depth) breaking node table =
    BecomesBy (BecomesWithin depth breaking) breaking (out-TableNode node) (out-Table table)

-- the table of the tree becomes this table
abbrev pub Becomes : Breaking → TableNode → Table → Type 0
Becomes breaking node table = (depth : ℕ) × BecomesWithin depth breaking node table

-- after these cells come those that the cells of the tree become, each with its mark and at the place of its number
pub record Writes (breaking : Breaking) (nodes : List CellNode) (marks : List Bool) (places : List Place)
    (before after : List TableCell) : Type 0 where
  pub more : List TableCell
  pub joined : after ≡ before ++ more
  pub cells : BecomeCells (Becomes breaking) breaking nodes more
  pub marked : map is_in_head more ≡ marks
  pub placed : map place_of after ≡ take (length after) places

-- the number of a cell's first slot, where the slots are counted row by row, `MAX_COLUMNS` in each
abbrev pub slot_number : TableCell → ℕ
slot_number cell = (place_of cell).top * MAX_COLUMNS + (place_of cell).left
