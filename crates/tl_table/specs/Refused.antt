-- Why a tree becomes no table: one of its tables has no grid.
use Rattle.std.specs.Prelude.{◌≡◌, ℕ, List, [], ◌∷◌, ◌++◌, map, Option, Some, None}
use Rattle.std.specs.List.{AllByRecursion, flat_map}
use Rattle.tl_grid.specs.declared.error.GridError.{GridError}
use Rattle.tl_grid.specs.declared.shape.Grid.{Grid}
use Rattle.tl_grid.specs.declared.shape.Shape.{Shape}
use Rattle.tl_grid.specs.declared.shape.ShapeGroup.{ShapeGroup}
use Rattle.tl_grid.specs.declared.shape.SpanOf.{SpanOf}
use Rattle.tl_grid.specs.Form.{HasGrid, LacksGrid}
use Rattle.tl_tree.specs.declared.node.Block.{Block, fold-Block}
use Rattle.tl_tree.specs.declared.node.Block.TheOpen as open_block
use Rattle.tl_tree.specs.declared.node.CellNode.{CellNode, fold-CellNode}
use Rattle.tl_tree.specs.declared.node.GroupNode.{GroupNode, fold-GroupNode}
use Rattle.tl_tree.specs.declared.node.TableNode.{TableNode, fold-TableNode}
use Rattle.tl_table.specs.declared.error.FormError.{FormError}
use Rattle.tl_table.specs.declared.error.FormError.TheVariants as errors
use Rattle.tl_table.specs.Formed.{is_foot}

-- ---- the tables of a tree by their shapes, by a fold over it

-- a table of a tree: its number, and what its grid depends on
pub record NumberedShape : Type 0 where
  pub number : ℕ
  pub shape : Shape

-- a cell of a tree: its span, which its table's grid depends on, and the tables inside it
pub record CellPart : Type 0 where
  pub span : SpanOf
  pub inner : List NumberedShape

-- a group of a tree: its rows as the grid sees them, and the tables inside it
pub record GroupPart : Type 0 where
  pub group : ShapeGroup
  pub inner : List NumberedShape

-- a block that is a table has its tables; a paragraph has none
abbrev pub block_part : open_block.Block-F (List NumberedShape) CellPart GroupPart (List NumberedShape) → List NumberedShape
block_part (open_block.Para paragraph) = []
block_part (open_block.Table box) = box.value

-- a cell has the tables of its blocks
abbrev pub cell_part : open_block.CellNode-F (List NumberedShape) CellPart GroupPart (List NumberedShape) → CellPart
cell_part cell = record {
  span = record { colspan = cell.colspan; rowspan = cell.rowspan };
  inner = flat_map (λ tables. tables) cell.flow;
}

-- a group has the spans and the tables of its cells, row by row
abbrev pub group_part : open_block.GroupNode-F (List NumberedShape) CellPart GroupPart (List NumberedShape) → GroupPart
group_part group = record {
  group = record { foot = is_foot group.part; rows = map (map (λ cell. cell.span)) group.rows };
  inner = flat_map (λ row. flat_map (λ cell. cell.inner) row) group.rows;
}

-- a caption has the tables of its blocks; no caption has none
abbrev pub caption_part : Option (List (List NumberedShape)) → List NumberedShape
caption_part None = []
caption_part (Some flow) = flat_map (λ tables. tables) flow

-- a table is the first of its own; those of its caption come next, then those of its groups
abbrev pub table_part : open_block.TableNode-F (List NumberedShape) CellPart GroupPart (List NumberedShape) → List NumberedShape
table_part table = record {
  number = table.number;
  shape = record { columns = table.columns; groups = map (λ group. group.group) table.groups };
} ∷ (caption_part table.caption ++ flat_map (λ group. group.inner) table.groups)

-- the tables in a block, at all depths, in the order in which they begin
abbrev pub tables_in_block : Block → List NumberedShape
tables_in_block = fold-Block (List NumberedShape) CellPart GroupPart (List NumberedShape)
    block_part cell_part group_part table_part

-- a cell's span, and the tables in it at all depths, in the order in which they begin
abbrev pub part_of_cell : CellNode → CellPart
part_of_cell = fold-CellNode (List NumberedShape) CellPart GroupPart (List NumberedShape)
    block_part cell_part group_part table_part

-- a group's rows as the grid sees them, and the tables in it at all depths, in the order in which they begin
abbrev pub part_of_group : GroupNode → GroupPart
part_of_group = fold-GroupNode (List NumberedShape) CellPart GroupPart (List NumberedShape)
    block_part cell_part group_part table_part

-- a table and those in it at all depths, in the order in which they begin
abbrev pub numbered_shapes : TableNode → List NumberedShape
numbered_shapes =
    fold-TableNode (List NumberedShape) CellPart GroupPart (List NumberedShape) block_part cell_part group_part table_part

-- ---- the first without a grid

-- a table has a grid
abbrev pub HasSomeGrid : NumberedShape → Type 0
HasSomeGrid table = (grid : Grid) × HasGrid table.shape grid

-- of the tables, in the order in which they begin, the first without a grid has this number, and this is the cause
pub record IsFirstWithoutGrid (tables : List NumberedShape) (number : ℕ) (cause : GridError) : Type 0 where
  pub before : List NumberedShape
  pub table : NumberedShape
  pub after : List NumberedShape
  pub split : tables ≡ before ++ table ∷ after
  pub formed : AllByRecursion HasSomeGrid before
  pub numbered : table.number ≡ number
  pub refused : LacksGrid table.shape cause

-- the error is that of the first of the tables without a grid; out of memory is none
abbrev pub AreRefused : List NumberedShape → FormError → Type 0
AreRefused tables (errors.Memory error) = ⊥
AreRefused tables (errors.Grid number cause) = IsFirstWithoutGrid tables number cause

-- the error is that of the first table of the tree without a grid
abbrev pub HasNoGrid : TableNode → FormError → Type 0
HasNoGrid node error = AreRefused (numbered_shapes node) error

-- the tables in a flow, at all depths, in the order in which they begin
abbrev pub tables_in_flow : List Block → List NumberedShape
tables_in_flow flow = flat_map tables_in_block flow

-- the tables in a caption, at all depths, in the order in which they begin; no caption has none
abbrev pub tables_in_caption : Option (List Block) → List NumberedShape
tables_in_caption None = []
tables_in_caption (Some flow) = tables_in_flow flow

-- the tables in cells, at all depths, in the order in which they begin
abbrev pub tables_in_cells : List CellNode → List NumberedShape
tables_in_cells cells = flat_map (λ cell. (part_of_cell cell).inner) cells

-- the tables in groups, at all depths, in the order in which they begin
abbrev pub tables_in_groups : List GroupNode → List NumberedShape
tables_in_groups groups = flat_map (λ group. (part_of_group group).inner) groups
