-- The tables in a tree, from those in its parts.
use Rattle.std.proofs.Common.{◌≡◌, ◌∙◌, Option, Some, None, List, [], ◌∷◌, ◌++◌, map, refl, sym, ap}
use Rattle.std.specs.List.{flat_map}
use Rattle.std.proofs.lemmas.Grind.{flat_map-append}
use Rattle.tl_grid.specs.declared.shape.SpanOf.{SpanOf}
use Rattle.tl_grid.specs.declared.shape.ShapeGroup.{ShapeGroup}
use Rattle.tl_tree.specs.declared.node.Block.{Block, out-Block, map-Block, fold_out-Block}
use Rattle.tl_tree.specs.declared.node.Block.TheOpen as open_block
use Rattle.tl_tree.specs.declared.node.CellNode.{CellNode, out-CellNode, fold_out-CellNode}
use Rattle.tl_tree.specs.declared.node.GroupNode.{GroupNode, out-GroupNode, fold_out-GroupNode}
use Rattle.tl_tree.specs.declared.node.TableNode.{TableNode, out-TableNode, map-TableNode, fold_out-TableNode}
use Rattle.tl_table.specs.Formed.{OpenBlock, OpenNode, span_of, group_shape, shape_of, cells_of_group}
use Rattle.tl_table.specs.Refused.{NumberedShape, CellPart, GroupPart, block_part, cell_part, group_part, table_part}
use Rattle.tl_table.specs.Refused.{tables_in_block, part_of_cell, part_of_group, numbered_shapes}
use Rattle.tl_table.specs.Refused.{tables_in_flow, tables_in_caption, tables_in_cells, tables_in_groups}

abbrev Shapes : Type 0
Shapes = List NumberedShape

-- ---- blocks

-- the tables in a block by its content
abbrev pub tables_in_open : OpenBlock → Shapes
tables_in_open (open_block.Para paragraph) = []
tables_in_open (open_block.Table box) = numbered_shapes box.value

block_opened : (o : OpenBlock) → block_part
    (map-Block Block CellNode GroupNode TableNode Shapes CellPart GroupPart Shapes tables_in_block part_of_cell part_of_group
    numbered_shapes o)
    ≡ tables_in_open o
block_opened (open_block.Para paragraph) = refl
block_opened (open_block.Table box) = refl

pub tables_in_block-out : (block : Block) → tables_in_block block ≡ tables_in_open (out-Block block)
tables_in_block-out block =
    fold_out-Block Shapes CellPart GroupPart Shapes block_part cell_part group_part table_part block ∙ block_opened
    (out-Block block)

-- ---- cells

joined_map : {X : Type 0} (f : X → Shapes) (xs : List X) → flat_map (λ tables. tables) (map f xs) ≡ flat_map f xs
joined_map f [] = refl
joined_map f (x ∷ xs) = ap (λ tables. f x ++ tables) (joined_map f xs)

pub part_of_cell-out : (cell : CellNode) → part_of_cell cell ≡ record {
  span = span_of cell;
  inner =
      tables_in_flow (out-CellNode cell).flow;
}
part_of_cell-out cell =
    fold_out-CellNode Shapes CellPart GroupPart Shapes block_part cell_part group_part table_part cell
    ∙ ap (λ (tables : Shapes). let part : CellPart = record { span = span_of cell; inner = tables } in part)
    (joined_map tables_in_block (out-CellNode cell).flow)

-- ---- groups

spans_of_row : (row : List CellNode) → map (λ (cell : CellPart). cell.span) (map part_of_cell row) ≡ map span_of row
spans_of_row [] = refl
spans_of_row (cell ∷ row) =
    ap (λ span. span ∷ map (λ (each : CellPart). each.span) (map part_of_cell row))
    (ap (λ (part : CellPart). part.span) (part_of_cell-out cell))
    ∙ ap (λ spans. span_of cell ∷ spans) (spans_of_row row)

spans_of_rows : (rows : List (List CellNode)) → map (map (λ (cell : CellPart). cell.span)) (map (map part_of_cell) rows) ≡ map
    (map span_of) rows
spans_of_rows [] = refl
spans_of_rows (row ∷ rows) =
    ap (λ spans. spans ∷ map (map (λ (cell : CellPart). cell.span)) (map (map part_of_cell) rows)) (spans_of_row row)
    ∙ ap (λ spans. map span_of row ∷ spans) (spans_of_rows rows)

inner_of_row : (row : List CellNode) → flat_map (λ (cell : CellPart). cell.inner) (map part_of_cell row) ≡ tables_in_cells row
inner_of_row [] = refl
inner_of_row (cell ∷ row) = ap (λ tables. (part_of_cell cell).inner ++ tables) (inner_of_row row)

inner_of_rows : (rows : List (List CellNode)) →
    flat_map (λ (row : List CellPart). flat_map (λ (cell : CellPart). cell.inner) row) (map (map part_of_cell) rows)
    ≡ tables_in_cells (flat_map (λ (row : List CellNode). row) rows)
inner_of_rows [] = refl
inner_of_rows (row ∷ rows) =
    ap (λ tables. tables ++ flat_map (λ (cells : List CellPart). flat_map (λ (cell : CellPart). cell.inner) cells)
    (map (map part_of_cell) rows))
    (inner_of_row row)
    ∙ ap (λ tables. tables_in_cells row ++ tables) (inner_of_rows rows)
    ∙ sym (flat_map-append (λ (cell : CellNode). (part_of_cell cell).inner) row
    (flat_map (λ (cells : List CellNode). cells) rows))

abbrev group_made : GroupNode → List (List SpanOf) → Shapes → GroupPart
group_made group rows inner = record { group = record { foot = (group_shape group).foot; rows = rows }; inner = inner }

pub part_of_group-out : (group : GroupNode) → part_of_group group ≡
    record { group = group_shape group; inner = tables_in_cells (cells_of_group (out-GroupNode group)) }
part_of_group-out group =
    fold_out-GroupNode Shapes CellPart GroupPart Shapes block_part cell_part group_part table_part group
    ∙ ap (λ rows. group_made group rows
    (flat_map (λ (row : List CellPart). flat_map (λ (cell : CellPart). cell.inner) row)
    (map (map part_of_cell) (out-GroupNode group).rows)))
    (spans_of_rows (out-GroupNode group).rows)
    ∙ ap (group_made group (map (map span_of) (out-GroupNode group).rows)) (inner_of_rows (out-GroupNode group).rows)

-- ---- tables

shapes_of_groups : (groups : List GroupNode) → map (λ (group : GroupPart). group.group)
    (map part_of_group groups) ≡ map group_shape groups
shapes_of_groups [] = refl
shapes_of_groups (group ∷ groups) =
    ap (λ shape. shape ∷ map (λ (each : GroupPart). each.group) (map part_of_group groups))
    (ap (λ (part : GroupPart). part.group) (part_of_group-out group))
    ∙ ap (λ shapes. group_shape group ∷ shapes) (shapes_of_groups groups)

inner_of_groups : (groups : List GroupNode) → flat_map (λ (group : GroupPart). group.inner)
    (map part_of_group groups) ≡ tables_in_groups groups
inner_of_groups [] = refl
inner_of_groups (group ∷ groups) = ap (λ tables. (part_of_group group).inner ++ tables) (inner_of_groups groups)

-- the table itself by its number and shape
abbrev pub itself : OpenNode → NumberedShape
itself node = record { number = node.number; shape = shape_of node }

abbrev table_made : OpenNode → List ShapeGroup → Shapes → Shapes → Shapes
table_made node groups caption inner =
    record { number = node.number; shape = record { columns = node.columns; groups = groups } } ∷ (caption ++ inner)

table_opened : (number : _) (caption : Option (List Block)) (columns : _) (groups : List GroupNode) →
    let node : OpenNode = record { number = number; caption = caption; columns = columns; groups = groups } in
    table_part (map-TableNode Block CellNode GroupNode TableNode Shapes CellPart GroupPart Shapes tables_in_block part_of_cell
    part_of_group numbered_shapes node)
    ≡ itself node ∷ (tables_in_caption caption ++ tables_in_groups groups)
table_opened number None columns groups =
    let node : OpenNode = record { number = number; caption = None; columns = columns; groups = groups } in
    ap (λ shapes. table_made node shapes [] (flat_map (λ (group : GroupPart). group.inner) (map part_of_group groups)))
    (shapes_of_groups groups)
    ∙ ap (table_made node (map group_shape groups) []) (inner_of_groups groups)
table_opened number (Some flow) columns groups =
    let node : OpenNode = record { number = number; caption = Some flow; columns = columns; groups = groups } in
    let inner = flat_map (λ (group : GroupPart). group.inner) (map part_of_group groups) in
    ap (λ shapes. table_made node shapes (flat_map (λ (tables : Shapes). tables) (map tables_in_block flow)) inner)
    (shapes_of_groups groups)
    ∙ ap (λ caption. table_made node (map group_shape groups) caption inner) (joined_map tables_in_block flow)
    ∙ ap (table_made node (map group_shape groups) (tables_in_flow flow)) (inner_of_groups groups)

pub tables_of-out : (node : TableNode) → numbered_shapes node ≡
    itself (out-TableNode node) ∷ (tables_in_caption (out-TableNode node).caption ++ tables_in_groups (out-TableNode node).groups)
tables_of-out node =
    fold_out-TableNode Shapes CellPart GroupPart Shapes block_part cell_part group_part table_part node
    ∙ table_opened (out-TableNode node).number (out-TableNode node).caption (out-TableNode node).columns
    (out-TableNode node).groups
