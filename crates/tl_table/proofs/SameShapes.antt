-- Two trees that are the same have tables of the same shapes.
use Rattle.std.proofs.Common.{◌≡◌, ◌∙◌, ℕ, zero, suc, Option, Some, None, List, [], ◌∷◌, ◌++◌, map, refl, sym, ap}
use Rattle.std.specs.List.{AllZip, flat_map}
use Rattle.std.proofs.lemmas.Grind.{flat_map-append}
use Rattle.tl_tree.specs.declared.node.Block.{Block, out-Block}
use Rattle.tl_tree.specs.declared.node.Block.TheOpen as parts
use Rattle.tl_tree.specs.declared.node.CellNode.{CellNode, out-CellNode}
use Rattle.tl_tree.specs.declared.node.GroupNode.{GroupNode, out-GroupNode}
use Rattle.tl_tree.specs.declared.node.TableNode.{TableNode, out-TableNode}
use Rattle.tl_tree.specs.Same.{OpenBlock, OpenTable, AreSame, AreSameWithin, AreSameTable, AreSameGroup}
use Rattle.tl_tree.specs.Same.{AreSameRow, AreSameFlow, AreSameBlock, AreSameCaption}
use Rattle.tl_table.specs.Formed.{span_of, group_shape, is_foot}
use Rattle.tl_table.specs.Refused.{tables_in_block, part_of_cell, part_of_group, numbered_shapes}
use Rattle.tl_table.specs.Refused.{tables_in_flow, tables_in_caption, tables_in_cells, tables_in_groups}
use Rattle.tl_table.proofs.TreeParts.{itself, tables_in_open, tables_in_block-out, part_of_cell-out, part_of_group-out}
use Rattle.tl_table.proofs.TreeParts.{tables_of-out}

module _ (same : TableNode → TableNode → Type 0)
    (each : (a b : TableNode) → same a b → numbered_shapes a ≡ numbered_shapes b) where
  block_same : (a b : OpenBlock) → AreSameBlock same a b → tables_in_open a ≡ tables_in_open b
  block_same (parts.Para p) (parts.Para q) is = refl
  block_same (parts.Para p) (parts.Table b) is = absurd is
  block_same (parts.Table a) (parts.Para q) is = absurd is
  block_same (parts.Table a) (parts.Table b) is = each a.value b.value is

  flow_same : (xs ys : List Block) → AreSameFlow same xs ys → tables_in_flow xs ≡ tables_in_flow ys
  flow_same [] [] is = refl
  flow_same [] (y ∷ ys) is = absurd is
  flow_same (x ∷ xs) [] is = absurd is
  flow_same (x ∷ xs) (y ∷ ys) is =
      ap (λ tables. tables ++ tables_in_flow xs)
      (tables_in_block-out x ∙ block_same (out-Block x) (out-Block y) is.0 ∙ sym (tables_in_block-out y))
      ∙ ap (λ tables. tables_in_block y ++ tables) (flow_same xs ys is.1)

  cells_same : (xs ys : List CellNode) → AreSameRow same xs ys → tables_in_cells xs ≡ tables_in_cells ys
  cells_same [] [] is = refl
  cells_same [] (y ∷ ys) is = absurd is
  cells_same (x ∷ xs) [] is = absurd is
  cells_same (x ∷ xs) (y ∷ ys) is =
      ap (λ tables. tables ++ tables_in_cells xs)
      (ap (λ part. part.inner) (part_of_cell-out x) ∙ flow_same (out-CellNode x).flow (out-CellNode y).flow is.0.flow
      ∙ sym (ap (λ part. part.inner) (part_of_cell-out y)))
      ∙ ap (λ tables. (part_of_cell y).inner ++ tables) (cells_same xs ys is.1)

  rows_same : (xs ys : List (List CellNode)) → AllZip (AreSameRow same) xs ys →
      tables_in_cells (flat_map (λ (row : List CellNode). row) xs) ≡ tables_in_cells (flat_map (λ (row : List CellNode). row) ys)
  rows_same [] [] is = refl
  rows_same [] (y ∷ ys) is = absurd is
  rows_same (x ∷ xs) [] is = absurd is
  rows_same (x ∷ xs) (y ∷ ys) is =
      flat_map-append (λ (cell : CellNode). (part_of_cell cell).inner) x (flat_map (λ (row : List CellNode). row) xs)
      ∙ ap (λ tables. tables ++ tables_in_cells (flat_map (λ (row : List CellNode). row) xs)) (cells_same x y is.0)
      ∙ ap (λ tables. tables_in_cells y ++ tables) (rows_same xs ys is.1)
      ∙ sym (flat_map-append (λ (cell : CellNode). (part_of_cell cell).inner) y (flat_map (λ (row : List CellNode). row) ys))

  groups_same : (xs ys : List GroupNode) → AllZip (λ group twin. AreSameGroup same (out-GroupNode group) (out-GroupNode twin))
      xs ys →
      tables_in_groups xs ≡ tables_in_groups ys
  groups_same [] [] is = refl
  groups_same [] (y ∷ ys) is = absurd is
  groups_same (x ∷ xs) [] is = absurd is
  groups_same (x ∷ xs) (y ∷ ys) is =
      ap (λ tables. tables ++ tables_in_groups xs)
      (ap (λ part. part.inner) (part_of_group-out x) ∙ rows_same (out-GroupNode x).rows (out-GroupNode y).rows is.0.rows
      ∙ sym (ap (λ part. part.inner) (part_of_group-out y)))
      ∙ ap (λ tables. (part_of_group y).inner ++ tables) (groups_same xs ys is.1)

  caption_same : (a b : Option (List Block)) → AreSameCaption same a b → tables_in_caption a ≡ tables_in_caption b
  caption_same None None is = refl
  caption_same None (Some b) is = absurd is
  caption_same (Some a) None is = absurd is
  caption_same (Some a) (Some b) is = flow_same a b is

  -- ---- shapes

  row_shape : (xs ys : List CellNode) → AreSameRow same xs ys → map span_of xs ≡ map span_of ys
  row_shape [] [] is = refl
  row_shape [] (y ∷ ys) is = absurd is
  row_shape (x ∷ xs) [] is = absurd is
  row_shape (x ∷ xs) (y ∷ ys) is =
      λ i. record { colspan = is.0.colspan i; rowspan = is.0.rowspan i } ∷ row_shape xs ys is.1 i

  rows_shape : (xs ys : List (List CellNode)) → AllZip (AreSameRow same) xs ys → map (map span_of) xs ≡ map (map span_of) ys
  rows_shape [] [] is = refl
  rows_shape [] (y ∷ ys) is = absurd is
  rows_shape (x ∷ xs) [] is = absurd is
  rows_shape (x ∷ xs) (y ∷ ys) is = λ i. row_shape x y is.0 i ∷ rows_shape xs ys is.1 i

  groups_shape : (xs ys : List GroupNode) → AllZip (λ group twin. AreSameGroup same (out-GroupNode group) (out-GroupNode twin))
      xs ys →
      map group_shape xs ≡ map group_shape ys
  groups_shape [] [] is = refl
  groups_shape [] (y ∷ ys) is = absurd is
  groups_shape (x ∷ xs) [] is = absurd is
  groups_shape (x ∷ xs) (y ∷ ys) is =
      λ i. record {
        foot = is_foot (is.0.part i);
        rows = rows_shape (out-GroupNode x).rows
            (out-GroupNode y).rows is.0.rows i;
      } ∷ groups_shape xs ys is.1 i

  itself_same : (a b : OpenTable) → AreSameTable same a b → itself a ≡ itself b
  itself_same a b is = λ i. record {
    number = is.number i;
    shape = record { columns = is.columns i; groups = groups_shape a.groups b.groups is.groups i };
  }

  table_same : (a b : TableNode) → AreSameTable same (out-TableNode a) (out-TableNode b) → numbered_shapes a ≡ numbered_shapes b
  table_same a b is =
      let one = out-TableNode a in
      let other = out-TableNode b in
      tables_of-out a
      ∙ (λ i. itself_same one other is i
      ∷ (caption_same one.caption other.caption is.caption i ++ groups_same one.groups other.groups is.groups i))
      ∙ sym (tables_of-out b)

within_same : (depth : ℕ) (a b : TableNode) → AreSameWithin depth a b → numbered_shapes a ≡ numbered_shapes b
within_same zero a b is = absurd is
within_same (suc depth) a b is = table_same (AreSameWithin depth) (within_same depth) a b is

-- two trees that are the same have tables of the same shapes
pub same_shapes : (a b : TableNode) → AreSame a b → numbered_shapes a ≡ numbered_shapes b
same_shapes a b is = within_same is.0 a b is.1
