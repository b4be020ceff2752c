-- The blocks of a tree's table and of the table that it becomes, each in one list, and the entries that begin and end
-- tables.
use Rattle.std.proofs.Common.{◌≡◌, ◌∙◌, ℕ, ◌+◌, ◌-◌, Option, Some, None, List, [], ◌∷◌, ◌++◌, refl, sym, ap, subst, append_assoc}
use Rattle.std.proofs.Common.{arith}
use Rattle.std.specs.List.{flat_map}
use Rattle.std.proofs.lemmas.Grind.{flat_map-append}
use Rattle.std.proofs.lemmas.List.{append-nil}
use Rattle.tl_base.specs.declared.breaking.Breaking.{Breaking}
use Rattle.tl_base.proofs.Zips.{AllZip-append}
use Rattle.tl_tree.specs.Outline.{Entries, table, caption, columns, group, row, cell, paragraph, table_end, block_outline}
use Rattle.tl_tree.specs.Outline.{cell_outline}
use Rattle.tl_tree.specs.Outline.{group_outline, outline}
use Rattle.tl_tree.specs.Sound.{IsNestedBelow, table_count}
use Rattle.tl_tree.specs.Outline.{caption_outline}
use Rattle.tl_tree.specs.declared.node.Block.{Block, out-Block}
use Rattle.tl_tree.specs.declared.node.CellNode.{CellNode, out-CellNode}
use Rattle.tl_tree.specs.declared.node.GroupNode.{GroupNode, out-GroupNode}
use Rattle.tl_tree.specs.declared.node.TableNode.{TableNode, out-TableNode}
use Rattle.tl_tree.specs.Outline.{blocks_outline}
use Rattle.tl_table.specs.declared.cell.Content.{Content, out-Content}
use Rattle.tl_table.specs.declared.cell.Table.{Table}
use Rattle.tl_table.specs.declared.cell.TableCell.{TableCell, out-TableCell}
use Rattle.tl_table.specs.Tables.{OpenTable, tables_of, tables_in}
use Rattle.tl_table.specs.Formed.{OpenNode, BecomesContent, BecomeContents, BecomeCells, BecomeCaption, BecomesBy}
use Rattle.tl_table.specs.Formed.{cells_of_group, cells_written}
use Rattle.tl_tree.specs.Outline.{cells_outline}
use Rattle.tl_table.proofs.SoundNodes.{rows_outline, groups_outline, cell_outline-out, group_outline-out, outline-out}

-- ---- entries without those that begin and end no table

abbrev pub tables_alone : Entries → Entries
tables_alone [] = []
tables_alone (table number ∷ es) = table number ∷ tables_alone es
tables_alone (table_end ∷ es) = table_end ∷ tables_alone es
tables_alone (_ ∷ es) = tables_alone es

pub alone-append : (xs ys : Entries) → tables_alone (xs ++ ys) ≡ tables_alone xs ++ tables_alone ys
alone-append [] ys = refl
alone-append (table number ∷ xs) ys = ap (λ (es : Entries). table number ∷ es) (alone-append xs ys)
alone-append (table_end ∷ xs) ys = ap (λ (es : Entries). table_end ∷ es) (alone-append xs ys)
alone-append (caption ∷ xs) ys = alone-append xs ys
alone-append (columns n ∷ xs) ys = alone-append xs ys
alone-append (group part ∷ xs) ys = alone-append xs ys
alone-append (row ∷ xs) ys = alone-append xs ys
alone-append (cell head colspan rowspan least align ∷ xs) ys = alone-append xs ys
alone-append (paragraph atoms ∷ xs) ys = alone-append xs ys

pub alone-nested : (most depth : ℕ) (es : Entries) → IsNestedBelow most depth es → IsNestedBelow most depth (tables_alone es)
alone-nested most depth [] nested = tt
alone-nested most depth (table number ∷ es) nested = (nested.0, alone-nested most (depth + 1) es nested.1)
alone-nested most depth (table_end ∷ es) nested = alone-nested most (depth - 1) es nested
alone-nested most depth (caption ∷ es) nested = alone-nested most depth es nested
alone-nested most depth (columns n ∷ es) nested = alone-nested most depth es nested
alone-nested most depth (group part ∷ es) nested = alone-nested most depth es nested
alone-nested most depth (row ∷ es) nested = alone-nested most depth es nested
alone-nested most depth (cell head colspan rowspan least align ∷ es) nested = alone-nested most depth es nested
alone-nested most depth (paragraph atoms ∷ es) nested = alone-nested most depth es nested

pub alone-count : (es : Entries) → table_count (tables_alone es) ≡ table_count es
alone-count [] = refl
alone-count (table number ∷ es) = ap (λ n. n + 1) (alone-count es)
alone-count (table_end ∷ es) = alone-count es
alone-count (caption ∷ es) = alone-count es
alone-count (columns n ∷ es) = alone-count es
alone-count (group part ∷ es) = alone-count es
alone-count (row ∷ es) = alone-count es
alone-count (cell head colspan rowspan least align ∷ es) = alone-count es
alone-count (paragraph atoms ∷ es) = alone-count es

pub count-append : (xs ys : Entries) → table_count (xs ++ ys) ≡ table_count xs + table_count ys
count-append [] ys = omega arith
count-append (table number ∷ xs) ys = omega (arith, count-append xs ys)
count-append (table_end ∷ xs) ys = count-append xs ys
count-append (caption ∷ xs) ys = count-append xs ys
count-append (columns n ∷ xs) ys = count-append xs ys
count-append (group part ∷ xs) ys = count-append xs ys
count-append (row ∷ xs) ys = count-append xs ys
count-append (cell head colspan rowspan least align ∷ xs) ys = count-append xs ys
count-append (paragraph atoms ∷ xs) ys = count-append xs ys

-- ---- the blocks of a table, and those of a tree, in one list

abbrev pub flow_of : CellNode → List Block
flow_of node = (out-CellNode node).flow

abbrev pub captured : Option (List Block) → List Block
captured None = []
captured (Some flow) = flow

abbrev pub blocks_of : OpenNode → List Block
blocks_of node = captured node.caption ++ flat_map flow_of (cells_written node)

abbrev pub alone : List Block → Entries
alone flow = tables_alone (blocks_outline flow)

pub alone-flows : (xs ys : List Block) → alone (xs ++ ys) ≡ alone xs ++ alone ys
alone-flows xs ys = ap tables_alone (flat_map-append block_outline xs ys) ∙ alone-append (blocks_outline xs) (blocks_outline ys)

pub alone-cells : (nodes : List CellNode) → tables_alone (cells_outline nodes) ≡ alone (flat_map flow_of nodes)
alone-cells [] = refl
alone-cells (node ∷ nodes) =
    alone-append (cell_outline node) (cells_outline nodes)
    ∙ ap (λ (es : Entries). es ++ tables_alone (cells_outline nodes)) (ap tables_alone (cell_outline-out node))
    ∙ ap (λ (es : Entries). alone (flow_of node) ++ es) (alone-cells nodes)
    ∙ sym (alone-flows (flow_of node) (flat_map flow_of nodes))

pub alone-rows : (rows : List (List CellNode)) → tables_alone (rows_outline rows) ≡ tables_alone
    (cells_outline (flat_map (λ (cells : List CellNode). cells) rows))
alone-rows [] = refl
alone-rows (cells ∷ rows) =
    alone-append (row ∷ cells_outline cells) (rows_outline rows)
    ∙ ap (λ (es : Entries). tables_alone (cells_outline cells) ++ es) (alone-rows rows)
    ∙ sym (alone-append (cells_outline cells) (cells_outline (flat_map (λ (each : List CellNode). each) rows)))
    ∙ ap tables_alone (sym (flat_map-append cell_outline cells (flat_map (λ (each : List CellNode). each) rows)))

pub alone-groups : (groups : List GroupNode) → tables_alone (groups_outline groups) ≡
    tables_alone (cells_outline (flat_map (λ each. cells_of_group (out-GroupNode each)) groups))
alone-groups [] = refl
alone-groups (g ∷ groups) =
    let own = cells_of_group (out-GroupNode g) in
    let others = flat_map (λ each. cells_of_group (out-GroupNode each)) groups in
    alone-append (group_outline g) (groups_outline groups)
    ∙ ap (λ (es : Entries). es ++ tables_alone (groups_outline groups))
    (ap tables_alone (group_outline-out g) ∙ alone-rows (out-GroupNode g).rows)
    ∙ ap (λ (es : Entries). tables_alone (cells_outline own) ++ es) (alone-groups groups)
    ∙ sym (alone-append (cells_outline own) (cells_outline others))
    ∙ ap tables_alone (sym (flat_map-append cell_outline own others))

pub alone-caption : (caption : Option (List Block)) → tables_alone (caption_outline caption) ≡ alone (captured caption)
alone-caption None = refl
alone-caption (Some flow) = refl

-- a table begins, then come its blocks, and then it ends
pub alone-table : (node : TableNode) → tables_alone (outline node) ≡
    table (out-TableNode node).number ∷ (alone (blocks_of (out-TableNode node)) ++ table_end ∷ [])
alone-table node =
    let o = out-TableNode node in
    let above = caption_outline o.caption in
    let below = groups_outline o.groups in
    ap tables_alone (outline-out node)
    ∙ ap (λ (es : Entries). table o.number ∷ es) (
    alone-append above (columns o.columns ∷ (below ++ table_end ∷ []))
    ∙ ap (λ (es : Entries). tables_alone above ++ es) (alone-append below (table_end ∷ []))
    ∙ ap (λ (es : Entries). es ++ (tables_alone below ++ table_end ∷ [])) (alone-caption o.caption)
    ∙ ap (λ (es : Entries). alone (captured o.caption) ++ (es ++ table_end ∷ []))
    (alone-groups o.groups ∙ alone-cells (cells_written o))
    ∙ sym (append_assoc (alone (captured o.caption)) (alone (flat_map flow_of (cells_written o))) (table_end ∷ []))
    ∙ ap (λ (es : Entries). es ++ table_end ∷ []) (sym (alone-flows (captured o.caption) (flat_map flow_of (cells_written o))))
    )

-- ---- the contents of a table, in one list

abbrev pub contents_of : List TableCell → List Content
contents_of cells = flat_map (λ one. (out-TableCell one).blocks) cells

abbrev pub tables_among : List Content → List Table
tables_among contents = flat_map (λ block. tables_of (out-Content block)) contents

pub tables_of_cells : (cells : List TableCell) → flat_map (λ one. tables_in (out-TableCell one)) cells ≡ tables_among
    (contents_of cells)
tables_of_cells [] = refl
tables_of_cells (one ∷ cells) =
    ap (λ (tables : List Table). tables_in (out-TableCell one) ++ tables) (tables_of_cells cells)
    ∙ sym (flat_map-append (λ block. tables_of (out-Content block)) (out-TableCell one).blocks (contents_of cells))

-- ---- blocks and contents that belong together, over all cells

module _ (forms : TableNode → Table → Type 0) (breaking : Breaking) where
  abbrev pub one_becomes : Block → Content → Type 0
  one_becomes block content = BecomesContent forms breaking (out-Block block) (out-Content content)

  pub zip_cells : (nodes : List CellNode) (cells : List TableCell) → BecomeCells forms breaking nodes cells →
      BecomeContents forms breaking (flat_map flow_of nodes) (contents_of cells)
  zip_cells [] [] become = tt
  zip_cells [] (one ∷ cells) become = absurd become
  zip_cells (node ∷ nodes) [] become = absurd become
  zip_cells (node ∷ nodes) (one ∷ cells) become =
      AllZip-append one_becomes (flow_of node) (flat_map flow_of nodes) (out-TableCell one).blocks (contents_of cells)
      become.0.blocks
      (zip_cells nodes cells become.1)

  pub zip_caption : (cols : ℕ) (flow : Option (List Block)) (cells : List TableCell) →
      BecomeCaption forms breaking cols flow cells →
      BecomeContents forms breaking (captured flow) (contents_of cells)
  zip_caption cols None cells become = subst (λ (none : List TableCell). BecomeContents forms breaking [] (contents_of none))
      (sym become) tt
  zip_caption cols (Some flow) [] become = absurd become
  zip_caption cols (Some flow) (one ∷ cells) become =
      subst (λ (none : List TableCell). BecomeContents forms breaking flow ((out-TableCell one).blocks ++ contents_of none))
      (sym become.1)
      (subst (λ (blocks : List Content). BecomeContents forms breaking flow blocks)
      (sym (append-nil (out-TableCell one).blocks)) become.0.blocks)

  -- all blocks of a table
  pub zip_table : (node : OpenNode) (made : OpenTable) (becomes : BecomesBy forms breaking node made) →
      BecomeContents forms breaking (blocks_of node) (contents_of (becomes.caption ++ becomes.written))
  zip_table node made becomes =
      subst (BecomeContents forms breaking (blocks_of node))
      (sym (flat_map-append (λ one. (out-TableCell one).blocks) becomes.caption becomes.written))
      (AllZip-append one_becomes (captured node.caption) (flat_map flow_of (cells_written node)) (contents_of becomes.caption)
      (contents_of becomes.written)
      (zip_caption made.cols node.caption becomes.caption becomes.captioned)
      (zip_cells (cells_written node) becomes.written becomes.cells))
