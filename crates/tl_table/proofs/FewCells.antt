-- A table that a tree becomes has few cells, and so has each table nested in it.
use Rattle.std.proofs.Common.{◌≡◌, ℕ, zero, suc, ◌+◌, ◌≤◌, ◌⊎◌, inl, inr, List, [], ◌∷◌, ◌++◌, length, Option, Some, None}
use Rattle.std.proofs.Common.{Contains}
use Rattle.std.proofs.Common.{sym, ap, subst, length-append, arith}
use Rattle.std.specs.List.{AllByRecursion}
use Rattle.std.proofs.lemmas.List.{length-map}
use Rattle.std.proofs.lemmas.List.Elements.{All-contains, All-from_recursion, recursion_from_All}
use Rattle.std.proofs.lemmas.List.Sorted.{All-permutation, length_permutation}
use Rattle.tl_base.specs.declared.breaking.Breaking.{Breaking}
use Rattle.tl_base.specs.declared.limits.TheConstants.{MAX_CELLS}
use Rattle.tl_base.proofs.Members.{AllByRecursion-append}
use Rattle.tl_tree.specs.declared.node.Block.{Block, out-Block}
use Rattle.tl_tree.specs.declared.node.Block.TheOpen as open_block
use Rattle.tl_tree.specs.declared.node.CellNode.{CellNode, out-CellNode}
use Rattle.tl_tree.specs.declared.node.TableNode.{TableNode, out-TableNode}
use Rattle.tl_table.specs.declared.cell.Content.{Content, out-Content}
use Rattle.tl_table.specs.declared.cell.Content.TheOpen as open_content
use Rattle.tl_table.specs.declared.cell.Table.{Table, out-Table}
use Rattle.tl_table.specs.declared.cell.TableCell.{TableCell, out-TableCell}
use Rattle.tl_table.specs.Tables.{OpenTable, OpenCell, OpenContent, inner_tables, tables_in, tables_of, IsAmong}
use Rattle.tl_table.specs.FewCells.{HasFewCells}
use Rattle.tl_table.specs.Formed.{OpenBlock, OpenNode, BecomesContent, BecomeContents, BecomeCells, BecomeCaption, BecomesBy}
use Rattle.tl_table.specs.Formed.{BecomesWithin}
use Rattle.tl_table.specs.Formed.{caption_rows, cells_written, lowered}
use Rattle.tl_table.specs.Sound.{place_of}
use Rattle.tl_table.proofs.SoundParts.{joined-each}

-- ---- the table itself, or one nested in it

pub among-to : (table inside : Table) → IsAmong table inside →
    (table ≡ inside) ⊎ ((nested : Table) × Contains (inner_tables (out-Table table)) nested × IsAmong nested inside)
among-to table inside (inl same) = inl same
among-to table inside (inr (zero, none)) = absurd none
among-to table inside (inr (suc depth, (nested, has, inl same))) = inr (nested, has, inl same)
among-to table inside (inr (suc depth, (nested, has, inr deeper))) = inr (nested, has, inr (depth, deeper))

pub among-from : (table nested inside : Table) → Contains (inner_tables (out-Table table)) nested → IsAmong nested inside →
    IsAmong table inside
among-from table nested inside has (inl same) = inr (1, (nested, has, inl same))
among-from table nested inside has (inr (depth, deeper)) = inr (suc depth, (nested, has, inr deeper))

-- ---- tables that trees become

module _ (forms : TableNode → Table → Type 0) (breaking : Breaking) where
  -- some node becomes it
  abbrev IsFormed : Table → Type 0
  IsFormed table = (node : TableNode) × forms node table

  content-formed : (block : OpenBlock) (content : OpenContent) → BecomesContent forms breaking block content →
      AllByRecursion IsFormed (tables_of content)
  content-formed (open_block.Para atoms) (open_content.Para units) becomes = tt
  content-formed (open_block.Para atoms) (open_content.Table box) becomes = absurd becomes
  content-formed (open_block.Table node) (open_content.Para units) becomes = tt
  content-formed (open_block.Table node) (open_content.Table box) becomes = ((node.value, becomes), tt)

  contents-formed : (flow : List Block) (contents : List Content) → BecomeContents forms breaking flow contents →
      AllByRecursion (λ content. AllByRecursion IsFormed (tables_of (out-Content content))) contents
  contents-formed [] [] become = tt
  contents-formed [] (content ∷ contents) become = absurd become
  contents-formed (block ∷ flow) [] become = absurd become
  contents-formed (block ∷ flow) (content ∷ contents) become =
      (content-formed (out-Block block) (out-Content content) become.0, contents-formed flow contents become.1)

  cell-formed : (flow : List Block) (cell : OpenCell) → BecomeContents forms breaking flow cell.blocks →
      AllByRecursion IsFormed (tables_in cell)
  cell-formed flow cell become =
      joined-each IsFormed (λ block. tables_of (out-Content block)) cell.blocks (contents-formed flow cell.blocks become)

  cells-formed : (nodes : List CellNode) (cells : List TableCell) → BecomeCells forms breaking nodes cells →
      AllByRecursion (λ cell. AllByRecursion IsFormed (tables_in (out-TableCell cell))) cells
  cells-formed [] [] become = tt
  cells-formed [] (cell ∷ cells) become = absurd become
  cells-formed (node ∷ nodes) [] become = absurd become
  cells-formed (node ∷ nodes) (cell ∷ cells) become =
      (cell-formed (out-CellNode node).flow (out-TableCell cell) become.0.blocks, cells-formed nodes cells become.1)

  caption-formed : (cols : ℕ) (flow : Option (List Block)) (cells : List TableCell) →
      BecomeCaption forms breaking cols flow cells →
      AllByRecursion (λ cell. AllByRecursion IsFormed (tables_in (out-TableCell cell))) cells × (length cells ≤ 1)
  caption-formed cols None cells become = (
    subst (AllByRecursion (λ cell. AllByRecursion IsFormed (tables_in (out-TableCell cell)))) (sym become) tt,
    omega (arith, ap length become),
  )
  caption-formed cols (Some flow) [] become = absurd become
  caption-formed cols (Some flow) (cell ∷ cells) become = (
    (
      cell-formed flow (out-TableCell cell) become.0.blocks,
      subst (AllByRecursion (λ one. AllByRecursion IsFormed (tables_in (out-TableCell one)))) (sym become.1) tt,
    ),
    omega (arith, ap length become.1),
  )

  -- the tables nested in it are formed, and it has few cells
  inner-formed : (node : OpenNode) (table : OpenTable) → BecomesBy forms breaking node table →
      AllByRecursion IsFormed (inner_tables table)
  inner-formed node table becomes =
      joined-each IsFormed (λ cell. tables_in (out-TableCell cell)) table.cells
      (recursion_from_All (λ cell. AllByRecursion IsFormed (tables_in (out-TableCell cell))) table.cells
      (All-permutation (λ cell. AllByRecursion IsFormed (tables_in (out-TableCell cell))) (becomes.caption ++ becomes.written)
      table.cells becomes.same
      (All-from_recursion (λ cell. AllByRecursion IsFormed (tables_in (out-TableCell cell))) (becomes.caption ++ becomes.written)
      (AllByRecursion-append (λ cell. AllByRecursion IsFormed (tables_in (out-TableCell cell))) becomes.caption becomes.written
      (caption-formed table.cols node.caption becomes.caption becomes.captioned).0
      (cells-formed (cells_written node) becomes.written becomes.cells)))))

  few-cells : (node : OpenNode) (table : OpenTable) → BecomesBy forms breaking node table → length table.cells ≤ MAX_CELLS + 1
  few-cells node table becomes =
      omega (
        arith,
        length_permutation (becomes.caption ++ becomes.written) table.cells becomes.same,
        length-append becomes.caption becomes.written,
        (caption-formed table.cols node.caption becomes.caption becomes.captioned).1,
        length-map becomes.written place_of,
        length-map becomes.grid.places (lowered (caption_rows node.caption)),
        ap length becomes.places,
        becomes.has_grid.places.as_many,
        becomes.has_grid.few_cells,
      )

pub formed-few : (depth : ℕ) (breaking : Breaking) (node : TableNode) (table : Table) →
    BecomesWithin depth breaking node table → HasFewCells table
formed-few zero breaking node table becomes = absurd becomes
formed-few (suc depth) breaking node table becomes = λ inside among. elim (among-to table inside among) [
  | inl same ↦ subst (λ (any : Table). length (out-Table any).cells ≤ MAX_CELLS + 1) same
      (few-cells (BecomesWithin depth breaking) breaking (out-TableNode node) (out-Table table) becomes)
  | inr deeper ↦
      let formed = All-contains (IsFormed (BecomesWithin depth breaking) breaking) (inner_tables (out-Table table)) deeper.0
      (All-from_recursion (IsFormed (BecomesWithin depth breaking) breaking) (inner_tables (out-Table table))
      (inner-formed (BecomesWithin depth breaking) breaking (out-TableNode node) (out-Table table) becomes)) deeper.1 in
      formed-few depth breaking formed.0 deeper.0 formed.1 inside deeper.2
]
