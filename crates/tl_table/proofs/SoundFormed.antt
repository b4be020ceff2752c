-- What a sound tree becomes is a sound table: no deeper, with as many tables and no greater size than the tree; and a file can
-- spell it by the same breaking.
use Rattle.std.proofs.Common.{◌≡◌, ◌∙◌, ℕ, zero, suc, ◌+◌, ◌-◌, ◌≤◌, max, Option, Some, None, List, [], ◌∷◌, ◌++◌, map, sum_by}
use Rattle.std.proofs.Common.{refl, sym, ap, subst}
use Rattle.std.proofs.Common.{append_assoc, arith}
use Rattle.std.specs.List.{All, AllByRecursion, flat_map, range_with_len}
use Rattle.std.specs.List.Sorted.{IsPermutation}
use Rattle.std.proofs.lemmas.Grind.{flat_map-append}
use Rattle.std.proofs.lemmas.List.{append-nil}
use Rattle.std.proofs.lemmas.List.Elements.{All-from_recursion, recursion_from_All}
use Rattle.std.proofs.lemmas.List.Sorted.{All-permutation, Contains-permutation, sum_by-IsPermutation, IsPermutation-map}
use Rattle.std.proofs.lemmas.List.Sums.{sum_by-cons, sum_by-append}
use Rattle.tl_base.specs.declared.breaking.Breaking.{Breaking}
use Rattle.tl_base.specs.declared.limits.TheConstants.{MAX_DEPTH, MAX_PAGE_WIDTH}
use Rattle.tl_base.proofs.Members.{AllByRecursion-append}
use Rattle.tl_tree.specs.Outline.{blocks_outline, group_outline, outline, caption_outline, cells_outline}
use Rattle.tl_grid.specs.Dropping.{IsPlaced}
use Rattle.tl_text.specs.Paragraph.{atom_size}
use Rattle.tl_tree.specs.Outline.{Entries, table, caption, columns, group, row, cell, paragraph, table_end, block_outline}
use Rattle.tl_tree.specs.Outline.{cell_outline}
use Rattle.tl_tree.specs.Sound.{AreSound, IsNestedBelow, entry_size, IsSound as IsSoundTree}
use Rattle.tl_tree.specs.declared.node.Block.{Block, out-Block}
use Rattle.tl_tree.specs.declared.node.Block.TheOpen as open_block
use Rattle.tl_tree.specs.declared.node.CellNode.{CellNode, out-CellNode}
use Rattle.tl_tree.specs.declared.node.GroupNode.{GroupNode, out-GroupNode}
use Rattle.tl_tree.specs.declared.node.TableNode.{TableNode, out-TableNode}
use Rattle.tl_table.specs.declared.cell.Content.{Content, out-Content}
use Rattle.tl_table.specs.declared.cell.Content.TheOpen as open_content
use Rattle.tl_table.specs.declared.cell.Table.{Table, out-Table}
use Rattle.tl_table.specs.declared.cell.TableCell.{TableCell, out-TableCell}
use Rattle.tl_table.specs.Tables.{OpenTable, OpenContent, tables_of, tables_in}
use Rattle.tl_table.specs.Formed.{OpenBlock, BecomesContent, BecomeContents, BecomeCells, BecomeCaption, BecomesBy, BecomesWithin}
use Rattle.tl_table.specs.Formed.{Becomes}
use Rattle.tl_table.specs.Formed.{cells_of_group, cells_written, caption_rows}
use Rattle.tl_table.specs.Sound.{IsSoundBy, IsSoundWithin, IsSound, place_of, table_size, cell_size, content_size}
use Rattle.tl_table.specs.Refused.{tables_in_flow, tables_in_block, numbered_shapes as shapes_of}
use Rattle.tl_table.proofs.SizesOpen.{table_size-out, cell_size-out, content_size-out, open_size}
use Rattle.tl_table.proofs.SoundNodes.{open_outline, rows_outline, groups_outline, block_outline-out, cell_outline-out}
use Rattle.tl_table.proofs.SoundNodes.{group_outline-out, outline-out}
use Rattle.tl_table.proofs.SoundNodes.{flat_groups, sound_each, cell_flow, table_groups, table_caption}
use Rattle.tl_table.proofs.SoundParts.{each_joined, joined-each}
use Rattle.tl_table.proofs.Laid.{AreLaid, cells_laid}
use Rattle.tl_table.proofs.Orders.{apart_moved}
use Rattle.tl_table.proofs.UnitSizes.{broken_size}
use Rattle.tl_table.proofs.Blocks.{tables_alone, alone-append, alone-nested, flow_of, captured, blocks_of, alone, alone-table}
use Rattle.tl_table.proofs.Blocks.{contents_of}
use Rattle.tl_table.proofs.Blocks.{tables_among, tables_of_cells, zip_table}
use Rattle.std.proofs.Common.{length}
use Rattle.tl_table.specs.Sound.{IsSpeltBlock, numbers_inside, count_inside}
use Rattle.tl_table.proofs.Numbered.{AreNumbered, tables_of_blocks, numbered_split, tables_numbered}
use Rattle.tl_table.proofs.TreeParts.{tables_in_open, tables_in_block-out}
use Rattle.tl_table.proofs.SpellableTables.{becomes_spellable}
use Rattle.tl_table.proofs.SpeltBlocks.{spelt-caption, spelt-cells}
use Rattle.tl_table.proofs.SoundCounts.{Counts, Numbers, within_counts, within_numbers, level_numbered}

-- ---- depth

-- what holds of the tables in some cells holds of those in the cells in another order
tables_moved : (P : Table → Type 0) (xs ys : List TableCell) → IsPermutation xs ys →
    AllByRecursion P (tables_among (contents_of xs)) →
    AllByRecursion P (flat_map (λ one. tables_in (out-TableCell one)) ys)
tables_moved P xs ys moved all =
    joined-each P (λ one. tables_in (out-TableCell one)) ys
    (recursion_from_All (λ one. AllByRecursion P (tables_in (out-TableCell one))) ys
    (All-permutation (λ one. AllByRecursion P (tables_in (out-TableCell one))) xs ys moved
    (All-from_recursion (λ one. AllByRecursion P (tables_in (out-TableCell one))) xs
    (each_joined P (λ one. tables_in (out-TableCell one)) xs (subst (AllByRecursion P) (sym (tables_of_cells xs)) all)))))

narrow_caption : (forms : TableNode → Table → Type 0) (breaking : Breaking) (cols : ℕ) (flow : Option (List Block))
    (cells : List TableCell) →
    BecomeCaption forms breaking cols flow cells → AllByRecursion (λ one. (out-TableCell one).least ≤ MAX_PAGE_WIDTH) cells
narrow_caption forms breaking cols None cells become = subst
    (AllByRecursion (λ one. (out-TableCell one).least ≤ MAX_PAGE_WIDTH)) (sym become) tt
narrow_caption forms breaking cols (Some flow) [] become = absurd become
narrow_caption forms breaking cols (Some flow) (one ∷ cells) become = (
  omega (arith, become.0.least),
  subst (AllByRecursion (λ each. (out-TableCell each).least ≤ MAX_PAGE_WIDTH)) (sym become.1)
      tt,
)

narrow_cells : (forms : TableNode → Table → Type 0) (breaking : Breaking) (nodes : List CellNode) (cells : List TableCell) →
    AllByRecursion (λ node. AreSound (cell_outline node)) nodes → BecomeCells forms breaking nodes cells →
    AllByRecursion (λ one. (out-TableCell one).least ≤ MAX_PAGE_WIDTH) cells
narrow_cells forms breaking nodes [] sound become = tt
narrow_cells forms breaking [] (one ∷ cells) sound become = absurd become
narrow_cells forms breaking (node ∷ nodes) (one ∷ cells) sound become =
    let range = (subst AreSound (cell_outline-out node) sound.0).in_range.0 in
    (omega (arith, range.narrow, become.0.least), narrow_cells forms breaking nodes cells sound.1 become.1)

-- the blocks of a table are sound
flat_cells : (nodes : List CellNode) → AllByRecursion (λ node. AreSound (cell_outline node)) nodes →
    AllByRecursion (λ block. AreSound (block_outline block)) (flat_map flow_of nodes)
flat_cells [] sound = tt
flat_cells (node ∷ nodes) sound =
    AllByRecursion-append (λ block. AreSound (block_outline block)) (flow_of node) (flat_map flow_of nodes)
    (sound_each block_outline (flow_of node) (cell_flow node sound.0)) (flat_cells nodes sound.1)

sound_blocks_of : (node : TableNode) → AreSound (outline node) →
    AllByRecursion (λ block. AreSound (block_outline block)) (blocks_of (out-TableNode node))
sound_blocks_of node sound =
    AllByRecursion-append (λ block. AreSound (block_outline block)) (captured (out-TableNode node).caption)
    (flat_map flow_of (cells_written (out-TableNode node)))
    (by_caption (out-TableNode node).caption refl)
    (flat_cells (cells_written (out-TableNode node)) (flat_groups (out-TableNode node).groups (table_groups node sound)))
  where
    by_caption : (flow : Option (List Block)) → (out-TableNode node).caption ≡ flow →
        AllByRecursion (λ block. AreSound (block_outline block)) (captured flow)
    by_caption None is = tt
    by_caption (Some flow) is = sound_each block_outline flow (table_caption node flow is sound)

-- one table, where the tables nested in it are sound
level_sound : (forms : TableNode → Table → Type 0) (breaking : Breaking) (node : TableNode) (made : OpenTable) (sound : Table →
    Type 0) →
    AreSound (outline node) → (becomes : BecomesBy forms breaking (out-TableNode node) made) →
    AllByRecursion sound (tables_among (contents_of (becomes.caption ++ becomes.written))) →
    IsPermutation (numbers_inside made) (range_with_len (made.number + 1) (count_inside made)) → IsSoundBy sound made
level_sound forms breaking node made sound is becomes inner numbers = record {
  few_columns = omega (arith, laid.few_columns, becomes.cols);
  few_rows = omega (arith, laid.few_rows, becomes.rows);
  placed = subst (λ n. All (IsPlaced n made.rows) (map place_of made.cells)) (sym becomes.cols)
      (subst (λ n. All (IsPlaced (max becomes.grid.cols down) n) (map place_of made.cells)) (sym becomes.rows)
      (All-permutation (IsPlaced (max becomes.grid.cols down) (becomes.grid.rows + down)) (map place_of all)
      (map place_of made.cells) moved laid.placed));
  apart = apart_moved (map place_of all) (map place_of made.cells) moved laid.apart;
  in_order = becomes.in_order;
  columns = λ x lt. let found = laid.in_columns x (omega (arith, becomes.cols)) in
      let has = Contains-permutation (map place_of all) (map place_of made.cells) found.0 moved found.1 in
      (has.0, found.0, has.1, has.2, found.2);
  rows = λ y lt. let found = laid.in_rows y (omega (arith, becomes.rows)) in
      let has = Contains-permutation (map place_of all) (map place_of made.cells) found.0 moved found.1 in
      (has.0, found.0, has.1, has.2, found.2);
  narrow = All-permutation (λ one. (out-TableCell one).least ≤ MAX_PAGE_WIDTH) all made.cells becomes.same
      (All-from_recursion (λ one. (out-TableCell one).least ≤ MAX_PAGE_WIDTH) all
      (AllByRecursion-append (λ one. (out-TableCell one).least ≤ MAX_PAGE_WIDTH) becomes.caption becomes.written
      (narrow_caption forms breaking made.cols (out-TableNode node).caption becomes.caption becomes.captioned)
      (narrow_cells forms breaking (cells_written (out-TableNode node)) becomes.written
      (flat_groups (out-TableNode node).groups (table_groups node is)) becomes.cells)));
  spelt = All-permutation (λ one. AllByRecursion (λ block. IsSpeltBlock (out-Content block)) (out-TableCell one).blocks)
      all made.cells becomes.same
      (All-from_recursion (λ one. AllByRecursion (λ block. IsSpeltBlock (out-Content block)) (out-TableCell one).blocks) all
      (AllByRecursion-append (λ one. AllByRecursion (λ block. IsSpeltBlock (out-Content block)) (out-TableCell one).blocks)
      becomes.caption becomes.written
      (spelt-caption forms breaking node made.cols (out-TableNode node).caption becomes.caption refl is becomes.captioned)
      (spelt-cells forms breaking (cells_written (out-TableNode node)) becomes.written
      (flat_groups (out-TableNode node).groups (table_groups node is)) becomes.cells)));
  numbered = numbers;
  inner = tables_moved sound all made.cells becomes.same inner;
} where
  all : List TableCell
  all = becomes.caption ++ becomes.written

  down : ℕ
  down = caption_rows (out-TableNode node).caption

  laid : AreLaid (max becomes.grid.cols down) (becomes.grid.rows + down) (map place_of (becomes.caption ++ becomes.written))
  laid = cells_laid forms breaking node becomes.grid (out-TableNode node).caption becomes.caption becomes.written is
      becomes.has_grid
      (subst (λ cols. BecomeCaption forms breaking cols (out-TableNode node).caption becomes.caption)
      becomes.cols becomes.captioned) becomes.places

  moved : IsPermutation (map place_of (becomes.caption ++ becomes.written)) (map place_of made.cells)
  moved = IsPermutation-map place_of (becomes.caption ++ becomes.written) made.cells becomes.same

-- ---- all depths

-- `more` tables may still be open in `depth` of them
abbrev Deep : (TableNode → Table → Type 0) → Type 0
Deep forms = (node : TableNode) (made : Table) → forms node made → AreSound (outline node) → (k : ℕ) →
    AreNumbered k (shapes_of node) →
    (depth more : ℕ) (rest : Entries) → IsNestedBelow (depth + more) depth (tables_alone (outline node) ++ rest) →
    IsSoundWithin more made × IsNestedBelow (depth + more) depth rest

content_deep : (forms : TableNode → Table → Type 0) → Deep forms → (breaking : Breaking) (o : OpenBlock) (content : OpenContent) →
    BecomesContent forms breaking o content → AreSound (open_outline o) → (k : ℕ) → AreNumbered k (tables_in_open o) →
    (depth more : ℕ) (rest : Entries) →
    IsNestedBelow (depth + more) depth (tables_alone (open_outline o) ++ rest) →
    AllByRecursion (IsSoundWithin more) (tables_of content) × IsNestedBelow (depth + more) depth rest
content_deep forms deep breaking (open_block.Para atoms) (open_content.Para units) becomes sound k are depth more rest nested =
    (tt, nested)
content_deep forms deep breaking (open_block.Para atoms) (open_content.Table box) becomes sound k are depth more rest nested =
    absurd becomes
content_deep forms deep breaking (open_block.Table node) (open_content.Para units) becomes sound k are depth more rest nested =
    absurd becomes
content_deep forms deep breaking (open_block.Table node) (open_content.Table box) becomes sound k are depth more rest nested =
    let found = deep node.value box.value becomes sound k are depth more rest nested in ((found.0, tt), found.1)

contents_deep : (forms : TableNode → Table → Type 0) → Deep forms →
    (breaking : Breaking) (flow : List Block) (contents : List Content) →
    BecomeContents forms breaking flow contents → AllByRecursion (λ block. AreSound (block_outline block)) flow →
    (k : ℕ) → AreNumbered k (tables_in_flow flow) → (depth more : ℕ) (rest : Entries) →
    IsNestedBelow (depth + more) depth (alone flow ++ rest) →
    AllByRecursion (IsSoundWithin more) (tables_among contents) × IsNestedBelow (depth + more) depth rest
contents_deep forms deep breaking [] [] become sound k are depth more rest nested = (tt, nested)
contents_deep forms deep breaking [] (content ∷ contents) become sound k are depth more rest nested = absurd become
contents_deep forms deep breaking (block ∷ flow) [] become sound k are depth more rest nested = absurd become
contents_deep forms deep breaking (block ∷ flow) (content ∷ contents) become sound k are depth more rest nested =
    let split : alone (block ∷ flow) ++ rest ≡ tables_alone (open_outline (out-Block block)) ++ (alone flow ++ rest) =
    ap (λ (es : Entries). es ++ rest) (alone-append (block_outline block) (blocks_outline flow)
    ∙ ap (λ (es : Entries). tables_alone es ++ alone flow) (block_outline-out block))
    ∙ append_assoc (tables_alone (open_outline (out-Block block))) (alone flow) rest in
    let split_numbers = numbered_split k (tables_in_block block) (tables_in_flow flow) are in
    let first = content_deep forms deep breaking (out-Block block) (out-Content content) become.0
    (subst AreSound (block_outline-out block) sound.0) k (subst (AreNumbered k) (tables_in_block-out block) split_numbers.0)
    depth more
    (alone flow ++ rest) (subst (IsNestedBelow (depth + more) depth) split nested) in
    let later = contents_deep forms deep breaking flow contents become.1 sound.1 (k + length (tables_in_block block))
    split_numbers.1
    depth more rest first.1 in (
      AllByRecursion-append (IsSoundWithin more) (tables_of (out-Content content)) (tables_among contents) first.0 later.0,
      later.1,
    )

table_deep : (forms : TableNode → Table → Type 0) → Counts forms → Numbers forms → Deep forms →
    (breaking : Breaking) (node : TableNode) (made : Table) →
    BecomesBy forms breaking (out-TableNode node) (out-Table made) → AreSound (outline node) →
    (k : ℕ) → AreNumbered k (shapes_of node) → (depth more : ℕ) (rest : Entries) →
    IsNestedBelow (depth + more) depth (tables_alone (outline node) ++ rest) →
    IsSoundWithin more made × IsNestedBelow (depth + more) depth rest
table_deep forms counts numbers deep breaking node made becomes sound k are depth more rest nested =
    by_more more (subst (IsNestedBelow (depth + more) depth) opened nested)
  where
    blocks : List Block
    blocks = blocks_of (out-TableNode node)

    opened : tables_alone (outline node) ++ rest ≡ table (out-TableNode node).number ∷ (alone blocks ++ table_end ∷ rest)
    opened = ap (λ (es : Entries). es ++ rest) (alone-table node)
        ∙ ap (λ (es : Entries). table (out-TableNode node).number ∷ es) (append_assoc (alone blocks) (table_end ∷ []) rest)

    by_more : (more : ℕ) → IsNestedBelow (depth + more) depth
        (table (out-TableNode node).number ∷ (alone blocks ++ table_end ∷ rest)) →
        IsSoundWithin more made × IsNestedBelow (depth + more) depth rest
    by_more zero opened = absurd (omega (arith, opened.0))
    by_more (suc more) opened =
        let same : depth + suc more ≡ (depth + 1) + more = omega arith in
        let inside = contents_deep forms deep breaking blocks (contents_of (becomes.caption ++ becomes.written))
        (zip_table forms breaking (out-TableNode node) (out-Table made) becomes) (sound_blocks_of node sound)
        (k + 1) (subst (AreNumbered k) (tables_of_blocks node) are).1 (depth + 1) more (table_end ∷ rest)
        (subst (λ most. IsNestedBelow most (depth + 1) (alone blocks ++ table_end ∷ rest)) same opened.1) in
        let back : depth + 1 - 1 ≡ depth = omega arith in (
          level_sound forms breaking node (out-Table made) (IsSoundWithin more) sound becomes inside.0
              (level_numbered forms counts numbers breaking node made becomes k are),
          subst (λ most. IsNestedBelow most depth rest) (sym same)
              (subst (λ at. IsNestedBelow ((depth + 1) + more) at rest) back inside.1),
        )

within_deep : (most : ℕ) (breaking : Breaking) → Deep (BecomesWithin most breaking)
within_deep zero breaking node made becomes = absurd becomes
within_deep (suc most) breaking node made becomes =
    table_deep (BecomesWithin most breaking) (within_counts most breaking) (within_numbers most breaking)
    (within_deep most breaking) breaking node made becomes

-- ---- how much

abbrev Small : (TableNode → Table → Type 0) → Type 0
Small forms = (node : TableNode) (made : Table) → forms node made → table_size made ≤ sum_by entry_size (outline node)

content_small : (forms : TableNode → Table → Type 0) → Small forms →
    (breaking : Breaking) (o : OpenBlock) (content : OpenContent) →
    BecomesContent forms breaking o content → open_size content ≤ sum_by entry_size (open_outline o)
content_small forms small breaking (open_block.Para atoms) (open_content.Para units) becomes = omega (
  arith,
  ap (sum_by atom_size) becomes,
  broken_size breaking atoms,
  sum_by-cons entry_size (paragraph atoms) [],
)
content_small forms small breaking (open_block.Para atoms) (open_content.Table box) becomes = absurd becomes
content_small forms small breaking (open_block.Table node) (open_content.Para units) becomes = absurd becomes
content_small forms small breaking (open_block.Table node) (open_content.Table box) becomes = small node.value box.value becomes

contents_small : (forms : TableNode → Table → Type 0) → Small forms →
    (breaking : Breaking) (flow : List Block) (contents : List Content) →
    BecomeContents forms breaking flow contents → sum_by content_size contents ≤ sum_by entry_size (blocks_outline flow)
contents_small forms small breaking [] [] become = omega arith
contents_small forms small breaking [] (content ∷ contents) become = absurd become
contents_small forms small breaking (block ∷ flow) [] become = absurd become
contents_small forms small breaking (block ∷ flow) (content ∷ contents) become = omega (
  arith,
  sum_by-cons content_size content contents,
  content_size-out content,
  content_small forms small breaking (out-Block block) (out-Content content) become.0,
  ap (sum_by entry_size) (block_outline-out block),
  sum_by-append entry_size (block_outline block) (blocks_outline flow),
  contents_small forms small breaking flow contents become.1,
)

cells_small : (forms : TableNode → Table → Type 0) → Small forms →
    (breaking : Breaking) (nodes : List CellNode) (cells : List TableCell) →
    BecomeCells forms breaking nodes cells → sum_by cell_size cells ≤ sum_by entry_size (cells_outline nodes)
cells_small forms small breaking [] [] become = omega arith
cells_small forms small breaking [] (one ∷ cells) become = absurd become
cells_small forms small breaking (node ∷ nodes) [] become = absurd become
cells_small forms small breaking (node ∷ nodes) (one ∷ cells) become = omega (
  arith,
  sum_by-cons cell_size one cells,
  cell_size-out one,
  contents_small forms small breaking (flow_of node) (out-TableCell one).blocks become.0.blocks,
  ap (sum_by entry_size) (cell_outline-out node),
  sum_by-cons entry_size (cell (out-CellNode node).head (out-CellNode node).colspan (out-CellNode node).rowspan
      (out-CellNode node).least (out-CellNode node).align)
      (blocks_outline (flow_of node)),
  sum_by-append entry_size (cell_outline node) (cells_outline nodes),
  cells_small forms small breaking nodes cells become.1,
)

rows_small : (rows : List (List CellNode)) → sum_by entry_size
    (cells_outline (flat_map (λ (cells : List CellNode). cells) rows)) ≤
    sum_by entry_size (rows_outline rows)
rows_small [] = omega arith
rows_small (cells ∷ rows) =
    let others = flat_map (λ (each : List CellNode). each) rows in
    omega (
      arith,
      ap (sum_by entry_size) (flat_map-append cell_outline cells others),
      sum_by-append entry_size (cells_outline cells) (cells_outline others),
      sum_by-append entry_size (row ∷ cells_outline cells) (rows_outline rows),
      sum_by-cons entry_size row (cells_outline cells),
      rows_small rows,
    )

groups_small : (groups : List GroupNode) → sum_by entry_size
    (cells_outline (flat_map (λ g. cells_of_group (out-GroupNode g)) groups)) ≤
    sum_by entry_size (groups_outline groups)
groups_small [] = omega arith
groups_small (g ∷ groups) =
    let own = cells_of_group (out-GroupNode g) in
    let others = flat_map (λ each. cells_of_group (out-GroupNode each)) groups in
    omega (
      arith,
      ap (sum_by entry_size) (flat_map-append cell_outline own others),
      sum_by-append entry_size (cells_outline own) (cells_outline others),
      sum_by-append entry_size (group_outline g) (groups_outline groups),
      ap (sum_by entry_size) (group_outline-out g),
      sum_by-cons entry_size (group (out-GroupNode g).part) (rows_outline (out-GroupNode g).rows),
      rows_small (out-GroupNode g).rows,
      groups_small groups,
    )

caption_small : (forms : TableNode → Table → Type 0) → Small forms →
    (breaking : Breaking) (cols : ℕ) (flow : Option (List Block)) (cells : List TableCell) →
    BecomeCaption forms breaking cols flow cells → sum_by cell_size cells ≤ 1 + sum_by entry_size (caption_outline flow)
caption_small forms small breaking cols None cells become = omega (arith, ap (sum_by cell_size) become)
caption_small forms small breaking cols (Some flow) [] become = absurd become
caption_small forms small breaking cols (Some flow) (one ∷ cells) become = omega (
  arith,
  sum_by-cons cell_size one cells,
  ap (sum_by cell_size) become.1,
  cell_size-out one,
  contents_small forms small breaking flow (out-TableCell one).blocks become.0.blocks,
  sum_by-cons entry_size caption (blocks_outline flow),
)

table_small : (forms : TableNode → Table → Type 0) → Small forms → (breaking : Breaking) (node : TableNode) (made : Table) →
    BecomesBy forms breaking (out-TableNode node) (out-Table made) → table_size made ≤ sum_by entry_size (outline node)
table_small forms small breaking node made becomes =
    let o = out-TableNode node in
    let rest : Entries = columns o.columns ∷ (groups_outline o.groups ++ table_end ∷ []) in
    omega (
      arith,
      table_size-out made,
      sum_by-IsPermutation cell_size (becomes.caption ++ becomes.written) (out-Table made).cells becomes.same,
      sum_by-append cell_size becomes.caption becomes.written,
      caption_small forms small breaking (out-Table made).cols o.caption becomes.caption becomes.captioned,
      cells_small forms small breaking (cells_written o) becomes.written becomes.cells,
      groups_small o.groups,
      ap (sum_by entry_size) (outline-out node),
      sum_by-cons entry_size (table o.number) (caption_outline o.caption ++ rest),
      sum_by-append entry_size (caption_outline o.caption) rest,
      sum_by-cons entry_size (columns o.columns) (groups_outline o.groups ++ table_end ∷ []),
      sum_by-append entry_size (groups_outline o.groups) (table_end ∷ []),
    )

within_small : (depth : ℕ) (breaking : Breaking) → Small (BecomesWithin depth breaking)
within_small zero breaking node made becomes = absurd becomes
within_small (suc depth) breaking node made becomes =
    table_small (BecomesWithin depth breaking) (within_small depth breaking) breaking node made becomes

-- ---- the whole

within_number : (depth : ℕ) (breaking : Breaking) (node : TableNode) (made : Table) → BecomesWithin depth breaking node made →
    (out-Table made).number ≡ (out-TableNode node).number
within_number zero breaking node made becomes = absurd becomes
within_number (suc depth) breaking node made becomes = becomes.number

pub becomes_sound : (breaking : Breaking) (node : TableNode) (made : Table) → IsSoundTree node → Becomes breaking node made →
    IsSound made
becomes_sound breaking node made tree becomes = record {
  depth = MAX_DEPTH;
  shallow = omega arith;
  sound = (within_deep becomes.0 breaking node made becomes.1 tree.sound 0 (tables_numbered node tree) 0 MAX_DEPTH []
      (subst (IsNestedBelow MAX_DEPTH 0) (sym (append-nil (tables_alone (outline node))))
      (alone-nested MAX_DEPTH 0 (outline node) tree.shallow))).0;
  few_tables = omega (
    arith,
    within_counts becomes.0 breaking node made becomes.1,
    tree.few_tables,
    within_number becomes.0 breaking node made becomes.1,
    (subst (AreNumbered 0) (tables_of_blocks node) (tables_numbered node tree)).0,
  );
  size = omega (arith, within_small becomes.0 breaking node made becomes.1, tree.sound.size);
  breaking = breaking;
  spellable = becomes_spellable breaking node made tree becomes;
}
