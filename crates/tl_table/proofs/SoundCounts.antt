-- What a tree becomes has as many tables as the tree, with the same numbers.
use Rattle.std.proofs.Common.{◌≡◌, ◌∙◌, ℕ, zero, suc, ◌+◌, List, [], ◌∷◌, ◌++◌, sum_by, refl, sym, ap, subst, arith}
use Rattle.std.specs.List.{flat_map, range_with_len}
use Rattle.std.specs.List.Sorted.{IsPermutation}
use Rattle.std.proofs.lemmas.List.Concat.{flat_map-cons}
use Rattle.std.proofs.lemmas.List.Sorted.{sum_by-IsPermutation}
use Rattle.std.proofs.lemmas.List.Sums.{sum_by-cons, sum_by-append}
use Rattle.tl_base.specs.declared.breaking.Breaking.{Breaking}
use Rattle.tl_tree.specs.Outline.{table_end, block_outline, outline, blocks_outline}
use Rattle.tl_tree.specs.Sound.{table_count}
use Rattle.tl_tree.specs.declared.node.Block.{Block, out-Block}
use Rattle.tl_tree.specs.declared.node.Block.TheOpen as open_block
use Rattle.tl_tree.specs.declared.node.TableNode.{TableNode, out-TableNode}
use Rattle.tl_table.specs.declared.cell.Content.{Content, out-Content}
use Rattle.tl_table.specs.declared.cell.Content.TheOpen as open_content
use Rattle.tl_table.specs.declared.cell.Table.{Table, out-Table}
use Rattle.tl_table.specs.declared.cell.TableCell.{TableCell, out-TableCell}
use Rattle.tl_table.specs.Tables.{OpenTable, OpenContent}
use Rattle.tl_table.specs.Formed.{OpenBlock, BecomesContent, BecomeContents, BecomesBy, BecomesWithin}
use Rattle.tl_table.specs.Sound.{nested_in_table, nested_in_cell, nested_in_content}
use Rattle.tl_table.proofs.SizesOpen.{nested_in_table-out, nested_in_cell-out, nested_in_content-out, open_tables}
use Rattle.tl_table.proofs.SoundNodes.{open_outline, block_outline-out}
use Rattle.tl_table.proofs.Blocks.{alone-count, count-append, blocks_of, alone, alone-table, contents_of, zip_table}
use Rattle.std.proofs.Common.{length}
use Rattle.tl_table.specs.Refused.{NumberedShape, tables_in_block, numbered_shapes as shapes_of, tables_in_flow}
use Rattle.tl_table.specs.Sound.{numbers_of_table, numbers_in_cell, numbers_in_content, numbers_inside, count_inside}
use Rattle.tl_table.proofs.NumbersOpen.{numbers_of_table-out, numbers_in_cell-out, numbers_in_content-out, open_numbers}
use Rattle.tl_table.proofs.NumbersOpen.{is_number, times, from_times}
use Rattle.tl_table.proofs.Numbered.{AreNumbered, tables_of_blocks, times_among, times_numbered, tables_long}
use Rattle.tl_table.proofs.TreeParts.{itself, tables_in_open, tables_in_block-out}

-- ---- how many tables

abbrev pub Counts : (TableNode → Table → Type 0) → Type 0
Counts forms = (node : TableNode) (made : Table) → forms node made → nested_in_table made + 1 ≡ table_count (outline node)

pub sum_flat : {X Y : Type 0} (f : Y → ℕ) (g : X → List Y) (xs : List X) →
    sum_by f (flat_map g xs) ≡ sum_by (λ x. sum_by f (g x)) xs
sum_flat f g [] = refl
sum_flat f g (x ∷ xs) = omega (
  arith,
  ap (sum_by f) (flat_map-cons g x xs),
  sum_by-append f (g x) (flat_map g xs),
  sum_by-cons (λ y. sum_by f (g y)) x xs,
  sum_flat f g xs,
)

pub sum_same : {X : Type 0} (f g : X → ℕ) → ((x : X) → f x ≡ g x) → (xs : List X) → sum_by f xs ≡ sum_by g xs
sum_same f g same [] = refl
sum_same f g same (x ∷ xs) = omega (arith, sum_by-cons f x xs, sum_by-cons g x xs, same x, sum_same f g same xs)

content_counts : (forms : TableNode → Table → Type 0) → Counts forms →
    (breaking : Breaking) (o : OpenBlock) (content : OpenContent) →
    BecomesContent forms breaking o content → open_tables content ≡ table_count (open_outline o)
content_counts forms counts breaking (open_block.Para atoms) (open_content.Para units) becomes = refl
content_counts forms counts breaking (open_block.Para atoms) (open_content.Table box) becomes = absurd becomes
content_counts forms counts breaking (open_block.Table node) (open_content.Para units) becomes = absurd becomes
content_counts forms counts breaking (open_block.Table node) (open_content.Table box) becomes =
    omega (arith, counts node.value box.value becomes)

pub contents_count : (forms : TableNode → Table → Type 0) → Counts forms →
    (breaking : Breaking) (flow : List Block) (contents : List Content) →
    BecomeContents forms breaking flow contents → sum_by nested_in_content contents ≡ table_count (blocks_outline flow)
contents_count forms counts breaking [] [] become = refl
contents_count forms counts breaking [] (content ∷ contents) become = absurd become
contents_count forms counts breaking (block ∷ flow) [] become = absurd become
contents_count forms counts breaking (block ∷ flow) (content ∷ contents) become = omega (
  arith,
  sum_by-cons nested_in_content content contents,
  nested_in_content-out content,
  content_counts forms counts breaking (out-Block block) (out-Content content) become.0,
  ap table_count (block_outline-out block),
  count-append (block_outline block) (blocks_outline flow),
  contents_count forms counts breaking flow contents become.1,
)

table_counts : (forms : TableNode → Table → Type 0) → Counts forms → (breaking : Breaking) (node : TableNode) (made : Table) →
    BecomesBy forms breaking (out-TableNode node) (out-Table made) → nested_in_table made + 1 ≡ table_count (outline node)
table_counts forms counts breaking node made becomes =
    let all = becomes.caption ++ becomes.written in
    let blocks = blocks_of (out-TableNode node) in
    omega (
      arith,
      nested_in_table-out made,
      sum_by-IsPermutation nested_in_cell all (out-Table made).cells becomes.same,
      sum_same nested_in_cell (λ one. sum_by nested_in_content (out-TableCell one).blocks) nested_in_cell-out all,
      sum_flat nested_in_content (λ one. (out-TableCell one).blocks) all,
      contents_count forms counts breaking blocks (contents_of all)
          (zip_table forms breaking (out-TableNode node) (out-Table made) becomes),
      alone-count (blocks_outline blocks),
      alone-count (outline node),
      ap table_count (alone-table node),
      count-append (alone blocks) (table_end ∷ []),
    )

pub within_counts : (depth : ℕ) (breaking : Breaking) → Counts (BecomesWithin depth breaking)
within_counts zero breaking node made becomes = absurd becomes
within_counts (suc depth) breaking node made becomes =
    table_counts (BecomesWithin depth breaking) (within_counts depth breaking) breaking node made becomes

-- ---- their numbers

-- a table has inside the numbers of the tables of its tree, each as often
abbrev pub Numbers : (TableNode → Table → Type 0) → Type 0
Numbers forms = (node : TableNode) (made : Table) → forms node made → (n : ℕ) →
    times n (numbers_of_table made) ≡ times_among n (shapes_of node)

content_numbered : (forms : TableNode → Table → Type 0) → Numbers forms →
    (breaking : Breaking) (o : OpenBlock) (content : OpenContent) →
    BecomesContent forms breaking o content → (n : ℕ) → times n (open_numbers content) ≡ times_among n (tables_in_open o)
content_numbered forms numbers breaking (open_block.Para atoms) (open_content.Para units) becomes n = refl
content_numbered forms numbers breaking (open_block.Para atoms) (open_content.Table box) becomes n = absurd becomes
content_numbered forms numbers breaking (open_block.Table node) (open_content.Para units) becomes n = absurd becomes
content_numbered forms numbers breaking (open_block.Table node) (open_content.Table box) becomes n =
    numbers node.value box.value becomes n

-- how often a number is that of a table that a block is or has inside
abbrev times_in : ℕ → Content → ℕ
times_in n content = times n (numbers_in_content content)

contents_numbered : (forms : TableNode → Table → Type 0) → Numbers forms →
    (breaking : Breaking) (flow : List Block) (contents : List Content) →
    BecomeContents forms breaking flow contents → (n : ℕ) → sum_by (times_in n) contents ≡ times_among n (tables_in_flow flow)
contents_numbered forms numbers breaking [] [] become n = refl
contents_numbered forms numbers breaking [] (content ∷ contents) become n = absurd become
contents_numbered forms numbers breaking (block ∷ flow) [] become n = absurd become
contents_numbered forms numbers breaking (block ∷ flow) (content ∷ contents) become n = omega (
  arith,
  sum_by-cons (times_in n) content contents,
  ap (times n) (numbers_in_content-out content),
  content_numbered forms numbers breaking (out-Block block) (out-Content content) become.0 n,
  ap (times_among n) (tables_in_block-out block),
  sum_by-append (λ one. is_number n one.number) (tables_in_block block) (tables_in_flow flow),
  contents_numbered forms numbers breaking flow contents become.1 n,
)

inside_numbered : (forms : TableNode → Table → Type 0) → Numbers forms →
    (breaking : Breaking) (node : TableNode) (made : OpenTable) →
    BecomesBy forms breaking (out-TableNode node) made → (n : ℕ) →
    times n (numbers_inside made) ≡ times_among n (tables_in_flow (blocks_of (out-TableNode node)))
inside_numbered forms numbers breaking node made becomes n =
    let all = becomes.caption ++ becomes.written in
    let in_cell : TableCell → ℕ = λ one. times n (numbers_in_cell one) in
    omega (
      arith,
      sum_flat (is_number n) numbers_in_cell made.cells,
      sum_by-IsPermutation in_cell all made.cells becomes.same,
      sum_same in_cell (λ one. sum_by (times_in n) (out-TableCell one).blocks)
          (λ one. ap (times n) (numbers_in_cell-out one) ∙ sum_flat (is_number n) numbers_in_content (out-TableCell one).blocks)
          all,
      sum_flat (times_in n) (λ one. (out-TableCell one).blocks) all,
      contents_numbered forms numbers breaking (blocks_of (out-TableNode node)) (contents_of all)
          (zip_table forms breaking (out-TableNode node) made becomes) n,
    )

table_numbers_same : (forms : TableNode → Table → Type 0) → Numbers forms →
    (breaking : Breaking) (node : TableNode) (made : Table) →
    BecomesBy forms breaking (out-TableNode node) (out-Table made) → (n : ℕ) →
    times n (numbers_of_table made) ≡ times_among n (shapes_of node)
table_numbers_same forms numbers breaking node made becomes n =
    let o = out-TableNode node in
    omega (
      arith,
      ap (times n) (numbers_of_table-out made),
      sum_by-cons (is_number n) (out-Table made).number (numbers_inside (out-Table made)),
      ap (is_number n) becomes.number,
      inside_numbered forms numbers breaking node (out-Table made) becomes n,
      ap (times_among n) (tables_of_blocks node),
      sum_by-cons (λ one. is_number n one.number) (itself o) (tables_in_flow (blocks_of o)),
    )

pub within_numbers : (depth : ℕ) (breaking : Breaking) → Numbers (BecomesWithin depth breaking)
within_numbers zero breaking node made becomes = absurd becomes
within_numbers (suc depth) breaking node made becomes =
    table_numbers_same (BecomesWithin depth breaking) (within_numbers depth breaking) breaking node made becomes

-- the tables inside have the numbers that follow the table's own
pub level_numbered : (forms : TableNode → Table → Type 0) → Counts forms → Numbers forms →
    (breaking : Breaking) (node : TableNode) (made : Table) →
    BecomesBy forms breaking (out-TableNode node) (out-Table made) → (k : ℕ) → AreNumbered k (shapes_of node) →
    IsPermutation (numbers_inside (out-Table made)) (range_with_len ((out-Table made).number + 1) (count_inside (out-Table made)))
level_numbered forms counts numbers breaking node made becomes k are = from_times (numbers_inside (out-Table made))
    (range_with_len ((out-Table made).number + 1) (count_inside (out-Table made))) each
  where
    inside : List NumberedShape
    inside = tables_in_flow (blocks_of (out-TableNode node))

    numbered : AreNumbered k (itself (out-TableNode node) ∷ inside)
    numbered = subst (AreNumbered k) (tables_of_blocks node) are

    number : (out-Table made).number + 1 ≡ k + 1
    number = omega (arith, becomes.number, numbered.0)

    count : count_inside (out-Table made) ≡ length inside
    count = omega (
      arith,
      table_counts forms counts breaking node made becomes,
      nested_in_table-out made,
      tables_long node,
      ap length (tables_of_blocks node),
    )

    each : (n : ℕ) → times n (numbers_inside (out-Table made)) ≡ times n
        (range_with_len ((out-Table made).number + 1) (count_inside (out-Table made)))
    each n = inside_numbered forms numbers breaking node (out-Table made) becomes n
        ∙ times_numbered n (k + 1) inside numbered.1
        ∙ ap (λ from. times n (range_with_len from (length inside))) (sym number)
        ∙ ap (λ many. times n (range_with_len ((out-Table made).number + 1) many)) (sym count)
