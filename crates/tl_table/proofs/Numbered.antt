-- The tables of a sound tree begin in the order of their numbers, so the first without a grid is the first by number.
use Rattle.std.proofs.Common.{◌≡◌, ◌∙◌, ℕ, zero, suc, ◌+◌, ◌<◌, ◌≤◌, Option, Some, None, List, [], ◌∷◌, ◌++◌, length, refl, sym}
use Rattle.std.proofs.Common.{ap, subst}
use Rattle.std.proofs.Common.{append_assoc, arith, length-append, sum_by}
use Rattle.std.proofs.lemmas.List.Sums.{sum_by-cons}
use Rattle.std.specs.List.{AllByRecursion, flat_map, range_with_len}
use Rattle.std.proofs.lemmas.Grind.{flat_map-append}
use Rattle.std.proofs.lemmas.List.{append-nil}
use Rattle.tl_tree.specs.Outline.{blocks_outline}
use Rattle.tl_grid.specs.declared.error.GridError.{GridError}
use Rattle.tl_tree.specs.Outline.{Entries, table, caption, columns, group, row, cell, paragraph, table_end, block_outline}
use Rattle.tl_tree.specs.Outline.{outline}
use Rattle.tl_tree.specs.Sound.{IsNumberedFrom, table_count, IsSound as IsSoundTree}
use Rattle.tl_tree.specs.declared.node.Block.{Block, out-Block}
use Rattle.tl_tree.specs.declared.node.Block.TheOpen as open_block
use Rattle.tl_tree.specs.declared.node.CellNode.{CellNode}
use Rattle.tl_tree.specs.declared.node.TableNode.{TableNode, out-TableNode}
use Rattle.tl_table.specs.Formed.{OpenBlock, cells_written}
use Rattle.tl_table.specs.Refused.{NumberedShape, HasSomeGrid, IsFirstWithoutGrid, tables_in_block, numbered_shapes}
use Rattle.tl_table.specs.Refused.{tables_in_flow, tables_in_caption, tables_in_cells, tables_in_groups}
use Rattle.tl_table.proofs.TreeParts.{itself, tables_in_open, tables_in_block-out, part_of_cell-out, tables_of-out}
use Rattle.tl_table.proofs.Gridless.{tables_written}
use Rattle.tl_table.proofs.NumbersOpen.{is_number, times}
use Rattle.tl_table.proofs.SoundNodes.{open_outline, block_outline-out}
use Rattle.tl_table.proofs.Blocks.{tables_alone, alone, alone-append, alone-table, alone-count, blocks_of, captured, count-append}
use Rattle.tl_table.proofs.Blocks.{flow_of}

-- ---- the tables of a tree are those in its blocks, after itself

cells_flow : (nodes : List CellNode) → tables_in_cells nodes ≡ tables_in_flow (flat_map flow_of nodes)
cells_flow [] = refl
cells_flow (node ∷ nodes) =
    ap (λ tables. tables ++ tables_in_cells nodes) (ap (λ part. part.inner) (part_of_cell-out node))
    ∙ ap (λ tables. tables_in_flow (flow_of node) ++ tables) (cells_flow nodes)
    ∙ sym (flat_map-append tables_in_block (flow_of node) (flat_map flow_of nodes))

caption_flow : (flow : Option (List Block)) → tables_in_caption flow ≡ tables_in_flow (captured flow)
caption_flow None = refl
caption_flow (Some flow) = refl

pub tables_of_blocks : (node : TableNode) → numbered_shapes node ≡ itself (out-TableNode node) ∷ tables_in_flow
    (blocks_of (out-TableNode node))
tables_of_blocks node =
    let o = out-TableNode node in
    tables_of-out node
    ∙ ap (λ (tables : List NumberedShape). itself o ∷ (tables ++ tables_in_groups o.groups)) (caption_flow o.caption)
    ∙ ap (λ (tables : List NumberedShape). itself o ∷ (tables_in_flow (captured o.caption) ++ tables))
    (tables_written o.groups ∙ cells_flow (cells_written o))
    ∙ ap (λ (tables : List NumberedShape). itself o ∷ tables)
    (sym (flat_map-append tables_in_block (captured o.caption) (flat_map flow_of (cells_written o))))

-- ---- numbers

-- the tables have the numbers from `k` on
abbrev pub AreNumbered : ℕ → List NumberedShape → Type 0
AreNumbered k [] = Unit {0}
AreNumbered k (one ∷ tables) = (one.number ≡ k) × AreNumbered (k + 1) tables

numbered_append : (k : ℕ) (xs ys : List NumberedShape) → AreNumbered k xs → AreNumbered (k + length xs) ys →
    AreNumbered k (xs ++ ys)
numbered_append k [] ys first second = subst (λ n. AreNumbered n ys) (omega arith) second
numbered_append k (x ∷ xs) ys first second =
    (first.0, numbered_append (k + 1) xs ys first.1 (subst (λ n. AreNumbered n ys) (omega arith) second))

pub numbered_split : (k : ℕ) (xs ys : List NumberedShape) → AreNumbered k (xs ++ ys) →
    AreNumbered k xs × AreNumbered (k + length xs) ys
numbered_split k [] ys are = (tt, subst (λ n. AreNumbered n ys) (omega arith) are)
numbered_split k (x ∷ xs) ys are =
    let rest = numbered_split (k + 1) xs ys are.1 in
    ((are.0, rest.0), subst (λ n. AreNumbered n ys) (omega arith) rest.1)

-- how often a number is that of one of the tables
abbrev pub times_among : ℕ → List NumberedShape → ℕ
times_among n tables = sum_by (λ one. is_number n one.number) tables

-- in tables with the numbers from `k` on each of these stands once
pub times_numbered : (n k : ℕ) (tables : List NumberedShape) → AreNumbered k tables →
    times_among n tables ≡ times n (range_with_len k (length tables))
times_numbered n k [] are = refl
times_numbered n k (one ∷ tables) are = omega (
  arith,
  sum_by-cons (λ each. is_number n each.number) one tables,
  ap (is_number n) are.0,
  times_numbered n (k + 1) tables are.1,
  sum_by-cons (is_number n) k (range_with_len (k + 1) (length tables)),
)

-- ---- there are as many tables as begin

abbrev Long : ℕ → Type 0
Long n = (node : TableNode) → table_count (outline node) ≤ n → length (numbered_shapes node) ≡ table_count (outline node)

block_long : (n : ℕ) → Long n → (o : OpenBlock) → table_count (open_outline o) ≤ n →
    length (tables_in_open o) ≡ table_count (open_outline o)
block_long n each (open_block.Para atoms) few = refl
block_long n each (open_block.Table node) few = each node.value few

flow_long : (n : ℕ) → Long n → (flow : List Block) → table_count (blocks_outline flow) ≤ n →
    length (tables_in_flow flow) ≡ table_count (blocks_outline flow)
flow_long n each [] few = refl
flow_long n each (block ∷ flow) few =
    let counts = count-append (block_outline block) (blocks_outline flow) in
    let own = ap table_count (block_outline-out block) in
    omega (
      arith,
      counts,
      own,
      block_long n each (out-Block block) (omega (arith, counts, own)),
      ap length (tables_in_block-out block),
      length-append (tables_in_block block) (tables_in_flow flow),
      flow_long n each flow (omega (arith, counts)),
    )

counted : (node : TableNode) → table_count (outline node) ≡ table_count (blocks_outline (blocks_of (out-TableNode node))) + 1
counted node = omega (
  arith,
  alone-count (outline node),
  ap table_count (alone-table node),
  count-append (alone (blocks_of (out-TableNode node))) (table_end ∷ []),
  alone-count (blocks_outline (blocks_of (out-TableNode node))),
)

long : (n : ℕ) → Long n
long zero node few = absurd (omega (arith, few, counted node))
long (suc n) node few = omega (
  arith,
  ap length (tables_of_blocks node),
  counted node,
  flow_long n (long n) (blocks_of (out-TableNode node)) (omega (arith, few, counted node)),
)

pub tables_long : (node : TableNode) → length (numbered_shapes node) ≡ table_count (outline node)
tables_long node = long (table_count (outline node)) node (omega arith)

-- ---- the entries of a sound tree give the numbers

alone-numbered : (k : ℕ) (es : Entries) → IsNumberedFrom k es → IsNumberedFrom k (tables_alone es)
alone-numbered k [] numbered = tt
alone-numbered k (table number ∷ es) numbered = (numbered.0, alone-numbered (k + 1) es numbered.1)
alone-numbered k (table_end ∷ es) numbered = alone-numbered k es numbered
alone-numbered k (caption ∷ es) numbered = alone-numbered k es numbered
alone-numbered k (columns n ∷ es) numbered = alone-numbered k es numbered
alone-numbered k (group part ∷ es) numbered = alone-numbered k es numbered
alone-numbered k (row ∷ es) numbered = alone-numbered k es numbered
alone-numbered k (cell head colspan rowspan least align ∷ es) numbered = alone-numbered k es numbered
alone-numbered k (paragraph atoms ∷ es) numbered = alone-numbered k es numbered

-- tables of at most so many tables are numbered in order, and what follows them goes on
abbrev Numbered : ℕ → Type 0
Numbered n = (node : TableNode) (k : ℕ) (rest : Entries) → table_count (outline node) ≤ n →
    IsNumberedFrom k (tables_alone (outline node) ++ rest) →
    AreNumbered k (numbered_shapes node) × IsNumberedFrom (k + length (numbered_shapes node)) rest

block_numbered : (n : ℕ) → Numbered n → (o : OpenBlock) (k : ℕ) (rest : Entries) → table_count (open_outline o) ≤ n →
    IsNumberedFrom k (tables_alone (open_outline o) ++ rest) →
    AreNumbered k (tables_in_open o) × IsNumberedFrom (k + length (tables_in_open o)) rest
block_numbered n each (open_block.Para atoms) k rest few numbered =
    (tt, subst (λ m. IsNumberedFrom m rest) (omega arith) numbered)
block_numbered n each (open_block.Table node) k rest few numbered = each node.value k rest few numbered

flow_numbered : (n : ℕ) → Numbered n → (flow : List Block) (k : ℕ) (rest : Entries) → table_count (blocks_outline flow) ≤ n →
    IsNumberedFrom k (alone flow ++ rest) → AreNumbered k (tables_in_flow flow) ×
    IsNumberedFrom (k + length (tables_in_flow flow)) rest
flow_numbered n each [] k rest few numbered = (tt, subst (λ m. IsNumberedFrom m rest) (omega arith) numbered)
flow_numbered n each (block ∷ flow) k rest few numbered =
    let split : alone (block ∷ flow) ++ rest ≡ tables_alone (open_outline (out-Block block)) ++ (alone flow ++ rest) =
    ap (λ (es : Entries). es ++ rest) (alone-append (block_outline block) (blocks_outline flow)
    ∙ ap (λ (es : Entries). tables_alone es ++ alone flow) (block_outline-out block))
    ∙ append_assoc (tables_alone (open_outline (out-Block block))) (alone flow) rest in
    let counts = count-append (block_outline block) (blocks_outline flow) in
    let own = ap table_count (block_outline-out block) in
    let first = block_numbered n each (out-Block block) k (alone flow ++ rest) (omega (arith, counts, own))
    (subst (IsNumberedFrom k) split numbered) in
    let same = tables_in_block-out block in
    let later = flow_numbered n each flow (k + length (tables_in_block block)) rest (omega (arith, counts))
    (subst (λ (tables : List NumberedShape). IsNumberedFrom (k + length tables) (alone flow ++ rest)) (sym same) first.1) in (
      numbered_append k (tables_in_block block) (tables_in_flow flow) (subst (AreNumbered k) (sym same) first.0) later.0,
      subst (λ m. IsNumberedFrom m rest) (omega (arith, length-append (tables_in_block block) (tables_in_flow flow))) later.1,
    )

numbered : (n : ℕ) → Numbered n
numbered zero node k rest few is =
    absurd (omega (
      arith,
      alone-count (outline node),
      ap table_count (alone-table node),
      count-append (alone (blocks_of (out-TableNode node)))
          (table_end ∷ []),
    ))
numbered (suc n) node k rest few is =
    let blocks = blocks_of (out-TableNode node) in
    let opened : tables_alone (outline node) ++ rest ≡ table (out-TableNode node).number ∷ (alone blocks ++ table_end ∷ rest) =
    ap (λ (es : Entries). es ++ rest) (alone-table node)
    ∙ ap (λ (es : Entries). table (out-TableNode node).number ∷ es) (append_assoc (alone blocks) (table_end ∷ []) rest) in
    let from : IsNumberedFrom k (table (out-TableNode node).number ∷ (alone blocks ++ table_end ∷ rest)) =
    subst (IsNumberedFrom k) opened is in
    let fewer : table_count (blocks_outline blocks) ≤ n = omega (
      arith,
      alone-count (outline node),
      ap table_count (alone-table node),
      count-append (alone blocks) (table_end ∷ []),
      alone-count (blocks_outline blocks),
    ) in
    let inside = flow_numbered n (numbered n) blocks (k + 1) (table_end ∷ rest) fewer from.1 in
    let same = tables_of_blocks node in (
      subst (AreNumbered k) (sym same) (from.0, inside.0),
      subst (λ m. IsNumberedFrom m rest) (omega (arith, ap length same)) inside.1,
    )

pub tables_numbered : (node : TableNode) → IsSoundTree node → AreNumbered 0 (numbered_shapes node)
tables_numbered node sound =
    (numbered (table_count (outline node)) node 0 [] (omega arith)
    (subst (IsNumberedFrom 0) (sym (append-nil (tables_alone (outline node))))
    (alone-numbered 0 (outline node) sound.numbered))).0

-- of tables in the order of their numbers, those before one have lesser numbers
before_by_number : (k : ℕ) (before : List NumberedShape) (one : NumberedShape) (after : List NumberedShape) →
    AreNumbered k (before ++ one ∷ after) →
    AllByRecursion HasSomeGrid before → AllByRecursion (λ each. each.number < one.number →
    HasSomeGrid each) (before ++ one ∷ after)
before_by_number k [] one after is gridded = (λ less. absurd (omega arith), later (k + 1) after is.1 (omega (arith, is.0)))
  where
    later : (m : ℕ) (tables : List NumberedShape) → AreNumbered m tables → one.number < m →
        AllByRecursion (λ each. each.number < one.number → HasSomeGrid each) tables
    later m [] is more = tt
    later m (each ∷ tables) is more = (λ less. absurd (omega (arith, is.0)), later (m + 1) tables is.1 (omega arith))
before_by_number k (first ∷ before) one after is gridded = (
  λ less. gridded.0,
  before_by_number (k + 1) before one after is.1 gridded.1,
)

pub first_by_number : (node : TableNode) (number : ℕ) (cause : GridError) → IsSoundTree node →
    IsFirstWithoutGrid (numbered_shapes node) number cause →
    AllByRecursion (λ each. each.number < number → HasSomeGrid each) (numbered_shapes node)
first_by_number node number cause sound first =
    let is = subst (AreNumbered 0) first.split (tables_numbered node sound) in
    subst (AllByRecursion (λ each. each.number < number → HasSomeGrid each)) (sym first.split)
    (subst (λ n. AllByRecursion (λ each. each.number < n → HasSomeGrid each) (first.before ++ first.table ∷ first.after))
    first.numbered
    (before_by_number 0 first.before first.table first.after is first.formed))
