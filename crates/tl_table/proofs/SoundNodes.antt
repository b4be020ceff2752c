-- The parts of a sound tree are sound, and the shape of each table is one that a grid is formed of.
use Rattle.std.proofs.Common.{◌≡◌, ◌∙◌, ℕ, ◌+◌, ◌<◌, ◌≤◌, Some, List, [], ◌∷◌, ◌++◌, length, map, sum_by, refl, sym, ap, subst}
use Rattle.std.proofs.Common.{arith}
use Rattle.std.specs.List.{AllByRecursion, flat_map}
use Rattle.std.proofs.lemmas.List.Concat.{flat_map-cons}
use Rattle.std.proofs.lemmas.List.Sums.{sum_by-cons, sum_by-append}
use Rattle.tl_base.specs.declared.limits.TheConstants.{MAX_FILE_BYTES}
use Rattle.tl_base.proofs.Members.{AllByRecursion-append}
use Rattle.tl_tree.specs.Outline.{blocks_outline, caption_outline, cells_outline}
use Rattle.tl_grid.specs.Shapes.{IsSpan, AllSpans}
use Rattle.tl_grid.specs.Forming.{cells_in, row_count, cell_count}
use Rattle.tl_tree.specs.Outline.{Entry, Entries, table, columns, group, row, cell, paragraph, table_end, block_outline}
use Rattle.tl_tree.specs.Outline.{cell_outline, group_outline, outline}
use Rattle.tl_tree.specs.Sound.{AreSound, IsEntryInRange, entry_size}
use Rattle.tl_tree.specs.declared.node.Block.{Block, out-Block, roll-Block, roll-out-Block}
use Rattle.tl_tree.specs.declared.node.Block.TheOpen as open_block
use Rattle.tl_tree.specs.declared.node.CellNode.{CellNode, out-CellNode, roll-out-CellNode}
use Rattle.tl_tree.specs.declared.node.GroupNode.{GroupNode, out-GroupNode, roll-out-GroupNode}
use Rattle.tl_tree.specs.declared.node.TableNode.{TableNode, out-TableNode, roll-out-TableNode}
use Rattle.tl_tree.proofs.Outlines.{paragraph_made, nested_made, cell_made, group_made, table_made}
use Rattle.tl_table.specs.Formed.{OpenBlock, span_of, cells_of_group, group_shape, shape_of}

-- ---- the outlines of the parts by what they hold

abbrev pub open_outline : OpenBlock → Entries
open_outline (open_block.Para atoms) = paragraph atoms ∷ []
open_outline (open_block.Table box) = outline box.value

pub block_outline-out : (block : Block) → block_outline block ≡ open_outline (out-Block block)
block_outline-out block = ap block_outline (sym (roll-out-Block block)) ∙ made (out-Block block)
  where
    made : (o : OpenBlock) → block_outline (roll-Block o) ≡ open_outline o
    made (open_block.Para atoms) = paragraph_made atoms
    made (open_block.Table box) = nested_made box

pub cell_outline-out : (node : CellNode) → let open_node = out-CellNode node in
    cell_outline node ≡ cell open_node.head open_node.colspan open_node.rowspan open_node.least open_node.align ∷ blocks_outline open_node.flow
cell_outline-out node = ap cell_outline (sym (roll-out-CellNode node)) ∙ cell_made (out-CellNode node)

-- the entries of rows
abbrev pub rows_outline : List (List CellNode) → Entries
rows_outline rows = flat_map (λ cells. row ∷ cells_outline cells) rows

pub group_outline-out : (node : GroupNode) → group_outline node ≡ group (out-GroupNode node).part ∷ rows_outline
    (out-GroupNode node).rows
group_outline-out node = ap group_outline (sym (roll-out-GroupNode node)) ∙ group_made (out-GroupNode node)

abbrev pub groups_outline : List GroupNode → Entries
groups_outline groups = flat_map group_outline groups

pub outline-out : (node : TableNode) → let open_node = out-TableNode node in outline node ≡
    table open_node.number ∷ (caption_outline open_node.caption ++
    (columns open_node.columns ∷ (groups_outline open_node.groups ++ table_end ∷ [])))
outline-out node =
    ap outline (sym (roll-out-TableNode node))
    ∙ table_made (out-TableNode node).number (out-TableNode node).caption (out-TableNode node).columns (out-TableNode node).groups

-- ---- parts of sound entries

range_split : (xs ys : Entries) → AllByRecursion IsEntryInRange (xs ++ ys) → AllByRecursion IsEntryInRange xs
    × AllByRecursion IsEntryInRange ys
range_split [] ys all = (tt, all)
range_split (x ∷ xs) ys all = let rest = range_split xs ys all.1 in ((all.0, rest.0), rest.1)

pub sound_split : (xs ys : Entries) → AreSound (xs ++ ys) → AreSound xs × AreSound ys
sound_split xs ys sound =
    let ranges = range_split xs ys sound.in_range in
    let size = sum_by-append entry_size xs ys in
    let small = sound.size in (
      record { in_range = ranges.0; size = omega (arith, size, small) },
      record { in_range = ranges.1; size = omega (arith, size, small) },
    )

pub sound_tail : (x : Entry) (xs : Entries) → AreSound (x ∷ xs) → AreSound xs
sound_tail x xs sound = record { in_range = sound.in_range.1; size = omega (arith, sum_by-cons entry_size x xs, sound.size) }

-- each of parts that follow one another
pub sound_each : {X : Type 0} (f : X → Entries) (xs : List X) → AreSound (flat_map f xs) → AllByRecursion (λ x. AreSound (f x)) xs
sound_each f [] sound = tt
sound_each f (x ∷ xs) sound =
    let both = sound_split (f x) (flat_map f xs) (subst AreSound (flat_map-cons f x xs) sound) in (both.0, sound_each f xs both.1)

-- ---- parts of a sound tree

pub boxed_node : (block : Block) (o : OpenBlock) → out-Block block ≡ o → AreSound (block_outline block) →
    AreSound (open_outline o)
boxed_node block o is sound = subst AreSound (block_outline-out block ∙ ap open_outline is) sound

pub cell_flow : (node : CellNode) → AreSound (cell_outline node) → AreSound (blocks_outline (out-CellNode node).flow)
cell_flow node sound = sound_tail _ _ (subst AreSound (cell_outline-out node) sound)

rows_each : (rows : List (List CellNode)) → AreSound (rows_outline rows) →
    AllByRecursion (λ cells. AreSound (cells_outline cells)) rows
rows_each [] sound = tt
rows_each (cells ∷ rows) sound =
    let both = sound_split (row ∷ cells_outline cells) (rows_outline rows)
    (subst AreSound (flat_map-cons (λ cells. row ∷ cells_outline cells) cells rows) sound) in
    (sound_tail row (cells_outline cells) both.0, rows_each rows both.1)

pub group_rows : (node : GroupNode) → AreSound (group_outline node) →
    AllByRecursion (λ cells. AreSound (cells_outline cells)) (out-GroupNode node).rows
group_rows node sound = rows_each (out-GroupNode node).rows (sound_tail _ _ (subst AreSound (group_outline-out node) sound))

-- the outline of a table's cells is sound where the table's is
pub flat_rows : (rows : List (List CellNode)) → AllByRecursion (λ cells. AreSound (cells_outline cells)) rows →
    AllByRecursion (λ node. AreSound (cell_outline node)) (flat_map (λ (cells : List CellNode). cells) rows)
flat_rows [] sound = tt
flat_rows (cells ∷ rows) sound =
    AllByRecursion-append (λ node. AreSound (cell_outline node)) cells (flat_map (λ (each : List CellNode). each) rows)
    (sound_each cell_outline cells sound.0)
    (flat_rows rows sound.1)

pub flat_groups : (groups : List GroupNode) → AllByRecursion (λ g. AreSound (group_outline g)) groups →
    AllByRecursion (λ node. AreSound (cell_outline node)) (flat_map (λ g. cells_of_group (out-GroupNode g)) groups)
flat_groups [] sound = tt
flat_groups (g ∷ groups) sound =
    AllByRecursion-append (λ node. AreSound (cell_outline node)) (cells_of_group (out-GroupNode g))
    (flat_map (λ each. cells_of_group (out-GroupNode each)) groups)
    (flat_rows (out-GroupNode g).rows (group_rows g sound.0)) (flat_groups groups sound.1)

table_rest : (node : TableNode) → AreSound (outline node) → AreSound (caption_outline (out-TableNode node).caption)
    × AreSound (columns (out-TableNode node).columns ∷ (groups_outline (out-TableNode node).groups ++ table_end ∷ []))
table_rest node sound = sound_split _ _ (sound_tail _ _ (subst AreSound (outline-out node) sound))

pub sound_groups : (node : TableNode) → AreSound (outline node) → AreSound (groups_outline (out-TableNode node).groups)
sound_groups node sound = (sound_split _ (table_end ∷ []) (sound_tail _ _ (table_rest node sound).1)).0

pub table_groups : (node : TableNode) → AreSound (outline node) →
    AllByRecursion (λ g. AreSound (group_outline g)) (out-TableNode node).groups
table_groups node sound = sound_each group_outline (out-TableNode node).groups (sound_groups node sound)

pub table_caption : (node : TableNode) (flow : List Block) → (out-TableNode node).caption ≡ Some flow → AreSound (outline node) →
    AreSound (blocks_outline flow)
table_caption node flow is sound = sound_tail _ _ (subst (λ found. AreSound (caption_outline found)) is (table_rest node sound).0)

-- ---- the shape of a table

row_spans : (nodes : List CellNode) → AreSound (cells_outline nodes) → AllByRecursion IsSpan (map span_of nodes)
row_spans [] sound = tt
row_spans (node ∷ nodes) sound =
    let both = sound_split (cell_outline node) (cells_outline nodes)
    (subst AreSound (flat_map-cons cell_outline node nodes) sound) in
    let range = (subst AreSound (cell_outline-out node) both.0).in_range.0 in
    ((omega (arith, range.some_column), range.few_columns, range.few_rows), row_spans nodes both.1)

rows_spans : (rows : List (List CellNode)) → AllByRecursion (λ cells. AreSound (cells_outline cells)) rows →
    AllByRecursion (AllByRecursion IsSpan) (map (map span_of) rows)
rows_spans [] sound = tt
rows_spans (cells ∷ rows) sound = (row_spans cells sound.0, rows_spans rows sound.1)

groups_spans : (groups : List GroupNode) → AllByRecursion (λ g. AreSound (group_outline g)) groups →
    AllSpans (map group_shape groups)
groups_spans [] sound = tt
groups_spans (g ∷ groups) sound = (rows_spans (out-GroupNode g).rows (group_rows g sound.0), groups_spans groups sound.1)

pub shape_spans : (node : TableNode) → AreSound (outline node) → AllSpans (shape_of (out-TableNode node)).groups
shape_spans node sound = groups_spans (out-TableNode node).groups (table_groups node sound)

row_size : (nodes : List CellNode) → length nodes ≤ sum_by entry_size (cells_outline nodes)
row_size [] = omega arith
row_size (node ∷ nodes) =
    let split = sum_by-append entry_size (cell_outline node) (cells_outline nodes) in
    let one = ap (sum_by entry_size) (cell_outline-out node) in
    let first = sum_by-cons entry_size (cell (out-CellNode node).head (out-CellNode node).colspan (out-CellNode node).rowspan
    (out-CellNode node).least (out-CellNode node).align)
    (blocks_outline (out-CellNode node).flow) in
    let rest = row_size nodes in
    omega (arith, ap (sum_by entry_size) (flat_map-cons cell_outline node nodes))

rows_size : (rows : List (List CellNode)) → length (map (map span_of) rows) + cells_in
    (map (map span_of) rows) ≤ sum_by entry_size (rows_outline rows)
rows_size [] = omega arith
rows_size (cells ∷ rows) =
    let e = ap (sum_by entry_size) (flat_map-cons (λ cells. row ∷ cells_outline cells) cells rows) in
    let split = sum_by-append entry_size (row ∷ cells_outline cells) (rows_outline rows) in
    let first = sum_by-cons entry_size row (cells_outline cells) in
    let one = row_size cells in
    let rest = rows_size rows in
    let sum = sum_by-cons length (map span_of cells) (map (map span_of) rows) in
    let long = length-map-here cells in
    omega arith
  where
    length-map-here : (cells : List CellNode) → length (map span_of cells) ≡ length cells
    length-map-here [] = refl
    length-map-here (x ∷ xs) = let rest = length-map-here xs in omega arith

groups_size : (groups : List GroupNode) (n m : ℕ) → sum_by (λ g. length g.rows) (map group_shape groups) ≡ n →
    sum_by (λ g. cells_in g.rows) (map group_shape groups) ≡ m → n + m ≤ sum_by entry_size (groups_outline groups)
groups_size [] n m is are = omega (arith, is, are)
groups_size (g ∷ groups) n m is are =
    let e = ap (sum_by entry_size) (flat_map-cons group_outline g groups) in
    let split = sum_by-append entry_size (group_outline g) (groups_outline groups) in
    let own = ap (sum_by entry_size) (group_outline-out g) in
    let first = sum_by-cons entry_size (group (out-GroupNode g).part) (rows_outline (out-GroupNode g).rows) in
    let one = rows_size (out-GroupNode g).rows in
    let rest = groups_size groups _ _ refl refl in
    omega (
      arith,
      sum_by-cons (λ g. length g.rows) (group_shape g) (map group_shape groups),
      sum_by-cons (λ g. cells_in g.rows) (group_shape g) (map group_shape groups),
      is,
      are,
    )

-- a table's rows and cells are fewer than the bytes of a file
pub shape_size : (node : TableNode) → AreSound (outline node) →
    row_count (shape_of (out-TableNode node)) + cell_count (shape_of (out-TableNode node)) < MAX_FILE_BYTES
shape_size node sound =
    let o = out-TableNode node in
    let rest : Entries = columns o.columns ∷ (groups_outline o.groups ++ table_end ∷ []) in
    let small = (subst AreSound (outline-out node) sound).size in
    let a = sum_by-cons entry_size (table o.number) (caption_outline o.caption ++ rest) in
    let b = sum_by-append entry_size (caption_outline o.caption) rest in
    let c = sum_by-cons entry_size (columns o.columns) (groups_outline o.groups ++ table_end ∷ []) in
    let d = sum_by-append entry_size (groups_outline o.groups) (table_end ∷ []) in
    let e = groups_size o.groups _ _ refl refl in
    omega arith

pub shape_columns : (node : TableNode) → AreSound (outline node) → IsEntryInRange (columns (out-TableNode node).columns)
shape_columns node sound = (table_rest node sound).1.in_range.0
