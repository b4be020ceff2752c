-- The tree of a table becomes a table, whose cells are those drawn, each at its place of the grid.
use Rattle.std.proofs.Common.{◌≡◌, ◌∙◌, ℕ, zero, suc, ◌+◌, ◌<◌, ◌≤◌, max, ◌⊎◌, Bool, false, List, [], ◌∷◌, ◌++◌, map, length, get_or}
use Rattle.std.proofs.Common.{insert}
use Rattle.std.proofs.Common.{refl, sym, ap, subst, inl, inr, arith, append-nil}
use Rattle.std.proofs.Common.{None}
use Rattle.std.specs.List.{All, AllByRecursion, flat_map}
use Rattle.std.specs.List.Sorted.{IsPermutation, IsNonDecreasingBy}
use Rattle.std.proofs.lemmas.Bool.{cases_lt}
use Rattle.std.proofs.lemmas.List.{map-append, length-map, take_all}
use Rattle.std.proofs.lemmas.List.Elements.{All-from_recursion}
use Rattle.std.proofs.lemmas.List.Sorted.{IsPermutation-refl, IsPermutation-trans, IsPermutation-cons, IsPermutation-insert}
use Rattle.std.proofs.lemmas.List.Sorted.{All-permutation}
use Rattle.std.proofs.lemmas.List.Sorted.{IsNonDecreasingBy-short, IsNonDecreasingBy-insert, IsNonDecreasingBy-drop}
use Rattle.tl_base.specs.declared.limits.TheConstants.{MAX_ROWS}
use Rattle.tl_base.specs.declared.breaking.Breaking.TheVariants.{Words}
use Rattle.tl_base.proofs.Members.{AllByRecursion-append}
use Rattle.tl_grid.specs.declared.shape.Grid.{Grid}
use Rattle.tl_grid.specs.declared.shape.Place.{Place}
use Rattle.tl_grid.specs.declared.shape.Shape.{Shape}
use Rattle.tl_grid.specs.declared.shape.SpanOf.{SpanOf}
use Rattle.tl_grid.specs.Form.{HasGrid}
use Rattle.tl_text.specs.declared.paragraph.Atom.{Atom}
use Rattle.tl_tree.specs.Outline.{outline}
use Rattle.tl_tree.specs.Sound.{AreSound}
use Rattle.tl_tree.specs.declared.node.Block.{out-Block, roll-Block, out-roll-Block}
use Rattle.tl_tree.specs.declared.node.Block.TheOpen as open_block
use Rattle.tl_tree.specs.declared.node.CellNode.{CellNode, out-CellNode, out-roll-CellNode}
use Rattle.tl_tree.specs.declared.node.GroupNode.{out-GroupNode, roll-GroupNode, out-roll-GroupNode}
use Rattle.tl_tree.specs.declared.node.TableNode.{TableNode, out-TableNode, out-roll-TableNode}
use Rattle.tl_table.specs.declared.cell.Content.{out-Content, roll-Content, out-roll-Content}
use Rattle.tl_table.specs.declared.cell.Content.TheOpen as open_content
use Rattle.tl_table.specs.declared.cell.Kind.TheVariants as kinds
use Rattle.tl_table.specs.declared.cell.Table.{Table, out-Table, roll-Table, out-roll-Table}
use Rattle.tl_table.specs.declared.cell.TableCell.{TableCell, out-TableCell, roll-TableCell, out-roll-TableCell}
use Rattle.tl_table.specs.Tables.{OpenTable, OpenCell, OpenContent, is_in_head, place_of}
use Rattle.tl_table.specs.Formed.{OpenNode, OpenGroup, OpenCellNode, OpenBlock, Becomes, BecomesCell, BecomeCells, BecomesContent}
use Rattle.tl_table.specs.Formed.{BecomeCaption, caption_rows}
use Rattle.tl_table.specs.Formed.{cells_of_group, cells_written, is_foot, lowered, marks_of_group, marks_written, shape_of, span_of}
use Rattle.tl_table.specs.Formed.{Writes, slot_number}
use Rattle.tl_table.proofs.Formed.{made_table, as_many_cells}
use Rattle.tl_demo.specs.Demo.{DemoCell}
use Rattle.tl_demo.proofs.DrawnRows.{IsDrawnCell, IsDrawnRow}
use Rattle.tl_demo.proofs.TableTree.{paragraph_in, cell_node, open_cell_node, open_group_node, open_table_node, table_node}
use Rattle.tl_demo.proofs.TableGrid.{span_in, shape_in, has_grid}

-- ---- a list in order

-- where a number comes among numbers in order
record ComesAt {X : Type 0} (measure : X → ℕ) (xs : List X) (value : ℕ) : Type 0 where
  at : ℕ
  within : at ≤ length xs
  above : (k : ℕ) (d : X) → k < at → measure (get_or xs k d) ≤ value
  below : (k : ℕ) (d : X) → at ≤ k → k < length xs → value ≤ measure (get_or xs k d)

-- each number comes somewhere
comes_at : {X : Type 0} (measure : X → ℕ) (xs : List X) (value : ℕ) → IsNonDecreasingBy measure xs → ComesAt measure xs value
comes_at measure [] value rises = record {
  at = 0;
  within = omega arith;
  above = λ k d lt. absurd (omega (arith, lt));
  below = λ k d le lt. absurd (omega (arith, lt));
}
comes_at measure (x ∷ xs) value rises = by_order (cases_lt (measure x) value)
    (comes_at measure xs value (IsNonDecreasingBy-drop measure 1 (x ∷ xs) rises))
  where
    by_order : (measure x < value) ⊎ (value ≤ measure x) → ComesAt measure xs value → ComesAt measure (x ∷ xs) value
    by_order (inr low) later = record {
      at = 0;
      within = omega arith;
      above = λ k d lt. absurd (omega (arith, lt));
      below = λ k d le lt. omega (arith, low, rises 0 k d (omega arith) lt);
    }
    by_order (inl more) later = record {
      at = suc later.at;
      within = omega (arith, later.within);
      above = before;
      below = after;
    }
      where
        before : (k : ℕ) (d : _) → k < suc later.at → measure (get_or (x ∷ xs) k d) ≤ value
        before zero d lt = omega (arith, more)
        before (suc k) d lt = later.above k d (omega (arith, lt))

        after : (k : ℕ) (d : _) → suc later.at ≤ k → k < length (x ∷ xs) → value ≤ measure (get_or (x ∷ xs) k d)
        after zero d le lt = absurd (omega (arith, le))
        after (suc k) d le lt = later.below k d (omega (arith, le)) (omega (arith, lt))

-- each list has an order in which a measure rises
pub sorted_by : {X : Type 0} (measure : X → ℕ) (xs : List X) →
    (sorted : List X) × (IsPermutation xs sorted × IsNonDecreasingBy measure sorted)
sorted_by measure [] = ([], (IsPermutation-refl [], IsNonDecreasingBy-short measure [] (omega arith)))
sorted_by measure (x ∷ xs) =
    let rest = sorted_by measure xs in
    let comes = comes_at measure rest.0 (measure x) rest.1.1 in (
      insert rest.0 comes.at x,
      (
        IsPermutation-trans (x ∷ xs) (x ∷ rest.0) (insert rest.0 comes.at x) (IsPermutation-cons x xs rest.0 rest.1.0)
            (IsPermutation-insert rest.0 comes.at x),
        IsNonDecreasingBy-insert measure rest.0 comes.at x rest.1.1 comes.within comes.above comes.below,
      ),
    )

-- ---- the cells

-- a cell of the table by its fields: one paragraph
abbrev pub open_cell : DemoCell → Place → OpenCell
open_cell c place = record {
  kind = kinds.Plain;
  in_head = false;
  place = place;
  least = 0;
  align = None;
  blocks =
      roll-Content (open_content.Para (paragraph_in c)) ∷ [];
}

abbrev pub table_cell : DemoCell → Place → TableCell
table_cell c place = roll-TableCell (open_cell c place)

-- the cells at their places
abbrev placed_cells : List DemoCell → List Place → List TableCell
placed_cells [] places = []
placed_cells (c ∷ cells) [] = []
placed_cells (c ∷ cells) (place ∷ places) = table_cell c place ∷ placed_cells cells places

-- there are as many cells as places
placed_length : (cells : List DemoCell) (places : List Place) → length cells ≡ length places →
    length (placed_cells cells places) ≡ length places
placed_length [] places same = same
placed_length (c ∷ cells) [] same = absurd (omega (arith, same))
placed_length (c ∷ cells) (place ∷ places) same = let rest = placed_length cells places (omega (arith, same)) in
    omega (arith, rest)

-- each cell is at its place
places_are : (cells : List DemoCell) (places : List Place) → length cells ≡ length places →
    map place_of (placed_cells cells places) ≡ places
places_are [] [] same = refl
places_are [] (place ∷ places) same = absurd (omega (arith, same))
places_are (c ∷ cells) [] same = absurd (omega (arith, same))
places_are (c ∷ cells) (place ∷ places) same =
    ap (λ (o : OpenCell). o.place ∷ map place_of (placed_cells cells places)) (out-roll-TableCell (open_cell c place))
    ∙ ap (λ (ps : List Place). place ∷ ps) (places_are cells places (omega (arith, same)))

-- no cell is of a `thead`
marks_are : (cells : List DemoCell) (places : List Place) → length cells ≡ length places →
    map is_in_head (placed_cells cells places) ≡ map (λ (c : DemoCell). false) cells
marks_are [] places same = refl
marks_are (c ∷ cells) [] same = absurd (omega (arith, same))
marks_are (c ∷ cells) (place ∷ places) same =
    ap (λ (o : OpenCell). o.in_head ∷ map is_in_head (placed_cells cells places)) (out-roll-TableCell (open_cell c place))
    ∙ ap (λ (ms : List Bool). false ∷ ms) (marks_are cells places (omega (arith, same)))

-- a cell of the table: one that was drawn, at some place
abbrev pub IsDrawnTableCell : TableCell → Type 0
IsDrawnTableCell cell = (c : DemoCell) × (place : Place) × IsDrawnCell c × (cell ≡ table_cell c place)

-- each of them was drawn
placed_drawn : (cells : List DemoCell) (places : List Place) → AllByRecursion IsDrawnCell cells →
    AllByRecursion IsDrawnTableCell (placed_cells cells places)
placed_drawn [] places all = tt
placed_drawn (c ∷ cells) [] all = tt
placed_drawn (c ∷ cells) (place ∷ places) all = ((c, place, all.0, refl), placed_drawn cells places all.1)

-- ---- a cell of the tree becomes it

abbrev Forms : TableNode → Table → Type 0
Forms node table = Becomes Words node table

-- a paragraph becomes the same paragraph, as its words are not broken
block_becomes : (units : List Atom) →
    BecomesContent Forms Words (out-Block (roll-Block (open_block.Para units)))
    (out-Content (roll-Content (open_content.Para units)))
block_becomes units =
    subst (λ (b : OpenBlock). BecomesContent Forms Words b (out-Content (roll-Content (open_content.Para units))))
    (sym (out-roll-Block (open_block.Para units)))
    (subst (λ (d : OpenContent). BecomesContent Forms Words (open_block.Para units) d)
    (sym (out-roll-Content (open_content.Para units))) refl)

-- a cell of the tree becomes the cell of the table, wherever that lies
cell_becomes : (c : DemoCell) (place : Place) → BecomesCell Forms Words (out-CellNode (cell_node c))
    (out-TableCell (table_cell c place))
cell_becomes c place =
    subst (λ (n : OpenCellNode). BecomesCell Forms Words n (out-TableCell (table_cell c place)))
    (sym (out-roll-CellNode (open_cell_node c)))
    (subst (λ (d : OpenCell). BecomesCell Forms Words (open_cell_node c) d) (sym (out-roll-TableCell (open_cell c place)))
    (record { kind = refl; least = refl; align = refl; blocks = (block_becomes (paragraph_in c), tt) }))

cells_become : (cells : List DemoCell) (places : List Place) → length cells ≡ length places →
    BecomeCells Forms Words (map cell_node cells) (placed_cells cells places)
cells_become [] places same = tt
cells_become (c ∷ cells) [] same = absurd (omega (arith, same))
cells_become (c ∷ cells) (place ∷ places) same = (cell_becomes c place, cells_become cells places (omega (arith, same)))

-- ---- what the grid of the tree depends on

-- the cells of all rows
abbrev cells_in_order : List (List DemoCell) → List DemoCell
cells_in_order rows = flat_map (λ (cells : List DemoCell). cells) rows

-- the cells of the tree are those of the rows, in their order
nodes_in_order : (rows : List (List DemoCell)) → flat_map (λ (nodes : List CellNode). nodes)
    (map (map cell_node) rows) ≡ map cell_node (cells_in_order rows)
nodes_in_order [] = refl
nodes_in_order (cells ∷ rows) =
    ap (λ (ns : List CellNode). map cell_node cells ++ ns) (nodes_in_order rows) ∙ sym
    (map-append cell_node cells (cells_in_order rows))

-- each of them was drawn
all_in_order : (rows : List (List DemoCell)) → AllByRecursion IsDrawnRow rows → AllByRecursion IsDrawnCell (cells_in_order rows)
all_in_order [] all = tt
all_in_order (cells ∷ rows) all = AllByRecursion-append IsDrawnCell cells (cells_in_order rows) (all.0).each
    (all_in_order rows all.1)

-- the cells of the tree as they are written
written_are : (rows : List (List DemoCell)) → cells_written (open_table_node rows) ≡ map cell_node (cells_in_order rows)
written_are rows =
    append-nil (cells_of_group (out-GroupNode (roll-GroupNode (open_group_node rows))))
    ∙ ap (λ (g : OpenGroup). cells_of_group g) (out-roll-GroupNode (open_group_node rows)) ∙ nodes_in_order rows

-- the one group of the tree is no `thead`
no_marks : (rows : List (List DemoCell)) → marks_written (open_table_node rows) ≡
    map (λ (c : DemoCell). false) (cells_in_order rows)
no_marks rows =
    append-nil (marks_of_group (out-GroupNode (roll-GroupNode (open_group_node rows))))
    ∙ ap (λ (g : OpenGroup). marks_of_group g) (out-roll-GroupNode (open_group_node rows)) ∙ by_rows rows
  where
    by_row : (cells : List DemoCell) → map (λ (node : CellNode). false) (map cell_node cells) ≡
        map (λ (c : DemoCell). false) cells
    by_row [] = refl
    by_row (c ∷ cells) = ap (λ (ms : List Bool). false ∷ ms) (by_row cells)

    by_rows : (rows : List (List DemoCell)) →
        flat_map (λ (nodes : List CellNode). map (λ (node : CellNode). false) nodes) (map (map cell_node) rows) ≡
        map (λ (c : DemoCell). false) (cells_in_order rows)
    by_rows [] = refl
    by_rows (cells ∷ rows) =
        ap (λ (ms : List Bool). ms ++ flat_map (λ (nodes : List CellNode). map (λ (node : CellNode). false) nodes)
        (map (map cell_node) rows)) (by_row cells)
        ∙ ap (λ (ms : List Bool). map (λ (c : DemoCell). false) cells ++ ms) (by_rows rows)
        ∙ sym (map-append (λ (c : DemoCell). false) cells (cells_in_order rows))

-- the spans of the tree are those of the rows
row_spans_are : (cells : List DemoCell) → map span_of (map cell_node cells) ≡ map span_in cells
row_spans_are [] = refl
row_spans_are (c ∷ cells) =
    ap (λ (n : OpenCellNode). let s : SpanOf = record { colspan = n.colspan; rowspan = n.rowspan } in
    s ∷ map span_of (map cell_node cells))
    (out-roll-CellNode (open_cell_node c))
    ∙ ap (λ (ss : List SpanOf). span_in c ∷ ss) (row_spans_are cells)

spans_are : (rows : List (List DemoCell)) → map (map span_of) (map (map cell_node) rows) ≡ map (map span_in) rows
spans_are [] = refl
spans_are (cells ∷ rows) =
    ap (λ (ss : List SpanOf). ss ∷ map (map span_of) (map (map cell_node) rows)) (row_spans_are cells)
    ∙ ap (λ (sss : List (List SpanOf)). map span_in cells ∷ sss) (spans_are rows)

-- what the grid of the tree depends on
shape_is : (rows : List (List DemoCell)) → shape_of (open_table_node rows) ≡ shape_in rows
shape_is rows =
    let with : List (List SpanOf) → Shape = λ spans. record {
      columns = 0;
      groups =
          record { foot = false; rows = spans } ∷ [];
    } in
    ap (λ (g : OpenGroup). let s : Shape = record {
      columns = 0;
      groups =
          record { foot = is_foot g.part; rows = map (map span_of) g.rows } ∷ [];
    } in s)
    (out-roll-GroupNode (open_group_node rows))
    ∙ ap with (spans_are rows)

-- ---- the table

-- the tree of the rows becomes this table, of at most six columns, whose cells were drawn
pub record IsFormedTable (rows : List (List DemoCell)) (table : Table) : Type 0 where
  pub becomes : Becomes Words (table_node rows) table
  pub narrow : (out-Table table).cols ≤ 6
  pub cells : All IsDrawnTableCell (out-Table table).cells

module _ (rows : List (List DemoCell)) (all : AllByRecursion IsDrawnRow rows) (few : length rows ≤ MAX_ROWS)
    (sound : AreSound (outline (table_node rows))) where
  node : OpenNode
  node = out-TableNode (table_node rows)

  node_is : node ≡ open_table_node rows
  unfolding node
  node_is = out-roll-TableNode (open_table_node rows)

  -- the grid of the rows
  found : (grid : Grid) × (HasGrid (shape_in rows) grid × (grid.cols ≤ 6))
  found = has_grid rows all few

  abbrev grid : Grid
  grid = found.0

  has : HasGrid (shape_of node) grid
  has = subst (λ (s : Shape). HasGrid s grid) (sym (ap shape_of node_is ∙ shape_is rows)) found.1.0

  abbrev places : List Place
  places = map (lowered 0) grid.places

  abbrev cells : List DemoCell
  cells = cells_in_order rows

  nodes_are : cells_written node ≡ map cell_node cells
  nodes_are = ap cells_written node_is ∙ written_are rows

  as_many : length cells ≡ length places
  as_many = omega (
    arith,
    as_many_cells node grid has,
    ap length nodes_are,
    length-map cells cell_node,
    length-map grid.places (lowered 0),
  )

  abbrev written : List TableCell
  written = placed_cells cells places

  -- the cells are written at the places of the grid
  writes : Writes Words (cells_written node) (marks_written node) places [] written
  writes = record {
    more = written;
    joined = refl;
    cells = subst (λ (ns : List CellNode). BecomeCells Forms Words ns written) (sym nodes_are)
        (cells_become cells places as_many);
    marked = marks_are cells places as_many ∙ sym (ap marks_written node_is ∙ no_marks rows);
    placed = places_are cells places as_many ∙ sym (take_all (length written) places
        (omega (arith, placed_length cells places as_many)));
  }

  -- the cells by top, then left
  order : (sorted : List TableCell) × (IsPermutation written sorted × IsNonDecreasingBy slot_number sorted)
  order = sorted_by slot_number written

  open_table : OpenTable
  open_table = record { number = node.number; cols = max grid.cols 0; rows = grid.rows + 0; cells = order.0 }

  table : Table
  table = roll-Table open_table

  table_is : out-Table table ≡ open_table
  unfolding table
  table_is = out-roll-Table open_table

  no_caption : caption_rows node.caption ≡ 0
  no_caption = ap (λ (n : OpenNode). caption_rows n.caption) node_is

  captioned : BecomeCaption Forms Words (max grid.cols 0) node.caption []
  captioned = subst (λ (n : OpenNode). BecomeCaption Forms Words (max grid.cols 0) n.caption []) (sym node_is) refl

  becomes : Becomes Words (table_node rows) table
  unfolding node open_table
  becomes = made_table Words (table_node rows) table grid places [] written written order.0 0 (max grid.cols 0) sound has
      (sym no_caption) refl captioned refl
      writes refl order.1.0 order.1.1 table_is

  narrow : (out-Table table).cols ≤ 6
  unfolding open_table
  narrow = omega (arith, ap (λ (t : OpenTable). t.cols) table_is, found.1.1)

  drawn : All IsDrawnTableCell (out-Table table).cells
  unfolding open_table
  drawn = subst (λ (t : OpenTable). All IsDrawnTableCell t.cells) (sym table_is)
      (All-permutation IsDrawnTableCell written order.0 order.1.0
      (All-from_recursion IsDrawnTableCell written (placed_drawn cells places (all_in_order rows all))))

  -- the tree of the rows becomes a table
  pub table_formed : (made : Table) × IsFormedTable rows made
  table_formed = (table, record { becomes = becomes; narrow = narrow; cells = drawn })
