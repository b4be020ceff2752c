-- What a tree becomes with tables nested to some depth, it becomes to any greater one; and a depth that is enough for
-- all parts of a table.
use Rattle.std.proofs.Common.{ℕ, zero, suc, ◌≤◌, max, Option, Some, None, List, [], ◌∷◌, arith}
use Rattle.std.specs.List.{AllZip}
use Rattle.tl_base.specs.declared.breaking.Breaking.{Breaking}
use Rattle.tl_base.proofs.Zips.{AllZip-weaker}
use Rattle.tl_tree.specs.declared.node.Block.{Block, out-Block}
use Rattle.tl_tree.specs.declared.node.Block.TheOpen as open_block
use Rattle.tl_tree.specs.declared.node.CellNode.{CellNode, out-CellNode}
use Rattle.tl_tree.specs.declared.node.TableNode.{TableNode, out-TableNode}
use Rattle.tl_table.specs.declared.cell.Content.{Content, out-Content}
use Rattle.tl_table.specs.declared.cell.Content.TheOpen as open_content
use Rattle.tl_table.specs.declared.cell.Table.{Table, out-Table}
use Rattle.tl_table.specs.declared.cell.TableCell.{TableCell, out-TableCell}
use Rattle.tl_table.specs.Tables.{OpenTable, OpenCell, OpenContent}
use Rattle.tl_table.specs.Formed.{OpenNode, OpenCellNode, OpenBlock, BecomesContent, BecomeContents, BecomesCell, BecomeCells}
use Rattle.tl_table.specs.Formed.{BecomeCaption}
use Rattle.tl_table.specs.Formed.{BecomesBy, BecomesWithin, Becomes}

module _ (some more : TableNode → Table → Type 0) (weaker : (node : TableNode) (table : Table) → some node table →
    more node table)
    (breaking : Breaking) where
  pub BecomesContent-weaker : (block : OpenBlock) (content : OpenContent) → BecomesContent some breaking block content →
      BecomesContent more breaking block content
  BecomesContent-weaker (open_block.Para paragraph) (open_content.Para units) becomes = becomes
  BecomesContent-weaker (open_block.Para paragraph) (open_content.Table box) becomes = absurd becomes
  BecomesContent-weaker (open_block.Table node) (open_content.Para units) becomes = absurd becomes
  BecomesContent-weaker (open_block.Table node) (open_content.Table box) becomes = weaker node.value box.value becomes

  pub BecomeContents-weaker : (flow : List Block) (blocks : List Content) → BecomeContents some breaking flow blocks →
      BecomeContents more breaking flow blocks
  BecomeContents-weaker flow blocks become =
      AllZip-weaker (λ block content. BecomesContent some breaking (out-Block block) (out-Content content))
      (λ block content. BecomesContent more breaking (out-Block block) (out-Content content)) flow blocks
      (λ block content one. BecomesContent-weaker (out-Block block) (out-Content content) one) become

  pub BecomesCell-weaker : (node : OpenCellNode) (cell : OpenCell) → BecomesCell some breaking node cell →
      BecomesCell more breaking node cell
  BecomesCell-weaker node cell becomes = record {
    kind = becomes.kind;
    least = becomes.least;
    align = becomes.align;
    blocks = BecomeContents-weaker node.flow cell.blocks becomes.blocks;
  }

  pub BecomeCells-weaker : (nodes : List CellNode) (cells : List TableCell) → BecomeCells some breaking nodes cells →
      BecomeCells more breaking nodes cells
  BecomeCells-weaker nodes cells become =
      AllZip-weaker (λ node cell. BecomesCell some breaking (out-CellNode node) (out-TableCell cell))
      (λ node cell. BecomesCell more breaking (out-CellNode node) (out-TableCell cell)) nodes cells
      (λ node cell one. BecomesCell-weaker (out-CellNode node) (out-TableCell cell) one) become

  pub BecomeCaption-weaker : (cols : ℕ) (caption : Option (List Block)) (cells : List TableCell) →
      BecomeCaption some breaking cols caption cells →
      BecomeCaption more breaking cols caption cells
  BecomeCaption-weaker cols None cells become = become
  BecomeCaption-weaker cols (Some flow) [] become = absurd become
  BecomeCaption-weaker cols (Some flow) (cell ∷ cells) become = (
    record {
      kind = become.0.kind;
      in_head = become.0.in_head;
      place = become.0.place;
      least = become.0.least;
      align = become.0.align;
      blocks = BecomeContents-weaker flow (out-TableCell cell).blocks become.0.blocks;
    },
    become.1,
  )

  pub BecomesBy-weaker : (node : OpenNode) (table : OpenTable) → BecomesBy some breaking node table →
      BecomesBy more breaking node table
  BecomesBy-weaker node table becomes = record {
    number = becomes.number;
    grid = becomes.grid;
    has_grid = becomes.has_grid;
    cols = becomes.cols;
    rows = becomes.rows;
    caption = becomes.caption;
    captioned = BecomeCaption-weaker table.cols node.caption becomes.caption becomes.captioned;
    written = becomes.written;
    cells = BecomeCells-weaker _ becomes.written becomes.cells;
    marked = becomes.marked;
    places = becomes.places;
    same = becomes.same;
    in_order = becomes.in_order;
  }

-- a tree becomes a table to any greater depth
pub BecomesWithin-more : (few many : ℕ) (breaking : Breaking) (node : TableNode) (table : Table) → few ≤ many →
    BecomesWithin few breaking node table → BecomesWithin many breaking node table
BecomesWithin-more zero many breaking node table le becomes = absurd becomes
BecomesWithin-more (suc few) zero breaking node table le becomes = absurd (omega arith)
BecomesWithin-more (suc few) (suc many) breaking node table le becomes =
    BecomesBy-weaker (BecomesWithin few breaking) (BecomesWithin many breaking)
    (λ inner made. BecomesWithin-more few many breaking inner made (omega arith)) breaking (out-TableNode node)
    (out-Table table) becomes

-- ---- one depth for all

-- two lists whose items belong together to depths of their own belong together to one depth
gathered : {A B : Type 0} (P : ℕ → A → B → Type 0) (rises : (few many : ℕ) (x : A) (y : B) → few ≤ many → P few x y → P many x y)
    (xs : List A) (ys : List B) → AllZip (λ x y. (depth : ℕ) × P depth x y) xs ys → (depth : ℕ) × AllZip (P depth) xs ys
gathered P rises [] [] all = (0, tt)
gathered P rises [] (y ∷ ys) all = absurd all
gathered P rises (x ∷ xs) [] all = absurd all
gathered P rises (x ∷ xs) (y ∷ ys) all =
    let rest = gathered P rises xs ys all.1 in
    let depth : ℕ = max all.0.0 rest.0 in (
      depth,
      (
        rises all.0.0 depth x y (omega arith) all.0.1,
        AllZip-weaker (P rest.0) (P depth) xs ys (λ z w one. rises rest.0 depth z w (omega arith) one) rest.1,
      ),
    )

module _ (breaking : Breaking) where
  content_depth : (block : OpenBlock) (content : OpenContent) → BecomesContent (Becomes breaking) breaking block content →
      (depth : ℕ) × BecomesContent (BecomesWithin depth breaking) breaking block content
  content_depth (open_block.Para paragraph) (open_content.Para units) becomes = (0, becomes)
  content_depth (open_block.Para paragraph) (open_content.Table box) becomes = absurd becomes
  content_depth (open_block.Table node) (open_content.Para units) becomes = absurd becomes
  content_depth (open_block.Table node) (open_content.Table box) becomes = becomes

  deeper : (few many : ℕ) → few ≤ many → (node : TableNode) (table : Table) → BecomesWithin few breaking node table →
      BecomesWithin many breaking node table
  deeper few many le node table becomes = BecomesWithin-more few many breaking node table le becomes

  contents_depth : (flow : List Block) (blocks : List Content) → BecomeContents (Becomes breaking) breaking flow blocks →
      (depth : ℕ) × BecomeContents (BecomesWithin depth breaking) breaking flow blocks
  contents_depth flow blocks become =
      gathered (λ depth block content. BecomesContent (BecomesWithin depth breaking) breaking (out-Block block)
      (out-Content content))
      (λ few many block content le one. BecomesContent-weaker (BecomesWithin few breaking) (BecomesWithin many breaking)
      (deeper few many le) breaking
      (out-Block block) (out-Content content) one) flow blocks
      (AllZip-weaker (λ block content. BecomesContent (Becomes breaking) breaking (out-Block block) (out-Content content))
      (λ block content. (depth : ℕ) × BecomesContent (BecomesWithin depth breaking) breaking (out-Block block)
      (out-Content content)) flow blocks
      (λ block content one. content_depth (out-Block block) (out-Content content) one) become)

  cell_depth : (node : OpenCellNode) (cell : OpenCell) → BecomesCell (Becomes breaking) breaking node cell →
      (depth : ℕ) × BecomesCell (BecomesWithin depth breaking) breaking node cell
  cell_depth node cell becomes =
      let found = contents_depth node.flow cell.blocks becomes.blocks in
      (found.0, record { kind = becomes.kind; least = becomes.least; align = becomes.align; blocks = found.1 })

  cells_depth : (nodes : List CellNode) (cells : List TableCell) → BecomeCells (Becomes breaking) breaking nodes cells →
      (depth : ℕ) × BecomeCells (BecomesWithin depth breaking) breaking nodes cells
  cells_depth nodes cells become =
      gathered (λ depth node cell. BecomesCell (BecomesWithin depth breaking) breaking (out-CellNode node) (out-TableCell cell))
      (λ few many node cell le one. BecomesCell-weaker (BecomesWithin few breaking) (BecomesWithin many breaking)
      (deeper few many le) breaking
      (out-CellNode node) (out-TableCell cell) one) nodes cells
      (AllZip-weaker (λ node cell. BecomesCell (Becomes breaking) breaking (out-CellNode node) (out-TableCell cell))
      (λ node cell. (depth : ℕ) × BecomesCell (BecomesWithin depth breaking) breaking (out-CellNode node) (out-TableCell cell))
      nodes cells
      (λ node cell one. cell_depth (out-CellNode node) (out-TableCell cell) one) become)

  caption_depth : (cols : ℕ) (caption : Option (List Block)) (cells : List TableCell) →
      BecomeCaption (Becomes breaking) breaking cols caption cells →
      (depth : ℕ) × BecomeCaption (BecomesWithin depth breaking) breaking cols caption cells
  caption_depth cols None cells become = (0, become)
  caption_depth cols (Some flow) [] become = absurd become
  caption_depth cols (Some flow) (cell ∷ cells) become =
      let found = contents_depth flow (out-TableCell cell).blocks become.0.blocks in (
        found.0,
        (
          record {
            kind = become.0.kind;
            in_head = become.0.in_head;
            place = become.0.place;
            least = become.0.least;
            align = become.0.align;
            blocks = found.1;
          },
          become.1,
        ),
      )

  -- what a tree becomes one level at a time, it becomes
  pub becomes_by : (node : TableNode) (table : Table) → BecomesBy (Becomes breaking) breaking (out-TableNode node)
      (out-Table table) →
      Becomes breaking node table
  becomes_by node table becomes =
      let caption = caption_depth (out-Table table).cols (out-TableNode node).caption becomes.caption becomes.captioned in
      let cells = cells_depth _ becomes.written becomes.cells in
      let depth : ℕ = max caption.0 cells.0 in (
        suc depth,
        record {
          number = becomes.number;
          grid = becomes.grid;
          has_grid = becomes.has_grid;
          cols = becomes.cols;
          rows = becomes.rows;
          caption = becomes.caption;
          captioned = BecomeCaption-weaker (BecomesWithin caption.0 breaking) (BecomesWithin depth breaking)
              (deeper caption.0 depth (omega arith)) breaking
              (out-Table table).cols (out-TableNode node).caption becomes.caption caption.1;
          written = becomes.written;
          cells = BecomeCells-weaker (BecomesWithin cells.0 breaking) (BecomesWithin depth breaking)
              (deeper cells.0 depth (omega arith)) breaking
              _ becomes.written cells.1;
          marked = becomes.marked;
          places = becomes.places;
          same = becomes.same;
          in_order = becomes.in_order;
        },
      )
