-- No public clause cites this file. How a table is formed over blocks: row by row, group by group,
-- the footers last.
use Rattle.std.specs.Prelude.{ℕ, ◌+◌, max, Bool, ◌==◌, not, map, true, false, if◌then◌else◌, List}
use Rattle.std.specs.Prelude.{[], ◌∷◌, ◌++◌, length, Option, Some, None, Result, Ok, Err}
use Rattle.tl_grid.specs.declared.shape.SpanOf.{SpanOf}
use Rattle.tl_grid.specs.declared.block.Block.{Block}
use Rattle.tl_grid.specs.declared.table.Table.{Table}
use Rattle.tl_grid.specs.declared.error.GridError.{GridError}
use Rattle.tl_grid.specs.declared.error.GridError.TheVariants.{Overlap}
use Rattle.tl_grid.specs.declared.shape.ShapeGroup.{ShapeGroup}
use Rattle.tl_grid.specs.Forming.{initial_rowspan, cells_in}
use Rattle.tl_grid.specs.inner.OpenBlocks.{Walk, pass_taken, hit}

-- the block of a cell at column x of row y
abbrev pub block_at : ℕ → ℕ → ℕ → SpanOf → Block
block_at number x y span = record {
  number = number;
  left = x;
  right = x + span.colspan;
  top = y;
  bottom = y + initial_rowspan span;
  grows = span.rowspan == 0;
}

-- a row while its cells are formed: the next column, the table's height, the blocks of the row
-- group so far, and the open ones before and after that column
pub record Row : Type 0 where
  pub column : ℕ
  pub height : ℕ
  pub blocks : List Block
  pub passed : List Block
  pub ahead : List Block

-- the row after one more cell, at the column that the walk came to
abbrev pub row_with_cell : ℕ → ℕ → SpanOf → Row → Walk → Row
row_with_cell y number span row walk = record {
  column = walk.column + span.colspan;
  height = max row.height (y + initial_rowspan span);
  blocks = row.blocks ++ block_at number walk.column y span ∷ [];
  passed = walk.passed ++ block_at number walk.column y span ∷ [];
  ahead = walk.ahead;
}

-- the walk to the next cell of row y
abbrev pub walk_of : ℕ → Row → Walk
walk_of y row = pass_taken y row.column row.passed row.ahead

-- `more`, unless cell `number` in row y runs into a block
abbrev pub unless_hit : {X : Type 0} → Option Block → ℕ → ℕ
    → Result X GridError → Result X GridError
unless_hit None number y more = more
unless_hit (Some block) number y more = Err (Overlap block.number number block.left y)

-- the cells of a row, one after another; `number` is that of the first
abbrev pub place_cells : ℕ → ℕ → Row → List SpanOf → Result Row GridError
place_cells y number row [] = Ok row
place_cells y number row (span ∷ spans) =
    let walk : Walk = walk_of y row in
    unless_hit (hit walk.ahead (walk.column + span.colspan)) number y
    (place_cells y (number + 1) (row_with_cell y number span row walk) spans)

-- a row group between two rows: the number of the next row, the table's height, all blocks of the
-- group so far, and those of its blocks that are open
pub record RowGroup : Type 0 where
  pub row : ℕ
  pub height : ℕ
  pub blocks : List Block
  pub open_blocks : List Block

-- a group begins at row y, below all rows before it
abbrev pub group_at : ℕ → RowGroup
group_at y = record { row = y; height = y; blocks = []; open_blocks = [] }

-- the next row begins, over the open blocks
abbrev pub row_of : RowGroup → Row
row_of group = record {
  column = 0;
  height = max group.height (group.row + 1);
  blocks = group.blocks;
  passed = [];
  ahead = group.open_blocks;
}

-- the row ends
abbrev pub after_row : ℕ → Row → RowGroup
after_row y row = record {
  row = y + 1;
  height = row.height;
  blocks = row.blocks;
  open_blocks = row.passed ++ row.ahead;
}

-- `next` of a value, or the error
abbrev pub then_ok : {X Y : Type 0} → (X → Result Y GridError)
    → Result X GridError → Result Y GridError
then_ok next (Ok value) = next value
then_ok next (Err error) = Err error

-- the rows of a group, one after another; `number` is that of their first cell
abbrev pub place_rows : ℕ → RowGroup → List (List SpanOf) → Result RowGroup GridError
place_rows number group [] = Ok group
place_rows number group (spans ∷ rows) =
    then_ok
    (λ row. place_rows (number + length spans) (after_row group.row row) rows)
    (place_cells group.row number (row_of group) spans)

-- a block when its group ends with the table this high: it grows no more
abbrev pub settled : ℕ → Block → Block
settled height block = record {
  number = block.number;
  left = block.left;
  right = block.right;
  top = block.top;
  bottom = if block.grows then height else block.bottom;
  grows = false;
}

-- the table after a group
abbrev pub after_group : Table → RowGroup → Table
after_group table group = record {
  row = group.height;
  blocks = table.blocks ++ map (settled group.height) group.blocks;
}

-- the groups whose turn it is, one after another; `number` is that of the first cell of them all
abbrev pub place_groups : (ShapeGroup → Bool) → ℕ → Table → List ShapeGroup → Result Table GridError
place_groups turn number table [] = Ok table
place_groups turn number table (group ∷ groups) =
    if turn group
    then then_ok
    (λ row_with_cell. place_groups turn (number + cells_in group.rows) (after_group table row_with_cell) groups)
    (place_rows number (group_at table.row) group.rows)
    else place_groups turn (number + cells_in group.rows) table groups

-- the groups that are footers, or those that are not
abbrev pub has_turn : Bool → ShapeGroup → Bool
has_turn true group = group.foot
has_turn false group = not group.foot

-- all groups, the footers last
abbrev pub place_all : List ShapeGroup → Result Table GridError
place_all groups =
    then_ok (λ table. place_groups (has_turn true) 0 table groups)
    (place_groups (has_turn false) 0 (record { row = 0; blocks = [] }) groups)

-- one cell of a row
abbrev pub place_cell : ℕ → ℕ → Row → SpanOf → Result Row GridError
place_cell y number row span =
    unless_hit (hit (walk_of y row).ahead ((walk_of y row).column + span.colspan)) number y
    (Ok (row_with_cell y number span row (walk_of y row)))
