-- No public clause cites this file. What the code keeps while it forms a table over blocks, and how
-- its results follow the definition's.
use Rattle.std.specs.Prelude.{ℕ, ◌≤◌, ◌≡◌, ◌⊎◌, ◌++◌, Result, Ok, Err, alloc_error}
use Rattle.std.specs.List.{AllByRecursion}
use Rattle.tl_grid.specs.declared.block.Block.{Block}
use Rattle.tl_grid.specs.declared.row.RowState.{RowState}
use Rattle.tl_grid.specs.declared.group.Group.{Group}
use Rattle.tl_grid.specs.declared.error.GridError.{GridError}
use Rattle.tl_grid.specs.declared.error.GridError.TheVariants.{Memory}
use Rattle.tl_grid.specs.inner.Walk.{Row, RowGroup}

-- a row, as the code keeps it
abbrev pub row_over : RowState → Row
row_over row = record {
  column = row.open_blocks.column;
  height = row.height;
  blocks = row.blocks;
  passed = row.open_blocks.passed;
  ahead = row.open_blocks.ahead;
}

-- a row group between two rows, as the code keeps it
abbrev pub group_over : Group → RowGroup
group_over group = record {
  row = group.row;
  height = group.height;
  blocks = group.blocks;
  open_blocks = group.open_blocks.passed ++ group.open_blocks.ahead;
}

-- the code's result is the definition's, seen by `view`, or memory ran out
abbrev pub IsWalked : {X Y : Type 0} → (X → Y) → Result Y GridError → Result X GridError → Type 0
IsWalked view walked (Ok value) = walked ≡ Ok (view value)
IsWalked view walked (Err error) = (error ≡ Memory alloc_error) ⊎ (walked ≡ Err error)

-- a block ends before column `width`, or at it
abbrev pub BlockEndsBy : ℕ → Block → Type 0
BlockEndsBy width block = block.right ≤ width

-- the row has come no further than column `width`, and none of its open blocks goes past it
abbrev pub StaysWithin : ℕ → Row → Type 0
StaysWithin width row =
    (row.column ≤ width) × AllByRecursion (BlockEndsBy width) (row.passed ++ row.ahead)
