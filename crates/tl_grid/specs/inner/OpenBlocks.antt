-- No public clause cites this file. How a row is walked from left to right over the open blocks:
-- those that may take it or rows to come, in order by their columns. No slot is made.
use Rattle.std.specs.Prelude.{ℕ, ◌<◌, ◌≤◌, ◌≡◌, Bool, ◌||◌, nat_lt, nat_le, if◌then◌else◌, List, []}
use Rattle.std.specs.Prelude.{◌∷◌, ◌++◌, length, take, Option, Some, None}
use Rattle.tl_grid.specs.declared.block.Block.{Block}
use Rattle.tl_grid.specs.declared.open_blocks.Run.{Run}

-- whether a block that begins in row y or above it takes that row
abbrev pub reaches : ℕ → Block → Bool
reaches y block = block.grows || nat_lt y block.bottom

-- how far a row has come: the next column, and the open blocks that lie before it and after it
pub record Walk : Type 0 where
  pub column : ℕ
  pub passed : List Block
  pub ahead : List Block

-- in row y, passes the blocks that take the columns from x on, one after another; those that end
-- above the row are dropped on the way
abbrev pub pass_taken : ℕ → ℕ → List Block → List Block → Walk
pass_taken y x passed [] = record { column = x; passed = passed; ahead = [] }
pass_taken y x passed (block ∷ blocks) =
    if reaches y block
    then (if nat_le block.left x
    then pass_taken y block.right (passed ++ block ∷ []) blocks
    else record { column = x; passed = passed; ahead = block ∷ blocks })
    else pass_taken y x passed blocks

-- the first block ahead, if it begins before the column `right`
abbrev pub hit : List Block → ℕ → Option Block
hit [] right = None
hit (block ∷ blocks) right = if nat_lt block.left right then Some block else None

-- The first blocks that were passed are a run: in each row above `until` they take all columns up
-- to that of the run. So a row may begin its walk after them.
pub record HoldsRun (column : ℕ) (passed : List Block) (run : Run) : Type 0 where
  pub few : run.count ≤ length passed
  pub level : length passed ≡ run.count → column ≡ run.column
  pub start : run.count ≡ 0 → run.column ≡ 0
  pub passes : (y : ℕ) → y < run.until → pass_taken y 0 [] (take run.count passed)
      ≡ record { column = run.column; passed = take run.count passed; ahead = [] }
