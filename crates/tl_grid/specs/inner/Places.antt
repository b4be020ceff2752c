-- No public clause cites this file. The places of the blocks, where the kept columns and rows are
-- lists in strictly increasing order.
use Rattle.std.specs.Prelude.{ℕ, Bool, List, map, fold, slice_set}
use Rattle.tl_grid.specs.declared.block.Block.{Block}
use Rattle.tl_grid.specs.declared.shape.Place.{Place}
use Rattle.tl_grid.specs.Dropping.{count_below}
use Rattle.tl_base.specs.Lists.{is_among}

-- whether a block begins in the column
abbrev pub begins_in_column : List Block → ℕ → Bool
begins_in_column blocks x = is_among (map (λ (block : Block). block.left) blocks) x

-- whether a block begins in the row
abbrev pub begins_in_row : List Block → ℕ → Bool
begins_in_row blocks y = is_among (map (λ (block : Block). block.top) blocks) y

-- the place of a block, where these columns and rows are kept
abbrev pub place_by : (ℕ → Bool) → (ℕ → Bool) → Block → Place
place_by columns rows block = record {
  left = count_below columns block.left;
  right = count_below columns block.right;
  top = count_below rows block.top;
  bottom = count_below rows block.bottom;
}

-- the place of a block, where the kept columns and rows are listed
abbrev pub place_of_block : List ℕ → List ℕ → Block → Place
place_of_block columns rows block = place_by (is_among columns) (is_among rows) block

-- each place at its cell's number
abbrev pub put_places : List ℕ → List ℕ → List Place → List Block → List Place
put_places columns rows places blocks =
    fold (λ found block. slice_set found block.number (place_of_block columns rows block)) places blocks

-- the place before any is known
abbrev pub nowhere : Place
nowhere = record { left = 0; right = 0; top = 0; bottom = 0 }
