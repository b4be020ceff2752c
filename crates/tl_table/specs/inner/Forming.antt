-- What the functions that form a table promise each other. No public clause cites this file.
use Rattle.std.specs.Prelude.{◌≡◌, ℕ}
use Rattle.tl_grid.specs.declared.error.GridError.{GridError}
use Rattle.tl_grid.specs.declared.error.GridError.TheVariants as causes
use Rattle.tl_grid.specs.Form.{LacksGrid}
use Rattle.tl_table.specs.declared.error.FormError.{FormError}
use Rattle.tl_table.specs.declared.error.FormError.TheVariants as errors
use Rattle.tl_table.specs.Formed.{OpenNode, shape_of}

-- the error of the table of that number, which has no grid for that cause
abbrev pub refusal : ℕ → GridError → FormError
refusal number (causes.Memory error) = errors.Memory error
refusal number cause = errors.Grid number cause

-- the error is that of the table itself, which has no grid
abbrev pub IsOwnError : OpenNode → FormError → Type 0
IsOwnError node (errors.Memory error) = ⊥
IsOwnError node (errors.Grid number cause) = (number ≡ node.number) × LacksGrid (shape_of node) cause
