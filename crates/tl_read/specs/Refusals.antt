-- How what is wrong with a file is reported: its kind and place, or the limit that it passes and the number counted.
use Rattle.std.specs.Prelude.{ℕ, ◌+◌, List, map, get_or, Option, Some, None}
use Rattle.tl_base.specs.declared.limits.TheConstants.{MAX_DEPTH, MAX_TABLES}
use Rattle.tl_token.specs.declared.token.Token.{Token}
use Rattle.tl_token.specs.declared.token.TokenError.{TokenError}
use Rattle.tl_token.specs.declared.token.TokenError.TheVariants as tokens
use Rattle.tl_tree.specs.declared.error.TreeError.{TreeError}
use Rattle.tl_tree.specs.declared.error.TreeError.TheVariants as trees
use Rattle.tl_grid.specs.declared.error.GridError.{GridError}
use Rattle.tl_grid.specs.declared.error.GridError.TheVariants as grids
use Rattle.tl_columns.specs.declared.error.CsvError.{CsvError}
use Rattle.tl_columns.specs.declared.error.CsvError.TheVariants as records
use Rattle.tl_table.specs.declared.error.FormError.{FormError}
use Rattle.tl_table.specs.declared.error.FormError.TheVariants as forms
use Rattle.tl_read.specs.declared.refusal.Fault.{Fault}
use Rattle.tl_read.specs.declared.refusal.Fault.TheVariants as faults
use Rattle.tl_read.specs.declared.refusal.Limit.TheVariants as limits
use Rattle.tl_read.specs.declared.refusal.RecordFault.TheVariants as record_faults
use Rattle.tl_read.specs.declared.refusal.Refusal.{Refusal}
use Rattle.tl_read.specs.declared.refusal.Refusal.TheVariants as refusals

-- a fault that stands at this byte
abbrev pub at : Fault → ℕ → Option Refusal
at fault place = Some (refusals.BadInput fault place)

-- bytes that are no tokens; out of memory is no refusal
abbrev pub token_refusal : TokenError → Option Refusal
token_refusal (tokens.Memory error) = None
token_refusal (tokens.NotUtf8 place) = at faults.NotUtf8 place
token_refusal (tokens.UnendedTag place) = at faults.UnendedTag place
token_refusal (tokens.UnendedComment place) = at faults.UnendedComment place
token_refusal (tokens.BadTag place) = at faults.BadTag place
token_refusal (tokens.UnknownElement place) = at faults.UnknownElement place
token_refusal (tokens.BadReference place) = at faults.BadReference place
token_refusal (tokens.BadCharacter place) = at faults.BadCharacter place

-- the first byte of the token with this number
abbrev pub token_place : List Token → ℕ → ℕ
token_place all index = get_or (map (λ token. token.first) all) index 0

-- tokens of a file of so many bytes that are no tree
abbrev pub tree_refusal : ℕ → List Token → TreeError → Option Refusal
tree_refusal size all (trees.Memory error) = None
tree_refusal size all trees.NoTable = at faults.NoTable size
tree_refusal size all (trees.StrayText index) = at faults.StrayText (token_place all index)
tree_refusal size all (trees.Misplaced index) = at faults.MisplacedTag (token_place all index)
tree_refusal size all trees.Unclosed = at faults.UnclosedTable size
tree_refusal size all (trees.TooDeep index) = Some (refusals.Limit limits.Depth (MAX_DEPTH + 1))
tree_refusal size all (trees.TooManyTables index) = Some (refusals.Limit limits.Tables (MAX_TABLES + 1))

-- a table without a grid
abbrev pub grid_refusal : ℕ → GridError → Option Refusal
grid_refusal table (grids.Memory error) = None
grid_refusal table (grids.TooManyCells count) = Some (refusals.Limit limits.Cells count)
grid_refusal table (grids.Overlap first second x y) = Some (refusals.Overlap table y x)
grid_refusal table (grids.TooManyColumns count) = Some (refusals.Limit limits.Columns count)
grid_refusal table (grids.TooManyRows count) = Some (refusals.Limit limits.Rows count)

-- a tree that becomes no table
abbrev pub form_refusal : FormError → Option Refusal
form_refusal (forms.Memory error) = None
form_refusal (forms.Grid number cause) = grid_refusal number cause

-- records of a CSV file that are no table
abbrev pub csv_refusal : CsvError → Option Refusal
csv_refusal (records.Memory error) = None
csv_refusal (records.Uneven record_number) = Some (refusals.BadRecord record_faults.Uneven record_number)
csv_refusal (records.NotUtf8 record_number) = Some (refusals.BadRecord record_faults.NotUtf8 record_number)
csv_refusal (records.BadCharacter record_number) = Some (refusals.BadRecord record_faults.BadCharacter record_number)
csv_refusal (records.TooManyCells count) = Some (refusals.Limit limits.Cells count)
csv_refusal (records.TooManyColumns count) = Some (refusals.Limit limits.Columns count)
csv_refusal (records.TooManyRows count) = Some (refusals.Limit limits.Rows count)
