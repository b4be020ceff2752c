-- Why records are no table: the first record with which something is wrong counts, and of what is wrong with it the first
-- in the order below; where nothing is wrong with any record, the first limit that is passed. So records have one result
-- beside out of memory: their table, or one error.
use Rattle.std.specs.Prelude.{◌≡◌, ◌≢◌, ◌⊎◌, ◌<◌, ◌≤◌, ℕ, Bool, true, false, List, length, take, slice_get, IsSomeAnd, IsUtf8}
use Rattle.std.specs.List.{All, Any, list_any}
use Rattle.std.specs.Str.{chars}
use Rattle.tl_base.specs.declared.limits.TheConstants.{MAX_CELLS, MAX_COLUMNS, MAX_ROWS}
use Rattle.tl_token.specs.Characters.{is_control}
use Rattle.tl_columns.specs.declared.error.CsvError.{CsvError}
use Rattle.tl_columns.specs.declared.error.CsvError.TheVariants.{Uneven, NotUtf8, BadCharacter}
use Rattle.tl_columns.specs.declared.error.CsvError.TheVariants.{TooManyCells, TooManyColumns, TooManyRows}
use Rattle.tl_columns.specs.Records.{Fields, column_count, field_count}

-- the field has a control character that no text of a table has
abbrev pub has_control : List ℕ → Bool
has_control field = list_any is_control (chars field)

-- nothing is wrong with a record in a table of so many columns: it has a field for each, and each field is text
pub record IsWellFormed (columns : ℕ) (fields : Fields) : Type 0 where
  pub even : length fields ≡ columns
  pub utf8 : All IsUtf8 fields
  pub clean : All (λ field. has_control field ≡ false) fields

-- this is wrong with the record of that number in a table of so many columns, and nothing that comes before it in the order
abbrev pub IsFault : ℕ → ℕ → Fields → CsvError → Type 0
IsFault columns number fields (Uneven at) = (at ≡ number) × (length fields ≢ columns)
IsFault columns number fields (NotUtf8 at) = (at ≡ number) × (length fields ≡ columns) × Any (λ field. ¬ (IsUtf8 field)) fields
IsFault columns number fields (BadCharacter at) = (at ≡ number) × (length fields ≡ columns) × All IsUtf8 fields
    × Any (λ field. has_control field ≡ true) fields
IsFault columns number fields _ = ⊥

-- nothing is wrong with any record
abbrev pub AreWellFormed : List Fields → Type 0
AreWellFormed all = All (IsWellFormed (column_count all)) all

-- this is wrong with a record, and nothing is wrong with those before it
pub record IsFirstFault (all : List Fields) (error : CsvError) : Type 0 where
  pub number : ℕ
  pub found : IsSomeAnd (slice_get all number) (λ fields. IsFault (column_count all) number fields error)
  pub before : All (IsWellFormed (column_count all)) (take number all)

-- the records are within the limits of a table: each field is a cell, and each record a row
pub record AreWithinLimits (all : List Fields) : Type 0 where
  pub few_cells : field_count all ≤ MAX_CELLS
  pub few_columns : column_count all ≤ MAX_COLUMNS
  pub few_rows : length all ≤ MAX_ROWS

-- so many are counted, more than the limit, and the limits that come before it in the order are kept
abbrev pub PassesLimit : List Fields → CsvError → Type 0
PassesLimit all (TooManyCells count) = (count ≡ field_count all) × (MAX_CELLS < count)
PassesLimit all (TooManyColumns count) = (field_count all ≤ MAX_CELLS) × (count ≡ column_count all) × (MAX_COLUMNS < count)
PassesLimit all (TooManyRows count) = (field_count all ≤ MAX_CELLS) × (column_count all ≤ MAX_COLUMNS) × (count ≡ length all)
    × (MAX_ROWS < count)
PassesLimit all _ = ⊥

-- the error is why the records are no table; out of memory is no reason
abbrev pub IsCsvRefused : List Fields → CsvError → Type 0
IsCsvRefused all error = IsFirstFault all error ⊎ (AreWellFormed all × PassesLimit all error)
