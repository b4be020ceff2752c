-- How much records hold. No public clause cites this file.
use Rattle.std.specs.Prelude.{ℕ, ◌+◌, ◌<◌, ◌≤◌, List, length, sum_by}
use Rattle.std.specs.List.{All}
use Rattle.tl_base.specs.declared.limits.TheConstants.{MAX_FILE_BYTES}
use Rattle.tl_columns.specs.Records.{Fields}

-- the bytes of the fields of a record, and 1 for each field
abbrev pub record_size : Fields → ℕ
record_size fields = sum_by (λ field. length field + 1) fields

-- each record has a field, and all hold no more than a file: the last field may have no comma and no line end after it
pub record AreOfFile (all : List Fields) : Type 0 where
  pub some : All (λ fields. 0 < length fields) all
  pub size : sum_by record_size all ≤ MAX_FILE_BYTES + 1
