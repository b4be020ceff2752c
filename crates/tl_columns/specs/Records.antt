-- The records of a CSV file. They are those that the crate `csv` specifies (`records` of its `specs/Reading`) for a reader
-- with its default marks: commas between fields, double quotes around them, and a line feed, a carriage return or both
-- after a record. No record is a header row, white space stays, and a record may have any number of fields.
use Rattle.std.specs.Prelude.{ℕ, List, [], ◌∷◌, length, sum_by}
use Rattle.csv.specs.Reading.{default_config, records, strip_bom}

-- the fields of a record, each by its bytes
abbrev pub Fields : Type 0
Fields = List (List ℕ)

-- the records of a file, in order; a byte order mark at its start belongs to none
unfoldable pub csv_records : List ℕ → List Fields
csv_records bytes = records default_config (strip_bom bytes)

-- a table has as many columns as the first record has fields, and none where there is no record
abbrev pub column_count : List Fields → ℕ
column_count [] = 0
column_count (first ∷ others) = length first

-- the number of fields of all records
abbrev pub field_count : List Fields → ℕ
field_count all = sum_by length all
