-- A file is at most one table, but for where in memory its nested tables lie.
use Rattle.std.proofs.Common.{ℕ, ◌≤◌, Bool, List, length, subst, Ok}
use Rattle.tl_base.specs.declared.breaking.Breaking.{Breaking}
use Rattle.tl_base.specs.declared.limits.TheConstants.{MAX_FILE_BYTES}
use Rattle.tl_table.specs.declared.cell.Table.{Table}
use Rattle.tl_table.specs.Laws.{FileSpellsOneTable}
use Rattle.tl_table.specs.Same.{AreSame}
use Rattle.tl_columns.specs.Columns.{IsCsvTable}
use Rattle.tl_columns.specs.Records.{csv_records}
use Rattle.tl_columns.proofs.CsvLists.{of_file}
use Rattle.tl_columns.proofs.OneTable.{each_table}
use Rattle.tl_columns.proofs.Soundness.{csv_itself}
use Rattle.tl_read.specs.declared.source.Source.{Source}
use Rattle.tl_read.specs.declared.source.Source.TheVariants as sources
use Rattle.tl_read.specs.declared.reading.Reading.TheVariants as readings
use Rattle.tl_read.specs.Reading.{IsReading, IsTableOfFile}
use Rattle.tl_read.proofs.Readings.{table_within}

-- the records of a file have one table
one_of_records : (head : Bool) (floors : List ℕ) (breaking : Breaking) (bytes : List ℕ) (one other : Table) →
    length bytes ≤ MAX_FILE_BYTES → IsCsvTable (csv_records bytes) head floors breaking one →
    IsCsvTable (csv_records bytes) head floors breaking other → AreSame one other
one_of_records head floors breaking bytes one other short first second =
    subst (AreSame one) (each_table head floors breaking (csv_records bytes) (Ok one) first tt other second)
    (csv_itself (csv_records bytes) head floors breaking one (of_file bytes short) first)

-- bytes within the limit of a file are one table
one_of_file : FileSpellsOneTable → (source : Source) (bytes : List ℕ) (one other : Table) →
    length bytes ≤ MAX_FILE_BYTES → IsTableOfFile source bytes one → IsTableOfFile source bytes other → AreSame one other
one_of_file spells_one (sources.Html breaking) bytes one other short first second =
    spells_one bytes breaking one other first.spells second.spells
one_of_file spells_one (sources.Csv head floors breaking) bytes one other short first second =
    one_of_records head floors breaking bytes one other short first second

-- the bytes of a file are one table
pub one_table : FileSpellsOneTable → (source : Source) (bytes : List ℕ) (one other : Table) →
    IsReading source bytes (readings.Table one) → IsReading source bytes (readings.Table other) → AreSame one other
one_table spells_one source bytes one other first second =
    let read = table_within source bytes one first in
    one_of_file spells_one source bytes one other read.0 read.1 (table_within source bytes other second).1
