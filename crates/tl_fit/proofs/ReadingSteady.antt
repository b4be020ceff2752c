-- Two numbers of columns break the table of a file alike where no unit of it is of a width between them.
use Rattle.std.proofs.Common.{ℕ, ◌<◌, ◌≤◌, List, inr}
use Rattle.tl_base.specs.declared.breaking.Breaking.TheVariants.{Wider}
use Rattle.tl_text.specs.Widest.{widest_within}
use Rattle.tl_table.specs.declared.cell.Table.{Table}
use Rattle.tl_columns.specs.Records.{csv_records}
use Rattle.tl_read.specs.declared.source.Source.{Source}
use Rattle.tl_read.specs.declared.source.Source.TheVariants as sources
use Rattle.tl_read.specs.Reading.{IsTableOfFile, SpellsWithinLimits, with_breaking}
use Rattle.tl_read.proofs.Readings.{table_within}
use Rattle.tl_fit.specs.Fit.{IsTableWith}
use Rattle.tl_fit.specs.Units.{units_in_table}
use Rattle.tl_fit.proofs.BecomingSteady.{becomes_steady}
use Rattle.tl_fit.proofs.RecordsSteady.{records_steady}

module _ (less most : ℕ) (table : Table)
    (wide_below : widest_within most (units_in_table table) ≤ less) (some : 0 < less) (below : less ≤ most) where
  -- the tokens and the tree are the same with both numbers
  html_steady : (bytes : List ℕ) → SpellsWithinLimits bytes (Wider most) table → SpellsWithinLimits bytes (Wider less) table
  html_steady bytes is = record {
    spells = record {
      tokens = is.spells.tokens;
      cut = is.spells.cut;
      node = is.spells.node;
      read = is.spells.read;
      formed = becomes_steady is.spells.node less most table is.spells.formed wide_below some below;
    };
    within = is.within;
  }

  file_steady : (source : Source) (bytes : List ℕ) → IsTableOfFile (with_breaking (Wider most) source) bytes table →
      IsTableOfFile (with_breaking (Wider less) source) bytes table
  file_steady (sources.Html breaking) bytes is = html_steady bytes is
  file_steady (sources.Csv head floors breaking) bytes is =
      records_steady (csv_records bytes) head floors less most table is wide_below some below

-- where no unit of the table of a file is of a width between the two numbers, it is its table with the lesser
-- number too
pub reading_steady : (source : Source) (bytes : List ℕ) (less most : ℕ) (table : Table) →
    IsTableWith (Wider most) source bytes table → widest_within most (units_in_table table) ≤ less → 0 < less →
    less ≤ most → IsTableWith (Wider less) source bytes table
reading_steady source bytes less most table is wide_below some below =
    let read = table_within (with_breaking (Wider most) source) bytes table is in
    inr (read.0, file_steady less most table wide_below some below source bytes read.1)
