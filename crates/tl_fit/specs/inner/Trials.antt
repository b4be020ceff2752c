-- What one breaking comes to.
use Rattle.std.specs.Prelude.{◌≡◌, ℕ, List}
use Rattle.tl_base.specs.declared.style.Style.{Style}
use Rattle.tl_text.specs.Widest.{widest_within}
use Rattle.tl_table.specs.declared.cell.Table.{Table}
use Rattle.tl_table.specs.Least.{IsLeastWidth}
use Rattle.tl_read.specs.declared.refusal.Refusal.{Refusal}
use Rattle.tl_read.specs.declared.source.Source.{Source}
use Rattle.tl_read.specs.declared.reading.Reading.TheVariants as readings
use Rattle.tl_read.specs.Reading.{IsReading}
use Rattle.tl_fit.specs.declared.fitting.Trial.{Trial}
use Rattle.tl_fit.specs.Units.{units_in_table}

-- the bytes are a table of that least width, whose widest unit of at most `most` columns is so wide
abbrev pub IsTrial : Source → Style → ℕ → List ℕ → Trial → Type 0
IsTrial source style most bytes trial =
    (table : Table) × IsReading source bytes (readings.Table table) × IsLeastWidth table style trial.least
    × (trial.widest ≡ widest_within most (units_in_table table))

-- the bytes are not refused
abbrev pub IsNeverRefused : Source → List ℕ → Type 0
IsNeverRefused source bytes = (refusal : Refusal) → IsReading source bytes (readings.Refused refusal) → ⊥

-- the bytes are refused, and are no table
abbrev pub IsNoTable : Source → List ℕ → Type 0
IsNoTable source bytes =
    ((refusal : Refusal) × IsReading source bytes (readings.Refused refusal))
    × ((table : Table) → IsReading source bytes (readings.Table table) → ⊥)
