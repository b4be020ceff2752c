-- Whether the bytes of a file are refused, and for what, does not stand on the breaking.
use Rattle.std.proofs.Common.{List, ℕ}
use Rattle.tl_base.specs.declared.breaking.Breaking.{Breaking}
use Rattle.tl_read.specs.declared.refusal.Refusal.{Refusal}
use Rattle.tl_read.specs.declared.source.Source.{Source}
use Rattle.tl_read.specs.declared.source.Source.TheVariants as sources
use Rattle.tl_read.specs.declared.reading.Reading.TheVariants as readings
use Rattle.tl_read.specs.Reading.{IsReading, with_breaking}

pub refused_with : (source : Source) (one other : Breaking) (bytes : List ℕ) (refusal : Refusal) →
    IsReading (with_breaking one source) bytes (readings.Refused refusal) →
    IsReading (with_breaking other source) bytes (readings.Refused refusal)
refused_with (sources.Html breaking) one other bytes refusal is = is
refused_with (sources.Csv head floors breaking) one other bytes refusal is = is
