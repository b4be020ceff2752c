use Rattle.std.proofs.Common.{subst}
use Rattle.tl_read.specs.declared.reading.Reading.TheVariants as readings
use Rattle.tl_read.specs.Reading.{IsReading, AreSameReadings}
use Rattle.tl_fit.proofs.fitting.tried.Goals as goal

pub returns-in_default-clause-none : goal.returns-in_default-clause-none
returns-in_default-clause-none c = (
  (
    c.in_default.field-0,
    subst (IsReading c.args.source c.args.bytes.now) c.in_default.is c.in_ok-table.ensures.is,
  ),
  λ table is.
      subst (λ reading. AreSameReadings reading (readings.Table table)) c.in_default.is
      (c.in_ok-table.ensures.each (readings.Table table) is),
)

pub returns-clause-never : goal.returns-clause-never
returns-clause-never c = λ refusal is.
    subst (λ reading. AreSameReadings reading (readings.Refused refusal)) c.in-Table.is
    (c.in_ok-table.ensures.each (readings.Refused refusal) is)
