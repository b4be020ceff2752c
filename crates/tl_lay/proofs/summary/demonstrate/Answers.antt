-- The text of the number is read as a table that fits the page.
use Rattle.std.proofs.Common.{Option, sym, subst, ◌∙◌, arith}
use Rattle.std.specs.Prelude.{IsSome, IsSomeAnd}
use Rattle.tl_table.specs.declared.cell.Table.{Table}
use Rattle.tl_read.specs.Reading.{table_in}
use Rattle.tl_lay.proofs.Summing.{IsDemoTable, demo_read, demonstrated, some_there, sound_table}
use Rattle.tl_lay.proofs.summary.demonstrate.Given as given
use Rattle.tl_lay.proofs.summary.demonstrate.Goals as goal

pub unwrap-table-requires : goal.unwrap-table-requires
unwrap-table-requires g c = subst (λ (o : Option Table). IsSome o) (sym c.table.ensures)
    (some_there (IsDemoTable c.args.number) (table_in c.in_ok-reading.reading)
    (demo_read c.demo_fits.ensures c.args.number c.as_slice.result.now c.in_ok-reading.reading
    (omega (arith, c.ranges.number.fits))
    (c.as_slice.ensures ∙ c.in_ok-text.ensures) c.in_ok-reading.ensures.is c.in_ok-reading.ensures.each))

-- the table that is laid out
demo_table : (g : given.Over) (c : goal.After-table-1 g) → IsDemoTable c.args.number c.unwrap-table.result
demo_table g c = subst (λ (o : Option Table). IsSomeAnd o (IsDemoTable c.args.number))
    (sym c.table.ensures ∙ c.unwrap-table.ensures)
    (demo_read c.demo_fits.ensures c.args.number c.as_slice.result.now c.in_ok-reading.reading
    (omega (arith, c.ranges.number.fits))
    (c.as_slice.ensures ∙ c.in_ok-text.ensures) c.in_ok-reading.ensures.is c.in_ok-reading.ensures.each)

pub summary_of-requires-clause-sound : goal.summary_of-requires-clause-sound
summary_of-requires-clause-sound g c = λ lifetimes outlives.
    (sound_table c.in_ok-reading.reading c.unwrap-table.result (sym c.table.ensures ∙ c.unwrap-table.ensures)
    c.in_ok-reading.ensures.sound).0

pub summary_of-requires-clause-cells : goal.summary_of-requires-clause-cells
summary_of-requires-clause-cells g c = λ lifetimes outlives.
    (sound_table c.in_ok-reading.reading c.unwrap-table.result (sym c.table.ensures ∙ c.unwrap-table.ensures)
    c.in_ok-reading.ensures.sound).1

pub summary_of-requires-clause-wide : goal.summary_of-requires-clause-wide
summary_of-requires-clause-wide g c = λ lifetimes outlives. (demo_table g c).1

pub returns : goal.returns
returns g c =
    let read = subst (λ (o : Option Table). IsSomeAnd o (IsDemoTable c.args.number))
    (sym c.table.ensures ∙ c.unwrap-table.ensures)
    (demo_read c.demo_fits.ensures c.args.number c.as_slice.result.now c.in_ok-reading.reading
    (omega (arith, c.ranges.number.fits))
    (c.as_slice.ensures ∙ c.in_ok-text.ensures) c.in_ok-reading.ensures.is c.in_ok-reading.ensures.each) in
    demonstrated c.args.number c.unwrap-table.result c.summary_of.result read.0 c.summary_of.ensures
