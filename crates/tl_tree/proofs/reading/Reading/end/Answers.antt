use Rattle.std.proofs.Common.{sym, subst}
use Rattle.tl_tree.specs.Tags.{kind_of_end}
use Rattle.tl_tree.specs.inner.Documents.{Reads}
use Rattle.tl_tree.specs.declared.reading.Reading.{Reading}
use Rattle.tl_tree.specs.declared.reading.Reading.TheVariants.{Inside}
use Rattle.tl_tree.proofs.Readings.{reads_inside, end_no_table}
use Rattle.tl_tree.proofs.reading.Reading.end.Goals as goal

pub returns-in_ok-end-in-Inside-clause-ok : goal.returns-in_ok-end-in-Inside-clause-ok
returns-in_ok-end-in-Inside-clause-ok c = λ tables.
    let P : Reading → Type 0 = λ r. Reads r tables (kind_of_end c.args.element)
    (Inside c.in-Inside.outer c.in_ok-end-in-Inside.field-0) in
    subst P (sym c.in-Inside.is) (reads_inside c.in-Inside.outer c.in-Inside.table c.in_ok-end-in-Inside.field-0 tables
    (kind_of_end c.args.element)
    (end_no_table c.args.element) c.in_ok-end-in-Inside.ensures.ok)
