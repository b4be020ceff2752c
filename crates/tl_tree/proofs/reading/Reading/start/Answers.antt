use Rattle.std.proofs.Common.{◌≡◌, false, sym, subst}
use Rattle.tl_tree.specs.Tags.{kind_of_start, is_table_start}
use Rattle.tl_tree.specs.inner.Documents.{Reads}
use Rattle.tl_tree.specs.declared.reading.Reading.{Reading}
use Rattle.tl_tree.specs.declared.reading.Reading.TheVariants.{Inside}
use Rattle.std.proofs.Common.{rules}
use Rattle.tl_token.specs.declared.token.Element.TheVariants.{Table}
use Rattle.tl_tree.proofs.Readings.{reads_inside, start_no_table}
use Rattle.tl_tree.proofs.reading.Reading.start.Goals as goal

pub returns-in_ok-start-in-Inside-clause-ok : goal.returns-in_ok-start-in-Inside-clause-ok
returns-in_ok-start-in-Inside-clause-ok c =
    let P : Reading → Type 0 = λ r. Reads r c.args.tables (kind_of_start c.args.element c.args.spans)
    (Inside c.in-Inside.outer c.in_ok-start-in-Inside.field-0) in
    let differs : c.args.element ≡ Table → ⊥ = search rules in
    let tag : is_table_start (kind_of_start c.args.element c.args.spans) ≡ false =
    start_no_table c.args.element c.args.spans differs in
    subst P (sym c.in-Inside.is) (reads_inside c.in-Inside.outer c.in-Inside.table c.in_ok-start-in-Inside.field-0 c.args.tables
    (kind_of_start c.args.element c.args.spans) tag c.in_ok-start-in-Inside.ensures.ok)
