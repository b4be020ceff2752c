use Rattle.std.proofs.Common.{◌≡◌, sym, ap, ◌∙◌, subst}
use Rattle.std.proofs.lemmas.Result.{IfOk-weaker}
use Rattle.tl_tree.specs.Tags as tags
use Rattle.tl_tree.specs.inner.Documents.{Reads}
use Rattle.tl_tree.specs.declared.reading.Reading.{Reading}
use Rattle.tl_tree.specs.declared.reading.Reading.TheVariants.{Inside}
use Rattle.tl_tree.specs.declared.open.OpenTable.TheVariants.{Start}
use Rattle.tl_tree.proofs.Readings.{reads_first, reads_nested}
use Rattle.tl_tree.proofs.reading.Reading.start_table.Goals as goal

pub returns-in-Before-clause-ok : goal.returns-in-Before-clause-ok
returns-in-Before-clause-ok c =
    let P : Reading → Type 0 = λ r. Reads r c.args.tables tags.table_start (Inside c.new.result (Start c.args.tables)) in
    let fresh : c.args.tables ≡ 0 = rw c.in-Before.is at c.requires.fresh in
    subst P (sym c.in-Before.is) (reads_first c.new.result c.args.tables c.new.ensures.items fresh)

pub returns-in-Flow-clause-ok : goal.returns-in-Flow-clause-ok
returns-in-Flow-clause-ok c =
    let same = c.in-Inside.is ∙ ap (λ t. Inside c.in-Inside.outer t) c.in-Flow.is in
    IfOk-weaker c.nest_table.result _ _ (λ new n.
    let P : Reading → Type 0 = λ r. Reads r c.args.tables tags.table_start new in
    subst P (sym same) (reads_nested c.in-Inside.outer c.in-Flow.holder c.in-Flow.flow c.args.tables new n))
    c.nest_table.ensures.ok
