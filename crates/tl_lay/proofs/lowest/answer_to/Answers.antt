-- The least width is that of the document's own table.
use Rattle.std.proofs.Common.{◌≡◌, sym, subst, arith}
use Rattle.tl_table.specs.declared.cell.Table.{Table}
use Rattle.tl_table.specs.Least.{IsLeastWidth}
use Rattle.tl_table.proofs.LinkLemmas.{IsLeastWidth-unique}
use Rattle.tl_narrow.proofs.Certifying.{own_first}
use Rattle.tl_lay.proofs.lowest.answer_to.Goals as goal

pub too_narrow-requires-clause-least : goal.too_narrow-requires-clause-least
too_narrow-requires-clause-least g c =
    let task = c.args.task.now in
    subst (λ (table : Table). IsLeastWidth table task.style c.index-least.result.now) (sym c.in_ok-subject.ensures.is.same)
    (own_first c.args.given.now.table task.style task.width c.in_ok-subject.subject c.index-least.result.now
    c.in_ok-subject.ensures.is c.index-least.ensures)

pub lowest-requires-clause-wide : goal.lowest-requires-clause-wide
lowest-requires-clause-wide g c = λ lifetimes outlives least is.
    let task = c.args.task.now in
    let own = subst (λ (table : Table). IsLeastWidth table task.style least) c.in_ok-subject.ensures.is.same is in
    let same : least ≡ c.index-least.result.now = IsLeastWidth-unique c.args.given.now.table task.style least c.index-least.result.now
    own
    (own_first c.args.given.now.table task.style task.width c.in_ok-subject.subject c.index-least.result.now
    c.in_ok-subject.ensures.is c.index-least.ensures) in
    omega (arith, same, c.if-least-task.false)
