-- The least width is that of the document's own table.
use Rattle.std.proofs.Common.{IfSome, ap, ◌∙◌, sym, subst}
use Rattle.tl_base.specs.declared.style.Style.{Style}
use Rattle.tl_table.specs.declared.cell.Table.{Table}
use Rattle.tl_table.specs.Least.{IsLeastWidth}
use Rattle.tl_table.proofs.LinkLemmas.{IsLeastWidth-unique}
use Rattle.tl_narrow.specs.Trials.{first_least}
use Rattle.tl_narrow.specs.inner.Trials.{IsChainBelow}
use Rattle.tl_narrow.proofs.Beginning.{begun}
use Rattle.tl_narrow.proofs.Certifying.{own_first}
use Rattle.tl_narrow.proofs.trials.begin.Goals as goal

pub chain_below-requires-clause-own : goal.chain_below-requires-clause-own
chain_below-requires-clause-own c =
    let of = c.in_ok-subject.ensures.is in
    let subject = c.in_ok-subject.subject in
    subst (λ (table : Table). IsLeastWidth table subject.style c.index-own.result.now) (sym of.same)
    (subst (λ (style : Style). IsLeastWidth c.args.table.now style c.index-own.result.now) (sym of.drawn)
    (own_first c.args.table.now c.args.style c.args.most subject c.index-own.result.now of c.index-own.ensures))

pub returns-clause-known : goal.returns-clause-known
returns-clause-known c = λ height low.
    let of = c.in_ok-subject.ensures.is in
    let subject = c.in_ok-subject.subject in
    let own = c.index-own.result.now in
    let least = c.least_of-least.result in
    let known = c.least_of-least.ensures in
    begun c.args.table.now c.args.style height c.args.most c.args.budget own least c.width_of.result c.args.kept
    c.in_ok-less.less c.requires.some
    (own_first c.args.table.now c.args.style c.args.most subject own of c.index-own.ensures)
    known.some known.within known.wide known.few low c.width_of.ensures c.in_ok-less.ensures.none
    (subst (λ (table : Table). IfSome c.in_ok-less.less (IsChainBelow table c.args.style c.args.budget least)) of.same
    (subst (λ (style : Style). IfSome c.in_ok-less.less (IsChainBelow subject.table.now style c.args.budget least)) of.drawn
    c.in_ok-less.ensures.some))

pub returns-clause-least : goal.returns-clause-least
returns-clause-least c = λ own is.
    let same = IsLeastWidth-unique c.args.table.now c.args.style c.index-own.result.now own
    (own_first c.args.table.now c.args.style c.args.most c.in_ok-subject.subject c.index-own.result.now
    c.in_ok-subject.ensures.is c.index-own.ensures) is in
    c.least_of-least.ensures.is ∙ ap (first_least c.args.most) same
