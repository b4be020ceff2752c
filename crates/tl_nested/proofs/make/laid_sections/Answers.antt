use Rattle.std.proofs.Common.{subst}
use Rattle.std.proofs.lemmas.Result.{IfOk-weaker}
use Rattle.tl_nested.specs.declared.searching.LaidSections.{LaidSections}
use Rattle.tl_nested.specs.Searched.{AreSectionsOf}
use Rattle.tl_nested.proofs.Made.{sections_more}
use Rattle.tl_nested.proofs.make.laid_sections.Goals as goal

pub returns-clause-expected : goal.returns-clause-expected
returns-clause-expected g c = IfOk-weaker c.sections_by.result _
    (λ (laid : LaidSections). AreSectionsOf (λ problem outcome. g.M.Make.besides c.args.maker.now problem c.args.budget outcome)
    c.args.subject.now.table.now c.args.subject.now.style c.args.subject.now.page c.args.budget laid.sections)
    (λ laid. sections_more _ (λ problem outcome. g.M.Make.besides c.args.maker.now problem c.args.budget outcome)
    (λ problem outcome is. subst (λ p. g.M.Make.besides c.args.maker.now p c.args.budget outcome) is.argument_is is.call.1)
    c.args.subject.now.table.now c.args.subject.now.style c.args.subject.now.page c.args.budget laid.sections) c.sections_by.ensures.expected
