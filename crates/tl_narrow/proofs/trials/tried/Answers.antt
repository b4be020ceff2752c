-- The sections of the search, with the claim of the last.
use Rattle.std.proofs.Common.{sym, subst}
use Rattle.tl_cert.specs.declared.certificate.Certificate.{Certificate}
use Rattle.tl_nested.specs.Searched.{AreSectionsOf}
use Rattle.tl_narrow.specs.inner.Trials.{IsTrial}
use Rattle.tl_narrow.proofs.Trying.{is_trial}
use Rattle.tl_narrow.proofs.trials.tried.Goals as goal

pub returns-clause-trial : goal.returns-clause-trial
returns-clause-trial g c =
    subst (IsTrial c.args.table.now c.args.style c.args.width c.args.budget) (sym c.certificate_of.ensures)
    (is_trial (λ problem outcome. g.M.Make.besides c.args.maker.now problem c.args.budget outcome) c.args.table.now c.args.style
    c.args.width c.args.budget c.in_ok-found.found c.in_ok-found.ensures.expected c.in_ok-found.ensures.writable
    c.requires.wide c.requires.sound c.requires.some c.requires.narrow c.requires.cuts c.bounded_is_between.ensures
    c.budget_closes.ensures c.open_spends.ensures c.counts_exist.ensures c.all_counts_rise.ensures)

pub returns-clause-searched : goal.returns-clause-searched
returns-clause-searched g c =
    subst (λ (certificate : Certificate). AreSectionsOf (λ problem outcome. g.M.Make.besides c.args.maker.now problem
    c.args.budget outcome) c.args.table.now c.args.style c.args.width c.args.budget certificate.sections)
    (sym c.certificate_of.ensures) c.in_ok-found.ensures.expected
