use Rattle.std.proofs.Common.{◌≡◌, ◌∙◌, get_or, take, sym, ap, subst, arith}
use Rattle.tl_problem.specs.declared.placed.Placed.{Placed}
use Rattle.tl_problem.specs.Problem.{ProblemModel}
use Rattle.tl_form.specs.Expected.{IsDue}
use Rattle.tl_form.specs.Valid.{HasPlacement}
use Rattle.tl_form.specs.Nested.{IsProblemFor}
use Rattle.tl_form.specs.Subjects.{meant}
use Rattle.tl_form.proofs.DueLaws.{may_be_due}
use Rattle.tl_form.proofs.Placing.{laid_at, unlaid, found_none, found_some}
use Rattle.tl_table.proofs.TableNumbers.{sound_among}
use Rattle.tl_verify.proofs.Judging.{due_wide, judged_laid, judged_unlaid, on_page}
use Rattle.tl_verify.proofs.sections.judge.Goals as goal

pub table_of-table-requires-clause-from : goal.table_of-table-requires-clause-from
table_of-table-requires-clause-from c =
    let document = meant c.args.subject.now in
    let before = take c.args.number c.args.certificate.now.sections in
    let section = c.index-sections-number.result in
    let is : get_or c.args.certificate.now.sections c.args.number section ≡ section =
    sym (c.index-sections-number.is ∙ ap (λ xs. get_or xs c.args.number section) c.as_slice-sections.ensures) in
    let due : IsDue document before section =
    subst (IsDue document before) is (c.requires.order c.args.number section (omega arith)) in
    (may_be_due document before (record { table = section.table; width = section.width })
    (omega (arith, c.requires.subject.document.numbers)) due).from

pub table_of-table-requires-clause-upto : goal.table_of-table-requires-clause-upto
table_of-table-requires-clause-upto c =
    let document = meant c.args.subject.now in
    let before = take c.args.number c.args.certificate.now.sections in
    let section = c.index-sections-number.result in
    let is : get_or c.args.certificate.now.sections c.args.number section ≡ section =
    sym (c.index-sections-number.is ∙ ap (λ xs. get_or xs c.args.number section) c.as_slice-sections.ensures) in
    let due : IsDue document before section =
    subst (IsDue document before) is (c.requires.order c.args.number section (omega arith)) in
    omega (
      arith,
      (may_be_due document before (record { table = section.table; width = section.width })
          (omega (arith, c.requires.subject.document.numbers)) due).upto,
      c.requires.subject.document.numbers,
    )

pub lay-requires-clause-sound : goal.lay-requires-clause-sound
lay-requires-clause-sound c =
    sound_among c.args.subject.now.table.now c.table_of-table.result.now c.requires.subject.sound c.table_of-table.ensures.among

pub lay-requires-clause-wide : goal.lay-requires-clause-wide
lay-requires-clause-wide c = λ least least_is.
    let document = meant c.args.subject.now in
    let before = take c.args.number c.args.certificate.now.sections in
    let section = c.index-sections-number.result in
    let is : get_or c.args.certificate.now.sections c.args.number section ≡ section =
    sym (c.index-sections-number.is ∙ ap (λ xs. get_or xs c.args.number section) c.as_slice-sections.ensures) in
    let due : IsDue document before section =
    subst (IsDue document before) is (c.requires.order c.args.number section (omega arith)) in
    let on = on_page document c.args.budget c.args.certificate.now c.args.subject.now.table.now c.args.subject.now.style
    c.args.subject.now.page c.requires.subject.sound c.requires.subject.document c.requires.subject.narrow c.requires.start.claim
    c.requires.start.by_sections in
    due_wide document before (record { table = section.table; width = section.width }) c.table_of-table.result.now on due
    c.table_of-table.ensures least least_is

pub returns-in_default : goal.returns-in_default
returns-in_default c =
    let document = meant c.args.subject.now in
    let before = take c.args.number c.args.certificate.now.sections in
    let section = c.index-sections-number.result in
    let is : get_or c.args.certificate.now.sections c.args.number section ≡ section =
    sym (c.index-sections-number.is ∙ ap (λ xs. get_or xs c.args.number section) c.as_slice-sections.ensures) in
    let due : IsDue document before section =
    subst (IsDue document before) is (c.requires.order c.args.number section (omega arith)) in
    let one = c.table_of-table.result.now in
    let none = found_none c.in_ok-laid.field-0
    ((problem : ProblemModel) (placed : Placed) → IsProblemFor one document.style section.width
    (take c.args.number c.as_slice-sections.result.now) problem →
    HasPlacement section problem placed → ⊥)
    (λ laid. IsProblemFor one document.style section.width (take c.args.number c.as_slice-sections.result.now) laid.problem
    × HasPlacement section laid.problem laid.placed) c.in_default.is c.in_ok-laid.ensures in
    let unplaced = subst (λ xs. (problem : ProblemModel) (placed : Placed) →
    IsProblemFor one document.style section.width (take c.args.number xs) problem →
    HasPlacement section problem placed → ⊥) c.as_slice-sections.ensures none in
    judged_unlaid document c.args.budget c.args.certificate.now c.args.number c.requires.there section is due
    (unlaid document c.requires.subject.sound before section one c.table_of-table.ensures unplaced)

pub returns : goal.returns
returns c =
    let document = meant c.args.subject.now in
    let before = take c.args.number c.args.certificate.now.sections in
    let section = c.index-sections-number.result in
    let is : get_or c.args.certificate.now.sections c.args.number section ≡ section =
    sym (c.index-sections-number.is ∙ ap (λ xs. get_or xs c.args.number section) c.as_slice-sections.ensures) in
    let due : IsDue document before section =
    subst (IsDue document before) is (c.requires.order c.args.number section (omega arith)) in
    let one = c.table_of-table.result.now in
    let both = found_some c.in_ok-laid.field-0 c.in-Some.laid
    ((problem : ProblemModel) (placed : Placed) → IsProblemFor one document.style section.width
    (take c.args.number c.as_slice-sections.result.now) problem →
    HasPlacement section problem placed → ⊥)
    (λ laid. IsProblemFor one document.style section.width (take c.args.number c.as_slice-sections.result.now) laid.problem
    × HasPlacement section laid.problem laid.placed) c.in-Some.is c.in_ok-laid.ensures in
    let of = subst (λ xs. IsProblemFor one document.style section.width (take c.args.number xs) c.in-Some.laid.problem)
    c.as_slice-sections.ensures both.0 in
    judged_laid document c.args.budget c.args.certificate.now c.args.number c.requires.there section is due
    c.in-Some.laid.problem
    (laid_at document c.requires.subject.sound before section one c.table_of-table.ensures c.in-Some.laid.problem
    c.in-Some.laid.placed of both.1) c.check.result c.check.ensures.traced c.check.ensures.logged c.check.ensures.wrong
