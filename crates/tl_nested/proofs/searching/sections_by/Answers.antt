use Rattle.std.proofs.Common.{◌≡◌, ◌∙◌, Some, None, option_map, ap, refl, subst, sym}
use Rattle.tl_form.specs.Expected.{next_due}
use Rattle.tl_form.specs.Named.{IsPlacementAt}
use Rattle.tl_form.specs.Subjects.{due_of, meant}
use Rattle.tl_nested.specs.Searched.{IsSearched}
use Rattle.tl_nested.specs.Solved.{GivesOutcome}
use Rattle.tl_nested.proofs.InOrder.{begun_so_far}
use Rattle.tl_nested.proofs.Made.{all_so_far, due_may, last_placement, left_after, so_far_after}
use Rattle.tl_nested.proofs.searching.sections_by.Goals as goal

pub nested_sections-requires-clause-wide : goal.nested_sections-requires-clause-wide
nested_sections-requires-clause-wide g c κs within = c.requires.wide

pub loop-sections-init : goal.loop-sections-init
loop-sections-init g c =
    let subject = c.args.subject.now in
    begun_so_far subject
    c.requires.subject
    c.requires.wide
    c.sections_give_sound_problems.ensures (GivesOutcome g.F.Fn c.args.solve.now c.args.budget) c.args.budget
    c.in_ok-found.found c.begin-sections.result.sections (due_of c.begin-sections.result.due) c.in_ok-found.ensures
    c.begin-sections.ensures

pub search-requires-clause-wide : goal.search-requires-clause-wide
search-requires-clause-wide g c = c.requires.wide

pub next_due-requires-clause-from : goal.next_due-requires-clause-from
next_due-requires-clause-from g c =
    let subject = c.args.subject.now in
    let given = GivesOutcome g.F.Fn c.args.solve.now c.args.budget in
    (due_may given subject
    c.requires.subject
    c.requires.wide
    c.args.budget c.loop-sections.sections (due_of c.loop-sections.due) c.loop-sections.invariant).from

pub loop-sections-smaller : goal.loop-sections-smaller
loop-sections-smaller g c =
    let subject = c.args.subject.now in
    let given = GivesOutcome g.F.Fn c.args.solve.now c.args.budget in
    let found = c.in_ok-section.field-0 in
    let one = subst (λ all. IsSearched given (meant subject) c.args.budget all found.section)
    c.as_slice.ensures c.in_ok-section.ensures.searched in
    let next_is : Some (due_of c.in-Some.next) ≡ next_due (meant subject) c.loop-sections.due.table found.placed.width =
    sym (ap (option_map due_of) c.in-Some.is) ∙ c.next_due.ensures in
    left_after given subject
    c.requires.subject
    c.requires.wide
    c.args.budget c.loop-sections.sections (due_of c.loop-sections.due) c.loop-sections.invariant
    found.section found.placed.width one c.in_ok-section.ensures.width
    (Some (due_of c.in-Some.next)) next_is

pub loop-sections-preserved : goal.loop-sections-preserved
loop-sections-preserved g c =
    let subject = c.args.subject.now in
    let given = GivesOutcome g.F.Fn c.args.solve.now c.args.budget in
    let found = c.in_ok-section.field-0 in
    let one = subst (λ all. IsSearched given (meant subject) c.args.budget all found.section)
    c.as_slice.ensures c.in_ok-section.ensures.searched in
    let next_is : Some (due_of c.in-Some.next) ≡ next_due (meant subject) c.loop-sections.due.table found.placed.width =
    sym (ap (option_map due_of) c.in-Some.is) ∙ c.next_due.ensures in
    so_far_after given subject
    c.requires.subject
    c.requires.wide
    c.args.budget c.loop-sections.sections (due_of c.loop-sections.due) c.loop-sections.invariant
    found.section found.placed.width one c.in_ok-section.ensures.width
    c.push.new.self (Some (due_of c.in-Some.next)) c.in_ok-section.ensures.writable c.in_ok-push.ensures.ok next_is

pub returns-in-None-clause-expected : goal.returns-in-None-clause-expected
returns-in-None-clause-expected g c =
    let subject = c.args.subject.now in
    let given = GivesOutcome g.F.Fn c.args.solve.now c.args.budget in
    let found = c.in_ok-section.field-0 in
    let one = subst (λ all. IsSearched given (meant subject) c.args.budget all found.section)
    c.as_slice.ensures c.in_ok-section.ensures.searched in
    let next_is : None ≡ next_due (meant subject) c.loop-sections.due.table found.placed.width =
    sym (ap (option_map due_of) c.in-None.is) ∙ c.next_due.ensures in
    let all = so_far_after given subject
    c.requires.subject
    c.requires.wide
    c.args.budget c.loop-sections.sections (due_of c.loop-sections.due) c.loop-sections.invariant
    found.section found.placed.width one c.in_ok-section.ensures.width
    c.push.new.self None c.in_ok-section.ensures.writable c.in_ok-push.ensures.ok next_is in
    record { document = meant subject; of = c.requires.subject.document; each = all.each; none = all.due }

pub returns-in-None-clause-writable : goal.returns-in-None-clause-writable
returns-in-None-clause-writable g c =
    let subject = c.args.subject.now in
    let given = GivesOutcome g.F.Fn c.args.solve.now c.args.budget in
    let found = c.in_ok-section.field-0 in
    let one = subst (λ all. IsSearched given (meant subject) c.args.budget all found.section)
    c.as_slice.ensures c.in_ok-section.ensures.searched in
    let next_is : None ≡ next_due (meant subject) c.loop-sections.due.table found.placed.width =
    sym (ap (option_map due_of) c.in-None.is) ∙ c.next_due.ensures in
    all_so_far given subject c.args.budget c.push.new.self None
    c.requires.subject
    refl
    (so_far_after given subject
    c.requires.subject
    c.requires.wide
    c.args.budget c.loop-sections.sections (due_of c.loop-sections.due) c.loop-sections.invariant
    found.section found.placed.width one c.in_ok-section.ensures.width
    c.push.new.self None c.in_ok-section.ensures.writable c.in_ok-push.ensures.ok next_is)

pub returns-in-None-clause-placed : goal.returns-in-None-clause-placed
returns-in-None-clause-placed g c =
    let subject = c.args.subject.now in
    let found = c.in_ok-section.field-0 in (
      meant subject,
      c.requires.subject.document,
      last_placement (meant subject) c.loop-sections.sections c.push.new.self found.section found.placed
          (subst (λ all. IsPlacementAt (meant subject) all found.section found.placed) c.as_slice.ensures
          c.in_ok-section.ensures.placed)
          c.in_ok-push.ensures.ok,
    )
