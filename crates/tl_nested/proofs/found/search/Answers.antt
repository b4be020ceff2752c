use Rattle.std.proofs.Common.{◌≡◌, refl, sym, subst}
use Rattle.std.proofs.lemmas.Result.{IfOk-weaker}
use Rattle.tl_cert.specs.Text.{IsSectionWritable}
use Rattle.tl_form.specs.Expected.{placed_width}
use Rattle.tl_form.specs.Named.{IsPlacementAt}
use Rattle.tl_form.specs.Subjects.{due_of, meant}
use Rattle.tl_nested.specs.declared.found.Found.{Found}
use Rattle.tl_nested.specs.Searched.{IsSearched}
use Rattle.tl_nested.specs.Solved.{GivesOutcome}
use Rattle.tl_nested.specs.inner.Found.{found_of, section_of}
use Rattle.tl_nested.proofs.Made.{placed_as, placement, searched, solved_by, writable}
use Rattle.tl_nested.proofs.found.search.Goals as goal

pub returns-clause-searched : goal.returns-clause-searched
returns-clause-searched g c =
    let outcome = c.in_ok-outcome.outcome in
    let given = GivesOutcome g.F.Fn c.args.solve.now c.args.budget in
    let at = c.in_ok-problem.ensures (section_of (due_of c.args.due) outcome) refl refl in
    let both = solved_by g.F.Fn c.args.solve.now _ _ c.args.budget c.solve.result outcome c.requires.solves at.sound
    c.in_ok-outcome.was c.solve.ensures in
    let P : Found → Type 0 = λ found. IsSearched given (meant c.args.subject.now) c.args.budget c.args.before.now found.section in
    IfOk-weaker c.found_of.result (λ found. found ≡ found_of (due_of c.args.due) outcome) P
    (λ found is. subst P (sym is)
    (searched c.args.subject.now c.requires.subject c.requires.wide c.args.before.now c.args.budget c.requires.good
    (due_of c.args.due) c.requires.next
    outcome c.in_ok-problem.problem at both.0 given both.1)) c.found_of.ensures

pub returns-clause-placed : goal.returns-clause-placed
returns-clause-placed g c =
    let outcome = c.in_ok-outcome.outcome in
    let at = c.in_ok-problem.ensures (section_of (due_of c.args.due) outcome) refl refl in
    let both = solved_by g.F.Fn c.args.solve.now _ _ c.args.budget c.solve.result outcome c.requires.solves at.sound
    c.in_ok-outcome.was c.solve.ensures in
    let P : Found → Type 0 = λ found. IsPlacementAt (meant c.args.subject.now) c.args.before.now found.section found.placed in
    IfOk-weaker c.found_of.result (λ found. found ≡ found_of (due_of c.args.due) outcome) P
    (λ found is. subst P (sym is)
    (placement c.args.subject.now c.requires.subject c.requires.wide c.args.before.now c.args.budget c.requires.good
    (due_of c.args.due) c.requires.next
    outcome c.in_ok-problem.problem at both.0)) c.found_of.ensures

pub returns-clause-width : goal.returns-clause-width
returns-clause-width g c =
    let outcome = c.in_ok-outcome.outcome in
    let at = c.in_ok-problem.ensures (section_of (due_of c.args.due) outcome) refl refl in
    let both = solved_by g.F.Fn c.args.solve.now _ _ c.args.budget c.solve.result outcome c.requires.solves at.sound
    c.in_ok-outcome.was c.solve.ensures in
    let P : Found → Type 0 = λ found. found.placed.width ≡ placed_width c.args.subject.now.style found.section in
    IfOk-weaker c.found_of.result (λ found. found ≡ found_of (due_of c.args.due) outcome) P
    (λ found is. subst P (sym is)
    (placed_as c.args.subject.now c.requires.subject c.requires.wide c.args.before.now c.args.budget c.requires.good
    (due_of c.args.due) c.requires.next
    outcome c.in_ok-problem.problem at both.0)) c.found_of.ensures

pub returns-clause-writable : goal.returns-clause-writable
returns-clause-writable g c =
    let outcome = c.in_ok-outcome.outcome in
    let at = c.in_ok-problem.ensures (section_of (due_of c.args.due) outcome) refl refl in
    let both = solved_by g.F.Fn c.args.solve.now _ _ c.args.budget c.solve.result outcome c.requires.solves at.sound
    c.in_ok-outcome.was c.solve.ensures in
    let P : Found → Type 0 = λ found. IsSectionWritable found.section in
    IfOk-weaker c.found_of.result (λ found. found ≡ found_of (due_of c.args.due) outcome) P
    (λ found is. subst P (sym is)
    (writable c.args.subject.now c.requires.subject c.requires.wide c.args.before.now c.args.budget c.requires.good
    (due_of c.args.due) c.requires.next
    outcome c.in_ok-problem.problem at both.0 c.sections_give_sound_problems.ensures)) c.found_of.ensures
