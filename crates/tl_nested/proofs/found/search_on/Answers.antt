use Rattle.std.proofs.Common.{ap, subst, arith}
use Rattle.tl_problem.specs.Problem.{ProblemModel}
use Rattle.tl_table.specs.Least.{IsLeastWidth}
use Rattle.tl_table.proofs.LinkLemmas.{IsLeastWidth-unique}
use Rattle.tl_table.proofs.TableNumbers.{sound_among}
use Rattle.tl_form.specs.Expected.{least_of}
use Rattle.tl_form.specs.Nested.{IsProblemFor}
use Rattle.tl_form.specs.Subjects.{due_of, meant}
use Rattle.tl_form.proofs.SubjectLemmas.{it_is}
use Rattle.tl_nested.specs.declared.found.Found.{Found}
use Rattle.tl_nested.specs.Solved.{GivesOutcome}
use Rattle.tl_nested.proofs.InOrder.{found_here}
use Rattle.tl_nested.proofs.Made.{solved_by}
use Rattle.tl_nested.proofs.found.search_on.Goals as goal

pub problem_for-requires-clause-sound : goal.problem_for-requires-clause-sound
problem_for-requires-clause-sound g c =
    sound_among c.args.subject.now.table.now c.table_of-table.result.now c.requires.subject.sound c.table_of-table.ensures.among

pub problem_for-requires-clause-wide : goal.problem_for-requires-clause-wide
problem_for-requires-clause-wide g c = λ least is.
    let document = meant c.args.subject.now in
    let one = c.table_of-table.result.now in
    let own = subst (λ n. IsLeastWidth one document.style (least_of document n)) c.table_of-table.ensures.numbered
    (c.requires.subject.document.least one c.table_of-table.ensures.among) in
    omega (
      arith,
      IsLeastWidth-unique one document.style least (least_of document c.args.due.table) is own,
      c.requires.wide,
    )

pub returns-clause-found : goal.returns-clause-found
returns-clause-found g c =
    let document = meant c.args.subject.now in
    let one = c.table_of-table.result.now in
    let outcome = c.in_ok-outcome.outcome in
    let problem = c.in-Some.problem in
    let for_one = it_is ((problem : ProblemModel) → IsProblemFor one document.style c.args.due.width c.args.told.now problem →
    ⊥) c.in_ok-problem.field-0 problem
    (IsProblemFor one document.style c.args.due.width c.args.told.now) c.in-Some.is c.in_ok-problem.ensures in
    let both = solved_by g.F.Fn c.args.solve.now _ _ c.args.budget c.solve.result outcome c.requires.solves for_one.sound
    c.in_ok-outcome.was c.solve.ensures in
    found_here (GivesOutcome g.F.Fn c.args.solve.now c.args.budget) document c.args.budget c.args.told.now (due_of c.args.due) one
    problem outcome c.in_ok-found_of.field-0.section c.table_of-table.ensures for_one both.0 both.1
    (ap (λ (found : Found). found.section) c.in_ok-found_of.ensures)
