use Rattle.std.proofs.Common.{arith}
use Rattle.tl_problem.specs.Problem.{ProblemModel}
use Rattle.tl_form.specs.Nested.{IsProblemFor}
use Rattle.tl_form.specs.Subjects.{due_of}
use Rattle.tl_form.proofs.SubjectLemmas.{it_is}
use Rattle.tl_nested.proofs.Ready.{by_law, may, narrow, problem_due, some, sound_one}
use Rattle.tl_nested.proofs.searching.problem_at.Goals as goal

pub table_of-table-requires-clause-from : goal.table_of-table-requires-clause-from
table_of-table-requires-clause-from c =
    (may c.args.subject.now c.requires.subject c.requires.wide c.args.before.now c.requires.good.0 c.requires.good.1
    (due_of c.args.due) c.requires.next).from

pub table_of-table-requires-clause-upto : goal.table_of-table-requires-clause-upto
table_of-table-requires-clause-upto c =
    let now = may c.args.subject.now c.requires.subject c.requires.wide c.args.before.now c.requires.good.0 c.requires.good.1
    (due_of c.args.due) c.requires.next in
    omega (arith, now.upto, c.requires.subject.document.numbers)

pub problem_for-requires-clause-sound : goal.problem_for-requires-clause-sound
problem_for-requires-clause-sound c = sound_one c.args.subject.now c.requires.subject c.requires.wide c.args.before.now
    c.requires.good.0 c.requires.good.1
    (due_of c.args.due) c.requires.next c.table_of-table.result.now c.table_of-table.ensures

pub problem_for-requires-clause-narrow : goal.problem_for-requires-clause-narrow
problem_for-requires-clause-narrow c = narrow c.args.subject.now c.requires.subject c.requires.wide c.args.before.now
    c.requires.good.0 c.requires.good.1
    (due_of c.args.due) c.requires.next c.table_of-table.result.now c.table_of-table.ensures
    c.sections_give_sound_problems.ensures

pub problem_for-requires-clause-wide : goal.problem_for-requires-clause-wide
problem_for-requires-clause-wide c = (by_law c.args.subject.now c.requires.subject c.requires.wide c.args.before.now
    c.requires.good.0 c.requires.good.1
    (due_of c.args.due) c.requires.next c.table_of-table.result.now c.table_of-table.ensures
    c.sections_give_sound_problems.ensures).wide

pub unwrap-problem-requires : goal.unwrap-problem-requires
unwrap-problem-requires c = some c.args.subject.now c.requires.subject c.requires.wide c.args.before.now c.requires.good.0
    c.requires.good.1
    (due_of c.args.due) c.requires.next c.table_of-table.result.now c.table_of-table.ensures
    c.sections_give_sound_problems.ensures
    c.in_ok-problem_for.field-0 _
    c.in_ok-problem_for.ensures

pub returns : goal.returns
returns c =
    let one = c.table_of-table.result.now in
    let style = c.args.subject.now.style in
    let w = c.args.due.width in
    let before = c.args.before.now in
    let own = it_is ((problem : ProblemModel) → IsProblemFor one style w before problem →
    ⊥) c.in_ok-problem_for.field-0 c.unwrap-problem.result
    (IsProblemFor one style w before) c.unwrap-problem.ensures c.in_ok-problem_for.ensures in
    λ section table width. problem_due c.args.subject.now c.requires.subject c.requires.wide before c.requires.good.0
    c.requires.good.1
    (due_of c.args.due) c.requires.next one c.table_of-table.ensures c.unwrap-problem.result own section table width
