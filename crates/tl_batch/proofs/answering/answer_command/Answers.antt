-- Each command has a number within its limits, and is answered by its own call.
use Rattle.std.proofs.Common.{arith, subst, sym}
use Rattle.std.specs.Prelude.{IfOk}
use Rattle.tl_command.specs.declared.command.Command.{Command}
use Rattle.tl_command.specs.Ask.{asked_by}
use Rattle.tl_command.specs.Command.{IsNumberOf}
use Rattle.tl_base.specs.declared.limits.TheConstants.{MAX_PAGE_WIDTH}
use Rattle.tl_batch.specs.Replies.{AnswersCommand}
use Rattle.tl_batch.proofs.answering.answer_command.Goals as goal

pub answer_lay-requires-clause-range : goal.answer_lay-requires-clause-range
answer_lay-requires-clause-range g c = λ lifetimes outlives.
    let asked = asked_by c.args.ask.now in
    let of_number = subst (λ (command : Command). IsNumberOf command asked.number) c.in-Lay.is c.requires.number in
    c.requires.range asked.number of_number.least of_number.most

pub answer_narrow-requires-clause-range : goal.answer_narrow-requires-clause-range
answer_narrow-requires-clause-range g c = λ lifetimes outlives. c.requires.range MAX_PAGE_WIDTH (omega arith) (omega arith)

pub answer_narrow-requires-clause-lines : goal.answer_narrow-requires-clause-lines
answer_narrow-requires-clause-lines g c = λ lifetimes outlives.
    (subst (λ (command : Command). IsNumberOf command c.args.ask.now.number) c.in-Narrow.is c.requires.number).most

pub answer_tidy-requires-clause-range : goal.answer_tidy-requires-clause-range
answer_tidy-requires-clause-range g c = λ lifetimes outlives.
    let asked = asked_by c.args.ask.now in
    let of_number = subst (λ (command : Command). IsNumberOf command asked.number) c.in-Tidy.is c.requires.number in
    c.requires.range asked.number of_number.least of_number.most

pub answer_check-requires-clause-range : goal.answer_check-requires-clause-range
answer_check-requires-clause-range g c = λ lifetimes outlives.
    let asked = asked_by c.args.ask.now in
    let of_number = subst (λ (command : Command). IsNumberOf command asked.number) c.in-Check.is c.requires.number in
    c.requires.range asked.number of_number.least of_number.most

pub returns-in-Lay : goal.returns-in-Lay
returns-in-Lay g c = subst (λ (command : Command). IfOk c.answer_lay.result (λ bytes.
    AnswersCommand command (asked_by c.args.ask.now) c.args.file.now c.args.text.now bytes.items)) (sym c.in-Lay.is)
    c.answer_lay.ensures

pub returns-in-Narrow : goal.returns-in-Narrow
returns-in-Narrow g c = subst (λ (command : Command). IfOk c.answer_narrow.result (λ bytes.
    AnswersCommand command (asked_by c.args.ask.now) c.args.file.now c.args.text.now bytes.items)) (sym c.in-Narrow.is)
    c.answer_narrow.ensures

pub returns-in-Tidy : goal.returns-in-Tidy
returns-in-Tidy g c = subst (λ (command : Command). IfOk c.answer_tidy.result (λ bytes.
    AnswersCommand command (asked_by c.args.ask.now) c.args.file.now c.args.text.now bytes.items)) (sym c.in-Tidy.is)
    c.answer_tidy.ensures

pub returns-in-Check : goal.returns-in-Check
returns-in-Check g c = subst (λ (command : Command). IfOk c.answer_check.result (λ bytes.
    AnswersCommand command (asked_by c.args.ask.now) c.args.file.now c.args.text.now bytes.items)) (sym c.in-Check.is)
    c.answer_check.ensures
