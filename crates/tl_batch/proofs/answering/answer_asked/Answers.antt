-- What is asked of the bytes of the file is answered.
use Rattle.std.proofs.Common.{◌∙◌, subst, sym}
use Rattle.std.proofs.lemmas.Result.{IfOk-weaker}
use Rattle.tl_command.specs.declared.command.Command.{Command}
use Rattle.tl_command.specs.Ask.{asked_by}
use Rattle.tl_command.specs.Command.{IsNumberOf}
use Rattle.tl_program.proofs.Asking.{range_on}
use Rattle.tl_batch.specs.Replies.{AnswersAsked, AnswersCommand}
use Rattle.tl_batch.proofs.answering.answer_asked.Goals as goal

pub answer_command-requires-clause-number : goal.answer_command-requires-clause-number
answer_command-requires-clause-number g c = λ lifetimes outlives.
    let same = c.in-Ok.ensures.same in
    subst (λ n. IsNumberOf c.in-Ok.ask.command n) (sym same.1)
    (subst (λ (command : Command). IsNumberOf command c.args.ask.now.number) (sym same.0) c.requires.asks.1.in_range)

pub answer_command-requires-clause-range : goal.answer_command-requires-clause-range
answer_command-requires-clause-range g c = λ lifetimes outlives width some narrow.
    c.in-Ok.ensures.range width (range_on c.requires.asks.0 (asked_by c.args.ask.now) c.requires.asks.1 width some narrow)

pub answer_command-requires-clause-reads : goal.answer_command-requires-clause-reads
answer_command-requires-clause-reads g c = λ lifetimes outlives demo.
    c.requires.reads (sym c.in-Ok.ensures.same.0 ∙ demo)

pub returns : goal.returns
returns g c =
    let asked = asked_by c.args.ask.now in
    let settled = asked_by c.in-Ok.ask in
    let file = c.args.file.now in
    let text = c.args.text.now in
    IfOk-weaker c.answer_command.result (λ bytes. AnswersCommand c.in-Ok.ask.command settled file text bytes.items)
    (λ bytes. AnswersAsked asked file text bytes.items) (λ bytes answers. (
      settled,
      c.in-Ok.ensures.settles,
      subst (λ (command : Command). AnswersCommand command settled file text bytes.items) c.in-Ok.ensures.same.0 answers,
    )) c.answer_command.ensures
