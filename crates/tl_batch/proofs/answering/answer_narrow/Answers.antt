-- What the call answers is told.
use Rattle.std.proofs.Common.{◌≡◌, subst}
use Rattle.std.proofs.lemmas.Result.{IfOk-weaker}
use Rattle.tl_command.specs.Ask.{asked_by}
use Rattle.tl_lay.specs.declared.task.Task.{Task}
use Rattle.tl_lay.specs.Slimmed.{IsNarrowed}
use Rattle.tl_lay.specs.Narrowest.{Narrows}
use Rattle.tl_batch.specs.Replies.{TellsNarrowed, answer_bytes}
use Rattle.tl_batch.proofs.answering.answer_narrow.Goals as goal

pub returns : goal.returns
returns g c =
    let asked = asked_by c.args.ask.now in
    let file = c.args.file.now in
    let answer = c.in_ok-answer.answer in
    IfOk-weaker c.tell.result (λ bytes. bytes.items ≡ answer_bytes asked answer) (λ bytes. TellsNarrowed asked file bytes.items)
    (λ bytes same. (
      answer,
      (
        subst (λ (task : Task). IsNarrowed task c.args.ask.now.number file answer) c.task_on-task.ensures c.in_ok-answer.ensures.narrowed,
        subst (λ (task : Task). Narrows task c.args.ask.now.number file answer) c.task_on-task.ensures c.in_ok-answer.ensures.narrows,
      ),
      same,
    )) c.tell.ensures
