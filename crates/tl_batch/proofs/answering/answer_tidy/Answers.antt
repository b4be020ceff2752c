-- What the call answers is told.
use Rattle.std.proofs.Common.{◌≡◌, subst}
use Rattle.std.proofs.lemmas.Result.{IfOk-weaker}
use Rattle.tl_command.specs.Ask.{asked_by}
use Rattle.tl_lay.specs.declared.task.Task.{Task}
use Rattle.tl_lay.specs.Tidied.{IsTidied}
use Rattle.tl_lay.specs.Tidiest.{Tidies}
use Rattle.tl_batch.specs.Replies.{TellsTidied, answer_bytes}
use Rattle.tl_batch.proofs.answering.answer_tidy.Goals as goal

pub returns : goal.returns
returns g c =
    let asked = asked_by c.args.ask.now in
    let file = c.args.file.now in
    let answer = c.in_ok-answer.answer in
    IfOk-weaker c.tell.result (λ bytes. bytes.items ≡ answer_bytes asked answer) (λ bytes. TellsTidied asked file bytes.items)
    (λ bytes same. (
      answer,
      (
        subst (λ (task : Task). IsTidied task file answer) c.task_of-task.ensures c.in_ok-answer.ensures.tidied,
        subst (λ (task : Task). Tidies task file answer) c.task_of-task.ensures c.in_ok-answer.ensures.tidies,
      ),
      same,
    )) c.tell.ensures
