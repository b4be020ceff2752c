-- What the check finds is told.
use Rattle.std.proofs.Common.{◌∙◌, ◌≡◌, [], subst}
use Rattle.std.proofs.lemmas.Result.{IfOk-weaker}
use Rattle.tl_command.specs.Ask.{asked_by}
use Rattle.tl_lay.specs.declared.task.Task.{Task}
use Rattle.tl_lay.specs.Checks.{IsChecked}
use Rattle.tl_batch.specs.Replies.{TellsChecked, reply_of}
use Rattle.tl_batch.proofs.answering.answer_check.Goals as goal

pub returns : goal.returns
returns g c =
    let asked = asked_by c.args.ask.now in
    let file = c.args.file.now in
    let text = c.args.text.now in
    let verdict = c.in_ok-verdict.verdict in
    IfOk-weaker c.reply_of.result (λ bytes. bytes.items ≡ reply_of c.fitted_in.result c.of_verdict.result [])
    (λ bytes. TellsChecked asked file text bytes.items)
    (λ bytes same. (
      verdict,
      subst (λ (task : Task). IsChecked task file text verdict) c.task_of-task.ensures c.in_ok-verdict.ensures.checked,
      same ∙ (λ i. reply_of (c.fitted_in.ensures i) (c.of_verdict.ensures i) []),
    )) c.reply_of.ensures
