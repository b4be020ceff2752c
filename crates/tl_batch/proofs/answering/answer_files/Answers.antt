-- Both files are held, and the command is answered for their bytes.
use Rattle.std.proofs.Common.{◌∙◌, Global, Some, Vec, ap, option_map, sym, ℕ}
use Rattle.std.proofs.lemmas.Result.{IfOk-weaker}
use Rattle.tl_command.specs.Ask.{asked_by}
use Rattle.tl_batch.specs.Replies.{AnswersAsked}
use Rattle.tl_batch.specs.inner.Turns.{AnswersFiles}
use Rattle.tl_batch.proofs.answering.answer_files.Goals as goal

pub returns : goal.returns
returns g c =
    let asked = asked_by c.args.ask.now in
    let file = c.as_slice.result.now in
    let text = c.as_slice-2.result.now in
    IfOk-weaker c.answer_asked.result (λ bytes. AnswersAsked asked file text bytes.items)
    (λ bytes. AnswersFiles asked c.args.arrival.now bytes.items) (λ bytes answers. record {
      file = file;
      file_held = ap (option_map (λ (it : Vec ℕ Global). it.items)) c.in-Some.is ∙ ap Some (sym c.as_slice.ensures.value);
      text = text;
      text_held = ap (option_map (λ (it : Vec ℕ Global). it.items)) c.in-Some-text.is ∙ ap Some (sym c.as_slice-2.ensures.value);
      answers = answers;
    }) c.answer_asked.ensures
