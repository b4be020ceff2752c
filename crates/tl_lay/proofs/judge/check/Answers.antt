-- What is judged of the table that the bytes give is found of the bytes.
use Rattle.std.proofs.lemmas.Result.{IfOk-at_ok}
use Rattle.tl_lay.specs.Inputs.{GivesInput}
use Rattle.tl_lay.proofs.Answering.{checked_given}
use Rattle.tl_lay.proofs.Judging.{judged_text}
use Rattle.tl_lay.proofs.judge.check.Goals as goal

pub returns-in-Table : goal.returns-in-Table
returns-in-Table g c =
    let task = c.args.task.now in
    let text = c.args.text.now in
    let read = c.read_both-input in
    record {
      checked = checked_given task c.args.bytes.now text c.in_ok-given.field-0 c.in-Table.given c.judge-verdict.result
          (IfOk-at_ok (GivesInput task c.args.bytes.now) c.in_ok-given.was read.ensures.given) c.in-Table.is
          (judged_text task c.in-Table.given.table text read.result.1 c.judge-verdict.result read.ensures.read
          c.judge-verdict.ensures);
    }
