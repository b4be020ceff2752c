-- The answer is what is delivered.
use Rattle.std.proofs.Common.{◌≡◌, ◌∙◌, inl, map, ap, subst}
use Rattle.tl_command.specs.Ask.{asked_by}
use Rattle.tl_program.specs.Change.{as_stored, between}
use Rattle.tl_program.specs.Deliveries.{Delivery, delivery_of, files_of}
use Rattle.tl_program.specs.Messages.{of_page}
use Rattle.tl_program.specs.inner.Printing.{IsDelivered}
use Rattle.tl_program.proofs.answers.deliver_answer.Goals as goal

pub returns-in-Ok-files_of-clause-delivered : goal.returns-in-Ok-files_of-clause-delivered
returns-in-Ok-files_of-clause-delivered g c =
    let asked = asked_by c.args.ask.now in
    let report = c.of_answer-report.result in
    let most = c.fitted_in.result in
    let stores = map as_stored c.as_slice-in-Ok-files_of.result.now in
    let files : stores ≡ files_of asked.names c.as_slice.result.now =
    ap (map as_stored) c.as_slice-in-Ok-files_of.ensures.value ∙ c.in-Ok-files_of.ensures in
    let stored = files ∙ ap (files_of asked.names) (c.as_slice.ensures.value ∙ c.in-Ok.ensures) in
    let made : Delivery = record { report = report; most = of_page most report; stores = stores } in
    let same : made ≡ delivery_of asked c.args.answer = λ i. record {
      report = c.of_answer-report.ensures i;
      most = of_page (c.fitted_in.ensures i) (c.of_answer-report.ensures i);
      stores = stored i;
    } in
    inl (subst (IsDelivered c.deliver.result (between g.D.Desk c.args.desk.now c.deliver.new.desk)) same c.deliver.ensures.delivered)
