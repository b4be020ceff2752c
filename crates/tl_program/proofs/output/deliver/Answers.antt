-- What is delivered, step by step.
use Rattle.std.proofs.Common.{◌≡◌, refl, ap, subst, ◌∙◌, List, ℕ, map}
use Rattle.tl_program.specs.declared.status.Status.{Status}
use Rattle.tl_program.specs.Change.{between, as_stored}
use Rattle.tl_program.specs.Messages.{message_with, of_page}
use Rattle.tl_program.specs.Deliveries.{Delivery, told}
use Rattle.tl_program.specs.inner.Printing.{IsPrinted}
use Rattle.tl_program.proofs.Storing.{stopped, printed_last}
use Rattle.tl_program.proofs.output.deliver.Goals as goal

pub returns-in-Some-clause-delivered : goal.returns-in-Some-clause-delivered
returns-in-Some-clause-delivered g c =
    let delivery : Delivery = record { report = c.args.report; most = of_page c.args.most c.args.report; stores = map as_stored c.args.files.now } in
    stopped c.in-Some.status (between g.D.Desk c.args.desk.now c.store_all.new.desk)
    delivery c.in-Some.ensures.said_stays c.in-Some.ensures.stored

pub returns-clause-delivered : goal.returns-clause-delivered
returns-clause-delivered g c =
    let delivery : Delivery = record { report = c.args.report; most = of_page c.args.most c.args.report; stores = map as_stored c.args.files.now } in
    let change = between g.D.Desk c.args.desk.now c.print.new.desk in
    let third = between g.D.Desk c.store_all.new.desk c.print.new.desk in
    let text : c.as_bytes.result.now ≡ told delivery =
    c.as_bytes.ensures.value ∙ c.as_str.ensures.value ∙ c.in-Ok.ensures
    ∙ ap (λ most. message_with most c.args.report) c.of_page.ensures in
    printed_last c.print.result change third delivery (c.print.ensures.files_stay ∙ c.in_default.ensures.stored.0)
    c.in_default.ensures.stored.1
    refl c.in_default.ensures.said_stays refl
    (subst (λ (status : Status). IsPrinted status c.print.result third (told delivery)) c.status.ensures
    (subst (λ (bytes : List ℕ). IsPrinted c.status.result c.print.result third bytes) text c.print.ensures.printed))
