-- What is made of the table that the bytes give is answered for the bytes.
use Rattle.std.proofs.lemmas.Result.{IfOk-weaker}
use Rattle.tl_lay.specs.Tidied.{IsTidied, IsTidiedAs}
use Rattle.tl_lay.specs.Tidiest.{Tidies}
use Rattle.tl_lay.proofs.Answering.{answered_given}
use Rattle.tl_lay.proofs.tidiest.tidy.Goals as goal

pub returns-in-Table-clause-tidied : goal.returns-in-Table-clause-tidied
returns-in-Table-clause-tidied g c =
    let task = c.args.task.now in
    answered_given task c.args.bytes.now c.in_ok-given.field-0 c.in-Table.given (IsTidiedAs task) c.tidied.result
    c.in_ok-given.ensures.given c.in-Table.is c.tidied.ensures

pub returns-in-Table-clause-tidies : goal.returns-in-Table-clause-tidies
returns-in-Table-clause-tidies g c =
    let task = c.args.task.now in
    let bytes = c.args.bytes.now in
    IfOk-weaker c.tidied.result (IsTidied task bytes) (Tidies task bytes)
    (λ answer. c.tidied_is_tidiest.ensures task bytes answer c.requires.range)
    (answered_given task bytes c.in_ok-given.field-0 c.in-Table.given (IsTidiedAs task) c.tidied.result
    c.in_ok-given.ensures.given c.in-Table.is c.tidied.ensures)
