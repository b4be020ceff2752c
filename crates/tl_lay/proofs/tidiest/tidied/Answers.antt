-- The page is too narrow, or as wide as some layout needs.
use Rattle.std.proofs.Common.{◌≡◌, inr, arith}
use Rattle.std.proofs.lemmas.Result.{IfOk-weaker}
use Rattle.tl_table.proofs.LinkLemmas.{IsLeastWidth-unique}
use Rattle.tl_lay.specs.Answers.{IsLaidAs}
use Rattle.tl_lay.specs.Tidied.{IsTidiedAs}
use Rattle.tl_lay.proofs.Tidying.{narrow_early}
use Rattle.tl_lay.proofs.tidiest.tidied.Goals as goal

pub tidied_on-requires-clause-wide : goal.tidied_on-requires-clause-wide
tidied_on-requires-clause-wide g c = λ lifetimes outlives least is.
    let same : least ≡ c.in_ok-least.least = IsLeastWidth-unique c.args.given.now.table c.args.task.now.style least c.in_ok-least.least is
    c.in_ok-least.ensures.least in
    omega (arith, same, c.if-least-task.false)

pub returns-then-least-task : goal.returns-then-least-task
returns-then-least-task g c = IfOk-weaker c.answer_to.result (IsLaidAs c.args.task.now c.args.given.now.table)
    (IsTidiedAs c.args.task.now c.args.given.now.table) (λ answer laid. inr (
      laid,
      narrow_early c.args.task.now c.args.given.now.table answer c.in_ok-least.least c.in_ok-least.ensures.least c.if-least-task.true laid,
    )) c.answer_to.ensures
