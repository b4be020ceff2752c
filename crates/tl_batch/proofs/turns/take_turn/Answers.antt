-- A request is taken and answered, or the run ends.
use Rattle.std.proofs.Common.{◌∙◌, ◌≡◌, subst, sym}
use Rattle.std.proofs.lemmas.Result.{IfErr-weaker, err_from_is_err_and, on_ok_weaker}
use Rattle.std.specs.Io.KnownBytes.{Appends}
use Rattle.tl_base.specs.Desk.{Rose}
use Rattle.tl_exchange.specs.Exchange.{between}
use Rattle.tl_exchange.specs.Sent.{AppendsSome}
use Rattle.tl_batch.specs.declared.ending.Ending.TheVariants.{WriteFault}
use Rattle.tl_batch.specs.inner.Turns.{EndsTurn, SendsReply}
use Rattle.tl_batch.proofs.Arrived.{appends_after, if_ok, reply_sent, some_after, turn_by, untaken_ends}
use Rattle.tl_batch.proofs.turns.take_turn.Goals as goal

pub returns-in_err-arrival-clause-ends : goal.returns-in_err-arrival-clause-ends
returns-in_err-arrival-clause-ends g c =
    let p = err_from_is_err_and c.from_residual.result c.from_residual.ensures.1 in
    rw (p.1, p.2) (untaken_ends (between g.E.Exchange c.args.exchange.now c.receive_request.new.exchange)
    c.in_err-arrival.field-0.0 c.in_err-arrival.ensures.cause c.receive_request.ensures.unsent)

pub returns-in_default-clause-ends : goal.returns-in_default-clause-ends
returns-in_default-clause-ends g c =
    (rw c.in_default.is at c.in_ok-arrival.ensures.taken, c.receive_request.ensures.unsent.went)

pub answer-requires-clause-asks : goal.answer-requires-clause-asks
answer-requires-clause-asks g c = λ lifetimes outlives.
    let taken = rw c.in-Some.is at c.in_ok-arrival.ensures.taken in (
      taken.0.asked,
      taken.1.asks,
      taken.1.reads,
    )

pub returns-clause-answers : goal.returns-clause-answers
returns-clause-answers g c =
    let exchange = g.E.Exchange in
    let start = c.args.exchange.now in
    let middle = c.receive_request.new.exchange in
    let end = c.answer.new.exchange in
    let taken = rw c.in-Some.is at c.in_ok-arrival.ensures.taken in
    on_ok_weaker c.answer.result (λ answered. turn_by exchange start middle end c.in-Some.arrival taken.0 answered.0
    (Appends (exchange.went start) (exchange.went end)) taken.1 c.answer.ensures.came
    (reply_sent (between exchange start middle) c.in-Some.arrival taken.0 answered.0 taken.1 answered.1)
    (appends_after exchange start middle end answered.0 c.receive_request.ensures.unsent answered.2)) c.answer.ensures.answered

pub returns-clause-ends : goal.returns-clause-ends
returns-clause-ends g c =
    let exchange = g.E.Exchange in
    let start = c.args.exchange.now in
    let middle = c.receive_request.new.exchange in
    let end = c.answer.new.exchange in
    let taken = rw c.in-Some.is at c.in_ok-arrival.ensures.taken in
    IfErr-weaker c.answer.result (λ ending. (ending ≡ WriteFault)
    × Rose (exchange.write_faults middle) (exchange.write_faults end)
    × SendsReply c.in-Some.arrival (AppendsSome (exchange.went middle) (exchange.went end)))
    (EndsTurn (between exchange start end)) (λ ending is. subst (EndsTurn (between exchange start end)) (sym is.0) (
      subst (λ n. Rose n (exchange.write_faults end)) c.receive_request.ensures.unsent.writes is.1,
      turn_by exchange start middle end c.in-Some.arrival taken.0 is.2.0
          (AppendsSome (exchange.went start) (exchange.went end)) taken.1 c.answer.ensures.came
          (reply_sent (between exchange start middle) c.in-Some.arrival taken.0 is.2.0 taken.1 is.2.1)
          (some_after exchange start middle end is.2.0 c.receive_request.ensures.unsent is.2.2),
    )) c.answer.ensures.failed

pub returns-clause-reads : goal.returns-clause-reads
returns-clause-reads g c = if_ok c.answer.result (c.answer.ensures.reads ∙ c.in_ok-arrival.ensures.ok_count)

pub returns-clause-writes : goal.returns-clause-writes
returns-clause-writes g c = on_ok_weaker c.answer.result
    (λ same. same ∙ c.receive_request.ensures.unsent.writes) c.answer.ensures.writes
