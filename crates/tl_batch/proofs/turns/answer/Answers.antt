-- An answer is sent, or that memory ran out.
use Rattle.std.proofs.Common.{◌≡◌, inl, inr, subst, sym}
use Rattle.std.proofs.lemmas.Result.{IfErr-weaker, on_ok_weaker}
use Rattle.tl_base.specs.Desk.{Rose}
use Rattle.tl_exchange.specs.Sent.{AppendsSome}
use Rattle.tl_batch.specs.declared.ending.Ending.TheVariants.{WriteFault}
use Rattle.tl_batch.specs.inner.Turns.{AnswersArrival, SendsReply}
use Rattle.tl_batch.proofs.turns.answer.Goals as goal

pub returns-in-Ok-clause-answered : goal.returns-in-Ok-clause-answered
returns-in-Ok-clause-answered g c = on_ok_weaker c.send.result (λ sent. (
  c.as_slice.result.now,
  inr (subst (AnswersArrival c.args.arrival.now) (sym c.as_slice.ensures.value) c.in-Ok.ensures),
  sent,
)) c.send.ensures.sent

pub returns-in-Ok-clause-failed : goal.returns-in-Ok-clause-failed
returns-in-Ok-clause-failed g c =
    let exchange = g.E.Exchange in
    let old = c.args.exchange.now in
    let new = c.send.new.exchange in
    IfErr-weaker c.send.result (λ ending. (ending ≡ WriteFault) × Rose (exchange.write_faults old) (exchange.write_faults new)
    × AppendsSome (exchange.went old) (exchange.went new) c.as_slice.result.now)
    (λ ending. (ending ≡ WriteFault) × Rose (exchange.write_faults old) (exchange.write_faults new)
    × SendsReply c.args.arrival.now (AppendsSome (exchange.went old) (exchange.went new)))
    (λ ending is. (
      is.0,
      is.1,
      (
        c.as_slice.result.now,
        inr (subst (AnswersArrival c.args.arrival.now) (sym c.as_slice.ensures.value) c.in-Ok.ensures),
        is.2,
      ),
    )) c.send.ensures.failed

pub returns-in-Err-clause-answered : goal.returns-in-Err-clause-answered
returns-in-Err-clause-answered g c = on_ok_weaker c.send-in-Err.result (λ sent. (
  c.memory_reply.result.now,
  inl c.memory_reply.ensures,
  sent,
)) c.send-in-Err.ensures.sent

pub returns-in-Err-clause-failed : goal.returns-in-Err-clause-failed
returns-in-Err-clause-failed g c =
    let exchange = g.E.Exchange in
    let old = c.args.exchange.now in
    let new = c.send-in-Err.new.exchange in
    IfErr-weaker c.send-in-Err.result
    (λ ending. (ending ≡ WriteFault) × Rose (exchange.write_faults old) (exchange.write_faults new)
    × AppendsSome (exchange.went old) (exchange.went new) c.memory_reply.result.now)
    (λ ending. (ending ≡ WriteFault) × Rose (exchange.write_faults old) (exchange.write_faults new)
    × SendsReply c.args.arrival.now (AppendsSome (exchange.went old) (exchange.went new)))
    (λ ending is. (is.0, is.1, (c.memory_reply.result.now, inl c.memory_reply.ensures, is.2))) c.send-in-Err.ensures.failed
