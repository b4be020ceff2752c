-- Each turn so far answered one request, and none failed.
use Rattle.std.proofs.Common.{◌≡◌, IfSome}
use Rattle.tl_exchange.specs.Exchange.{between}
use Rattle.tl_batch.specs.inner.Turns.{HasAnswered}
use Rattle.tl_batch.proofs.turns.batch.Given as goal

abbrev pub invariant-loop : goal.invariant-loop
invariant-loop g l = record {
  answered : IfSome (g.E.Exchange.came l.initial.exchange)
      (λ came. HasAnswered came (between g.E.Exchange l.initial.exchange l.exchange) l.counter);
  reads : g.E.Exchange.read_faults l.exchange ≡ g.E.Exchange.read_faults l.initial.exchange;
  writes : g.E.Exchange.write_faults l.exchange ≡ g.E.Exchange.write_faults l.initial.exchange;
}
