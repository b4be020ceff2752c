-- What is read over so far was taken, and so many bytes are left.
use Rattle.std.proofs.Common.{◌≡◌, ◌+◌, ℕ}
use Rattle.tl_exchange.specs.Exchange.{SendsNothing, between}
use Rattle.tl_exchange.specs.Taking.{TakesAnyOf}
use Rattle.tl_exchange.proofs.blocks.skip.Given as goal

abbrev pub invariant-loop-left : goal.invariant-loop-left
invariant-loop-left g l = record {
  past : ℕ;
  counted : past + l.left ≡ l.size;
  taken : TakesAnyOf (between g.E.Exchange l.initial.exchange l.exchange) past;
  unsent : SendsNothing (between g.E.Exchange l.initial.exchange l.exchange);
  no_fault : g.E.Exchange.read_faults l.exchange ≡ g.E.Exchange.read_faults l.initial.exchange;
}

abbrev pub decreases-loop-left : goal.decreases-loop-left
decreases-loop-left g l = l.left
