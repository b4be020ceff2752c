-- The bytes so far were taken, and no line feed was among them.
use Rattle.std.proofs.Common.{◌≡◌, ◌≢◌, length}
use Rattle.std.specs.List.{All}
use Rattle.std.specs.Io.KnownBytes.{Consumes}
use Rattle.tl_exchange.specs.Exchange.{SendsNothing, between}
use Rattle.tl_exchange.proofs.line.receive_line.Given as goal

abbrev pub invariant-loop : goal.invariant-loop
invariant-loop g l = record {
  counted : length l.line.items ≡ l.counter;
  unbroken : All (λ byte. byte ≢ 10) l.line.items;
  taken : Consumes (g.E.Exchange.came l.initial.exchange) (g.E.Exchange.came l.exchange) l.line.items;
  unsent : SendsNothing (between g.E.Exchange l.initial.exchange l.exchange);
  no_fault : g.E.Exchange.read_faults l.exchange ≡ g.E.Exchange.read_faults l.initial.exchange;
}
