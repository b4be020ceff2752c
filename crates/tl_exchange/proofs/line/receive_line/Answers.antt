-- Where no line was taken, none begins the bytes.
use Rattle.std.proofs.Common.{◌≡◌, ℕ, zero, suc, List, [], Option, arith, take}
use Rattle.std.specs.Io.KnownBytes.{Consumes}
use Rattle.tl_exchange.proofs.Lines.{no_feed, too_long}
use Rattle.tl_exchange.proofs.line.receive_line.Goals as goal

-- where a count is 0, nothing is taken
none_taken : (old new : Option (List ℕ)) (count : ℕ) (buffer : List ℕ) → count ≡ 0 → Consumes old new (take count buffer) →
    Consumes old new []
none_taken old new zero buffer is taken = taken
none_taken old new (suc count) buffer is taken = absurd (omega (arith, is))

pub returns-then-branch-eq0-clause-cause : goal.returns-then-branch-eq0-clause-cause
returns-then-branch-eq0-clause-cause g c =
    let came = g.E.Exchange.came in
    let none = c.if-branch-eq0.true in
    no_feed (came c.args.exchange.now) (came c.loop.exchange) (came c.receive.new.self) c.loop.line.items
    c.loop.invariant.taken
    (none_taken (came c.loop.exchange) (came c.receive.new.self) c.in_ok-receive.field-0 c.receive.new.buffer none
    c.in_ok-receive.ensures.taken)
    (c.in_ok-receive.ensures.end (omega (arith, none, c.receive.auto.buffer))) c.loop.invariant.unbroken
    (grind (arith, c.if-is_empty.ensures, c.loop.line.ok))

pub returns-clause-cause : goal.returns-clause-cause
returns-clause-cause g c = too_long (g.E.Exchange.came c.args.exchange.now) (g.E.Exchange.came c.loop.exchange)
    c.loop.line.items c.loop.invariant.taken c.loop.invariant.unbroken
    (omega (arith, c.loop-test.false, c.loop.invariant.counted))
