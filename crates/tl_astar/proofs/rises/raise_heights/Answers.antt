-- Each rise that is wider than the room makes its strip higher. The first that is not ends the loop.
use Rattle.std.proofs.Common.{get_or, ap, arith}
use Rattle.std.proofs.lemmas.List.{get_or_default}
use Rattle.tl_astar.proofs.RaiseLemmas.{AreRaisedUpto-more, Raises-from, no_rise}
use Rattle.tl_astar.proofs.rises.raise_heights.Goals as goal

pub loop-rise-preserved : goal.loop-rise-preserved
loop-rise-preserved c =
    let rises = c.args.rises.now in
    let number = c.loop-rise.rise-index in
    let rise = get_or rises number no_rise in
    rw c.raise.ensures
    (AreRaisedUpto-more rises c.args.room number c.args.heights.now c.loop-rise.heights c.loop-rise.invariant rise
    c.loop-rise-test.true (get_or_default rises number rise no_rise c.loop-rise-test.true) c.if-rise-room.false)

pub returns-then-rise-room : goal.returns-then-rise-room
returns-then-rise-room c =
    let rises = c.args.rises.now in
    let number = c.loop-rise.rise-index in
    Raises-from rises c.args.room number c.args.heights.now c.loop-rise.heights c.loop-rise.invariant (omega arith)
    (λ within d. omega (arith, ap (λ r. r.width) (get_or_default rises number d no_rise within), c.if-rise-room.true))

pub returns : goal.returns
returns c =
    Raises-from c.args.rises.now c.args.room c.loop-rise.rise-index c.args.heights.now c.loop-rise.heights
    c.loop-rise.invariant (omega arith) (λ within d. omega (arith, within))
