-- The arcs seen so far are those of a heaviest path's end; once all are seen they are the whole path.
use Rattle.std.proofs.Common.{◌≡◌, ◌+◌, ◌-◌, ◌<◌, length, reverse, arith, rules}
use Rattle.std.proofs.lemmas.List.{reverse-append}
use Rattle.tl_diff.proofs.ChainLemmas.{IsTaken-none, IsTaken-takes, IsTaken-skips, IsTaken-path, IsTaken-weight, arc-le}
use Rattle.tl_diff.proofs.paths.chain.Goals as goal
use Rattle.tl_diff.proofs.paths.chain.Goals.{else-arc-place-via-then-arc-place+else-out-arc, else-arc-place-via-else-arc-place}

pub loop-i-init : goal.loop-i-init
loop-i-init c =
    rw c.new-backward.ensures.items
    (IsTaken-none c.args.n c.args.arcs.now c.args.out.now c.requires.forward c.requires.in_order c.requires.heaviest
    (length c.args.arcs.now) (omega arith))

pub bounds-out-place : goal.bounds-out-place
bounds-out-place c = omega (arith, c.loop-i.invariant.up)

pub offset_bounds-out-place : goal.offset_bounds-out-place
offset_bounds-out-place c = let up = c.loop-i.invariant.up in search rules

pub overflow_add-out : goal.overflow_add-out
overflow_add-out c =
    let there : c.loop-i.i - 1 < length c.args.arcs.now = omega arith in
    let le = arc-le c.args.n c.args.arcs.now c.args.out.now c.requires.forward c.requires.in_order c.requires.heaviest
    (c.loop-i.i - 1) c.loop-i.place there c.if-arc-place.true c.loop-i.invariant.up in
    omega (arith, c.type_inv.out c.loop-i.place)

pub loop-i-preserved-then-out-arc : goal.loop-i-preserved-then-out-arc
loop-i-preserved-then-out-arc c =
    let one : c.loop-i.i ≡ c.loop-i.i - 1 + 1 = omega arith in
    let there : c.loop-i.i - 1 < length c.args.arcs.now = omega arith in
    rw (c.in_ok-push.ensures.items, reverse-append)
    (IsTaken-takes c.args.n c.args.arcs.now c.args.out.now c.requires.forward c.requires.in_order c.requires.heaviest
    c.loop-i.place (c.loop-i.i - 1)
    (reverse c.loop-i.backward.items) (rw one at c.loop-i.invariant) there c.if-arc-place.true c.if-out-arc.true)

pub loop-i-preserved : goal.loop-i-preserved
loop-i-preserved c =
    let one : c.loop-i.i ≡ c.loop-i.i - 1 + 1 = omega arith in
    let there : c.loop-i.i - 1 < length c.args.arcs.now = omega arith in
    IsTaken-skips c.args.n c.args.arcs.now c.args.out.now c.requires.forward c.requires.in_order c.requires.heaviest
    c.loop-i.place (c.loop-i.i - 1)
    (reverse c.loop-i.backward.items) (rw one at c.loop-i.invariant) there
    (λ ends. elim c.else-arc-place.branch [
      | else-arc-place-via-then-arc-place+else-out-arc w ↦ w.if-out-arc.false
      | else-arc-place-via-else-arc-place w ↦ absurd
          (omega (arith, w.if-arc-place.false))
    ])

pub returns-clause-path : goal.returns-clause-path
returns-clause-path c =
    let none : c.loop-i.i ≡ 0 = omega arith in
    rw (c.from_vec.ensures, c.reverse.ensures.items)
    (IsTaken-path c.args.n c.args.arcs.now c.args.out.now c.requires.forward c.requires.in_order c.requires.heaviest
    c.loop-i.place _
    (rw none at c.loop-i.invariant))

pub returns-clause-weight : goal.returns-clause-weight
returns-clause-weight c =
    let none : c.loop-i.i ≡ 0 = omega arith in
    rw (c.from_vec.ensures, c.reverse.ensures.items)
    (IsTaken-weight c.args.n c.args.arcs.now c.args.out.now c.requires.forward c.requires.in_order c.requires.heaviest
    c.loop-i.place _
    (rw none at c.loop-i.invariant))
