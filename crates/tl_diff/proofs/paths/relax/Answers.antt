-- The invariant bounds each weight by that of the arcs done, and an arc more or a place more keeps it.
use Rattle.std.proofs.Common.{arith}
use Rattle.std.proofs.lemmas.List.Sums.{sum_by_more_le}
use Rattle.tl_diff.proofs.PathLemmas.{IsRelaxed-arc, IsRelaxed-on}
use Rattle.tl_diff.proofs.paths.relax.Goals as goal
use Rattle.tl_diff.proofs.paths.relax.Goals.{then-loop-next-test+else-arcs-next, else-loop-next-test}

pub overflow_add-out : goal.overflow_add-out
overflow_add-out c =
    let sum = sum_by_more_le (λ e. e.weight) c.args.arcs.now c.loop-next.next (record { from = 0; to = 0; weight = 0 })
    c.loop-next-test.true in
    let small = c.loop-next.invariant.small c.args.place (omega arith) in
    omega arith

pub loop-next-preserved : goal.loop-next-preserved
loop-next-preserved c =
    rw c.max.ensures (IsRelaxed-arc c.args.n c.args.arcs.now c.args.place c.loop-next.next c.loop-next.out c.requires.forward
    c.requires.in_order
    c.loop-next.invariant c.loop-next-test.true c.if-arcs-next.true)

pub returns : goal.returns
returns c =
    rw c.max-2.ensures (IsRelaxed-on c.args.n c.args.arcs.now c.args.place c.loop-next.next c.loop-next.out c.requires.forward
    c.requires.in_order
    c.loop-next.invariant c.requires.there
    (λ within. elim c.loop-next-test.branch [
      | then-loop-next-test+else-arcs-next w ↦ w.if-arcs-next.false
      | else-loop-next-test
          w ↦ absurd (omega arith)
    ]))
