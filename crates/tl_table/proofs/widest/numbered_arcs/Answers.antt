use Rattle.std.proofs.Common.{◌+◌, sym, subst, rules, ap}
use Rattle.tl_table.proofs.Arcs.{HaveArcsSoFar, HaveArcsSoFar-none, HaveArcsSoFar-skipped, HaveArcsSoFar-pushed}
use Rattle.tl_table.proofs.widest.numbered_arcs.Goals as goal
use Rattle.tl_table.proofs.widest.numbered_arcs.Goals.{then-arc-gt0+in_ok-push, else-arc-gt0}

pub loop-number-init : goal.loop-number-init
loop-number-init c = subst (HaveArcsSoFar c.args.gap c.args.demands.now 0) (sym c.new-arcs.ensures.items)
    (HaveArcsSoFar-none c.args.gap c.args.demands.now)

pub loop-number-preserved : goal.loop-number-preserved
loop-number-preserved c =
    elim c.if-arc-gt0.branch [
      | then-arc-gt0+in_ok-push w ↦ subst (HaveArcsSoFar c.args.gap c.args.demands.now (c.loop-number.number + 1))
          (sym (search rules))
          (HaveArcsSoFar-pushed c.args.gap c.args.demands.now c.loop-number.number c.loop-number.arcs.items _ c.arc_of-arc.result
          c.arc_of-arc.ensures c.loop-number-test.true w.if-arc-gt0.true c.loop-number.invariant)
      | else-arc-gt0 w ↦ subst (HaveArcsSoFar c.args.gap c.args.demands.now (c.loop-number.number + 1))
          (sym (ap (λ v. v.items) w.arcs-is))
          (HaveArcsSoFar-skipped c.args.gap c.args.demands.now c.loop-number.number c.loop-number.arcs.items _ c.arc_of-arc.result
          c.arc_of-arc.ensures c.loop-number-test.true w.if-arc-gt0.false c.loop-number.invariant)
    ]
