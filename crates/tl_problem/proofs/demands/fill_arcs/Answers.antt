-- Each turn is that of a cell, and the arc that is written is that cell's.
use Rattle.std.proofs.Common.{◌+◌, ◌≡◌, ◌<◌, ◌≤◌, length, get_or, map, arith, refl, sym, subst, ap, ◌∙◌}
use Rattle.std.proofs.lemmas.List.{take_all, take_more_set, map_more, get_or_default}
use Rattle.tl_base.specs.declared.limits.TheConstants.{MAX_ROWS}
use Rattle.tl_problem.specs.declared.axis.Turn.{Turn}
use Rattle.tl_problem.specs.inner.Axes.{start_of, end_of, turn}
use Rattle.tl_problem.specs.inner.Demands.{cell_at, arc_for}
use Rattle.tl_problem.proofs.AxisLemmas.{order-length, order-turns}
use Rattle.tl_problem.proofs.DemandLemmas.{sound-axis, count-few}
use Rattle.tl_problem.proofs.demands.fill_arcs.Goals as goal

pub bounds-cells-cell : goal.bounds-cells-cell
bounds-cells-cell c =
    let here = order-turns c.args.axis c.args.problem.now.cells c.order-order.result.now c.order-order.ensures
    c.loop-place.place (turn 0 0)
    c.loop-place-test.true in
    omega (arith, here.0, ap length c.cells-cells.ensures.cells)

pub bounds-demands-cell : goal.bounds-demands-cell
bounds-demands-cell c =
    let here = order-turns c.args.axis c.args.problem.now.cells c.order-order.result.now c.order-order.ensures
    c.loop-place.place (turn 0 0)
    c.loop-place-test.true in
    omega (arith, here.0, c.requires.count)

pub arc_of-requires-clause-ahead : goal.arc_of-requires-clause-ahead
arc_of-requires-clause-ahead c =
    let here = order-turns c.args.axis c.args.problem.now.cells c.order-order.result.now c.order-order.ensures
    c.loop-place.place (turn 0 0)
    c.loop-place-test.true in
    let is = rw c.cells-cells.ensures.cells at c.index-cells-cell.is in
    let sound = c.cells-cells.ensures.sound.cells _ c.index-cells-cell.result here.0 in
    subst (λ x. start_of c.args.axis x < end_of c.args.axis x) (sym is) (sound-axis c.args.problem.now c.args.axis _ sound).0

pub arc_of-requires-clause-near : goal.arc_of-requires-clause-near
arc_of-requires-clause-near c =
    let here = order-turns c.args.axis c.args.problem.now.cells c.order-order.result.now c.order-order.ensures
    c.loop-place.place (turn 0 0)
    c.loop-place-test.true in
    let is = rw c.cells-cells.ensures.cells at c.index-cells-cell.is in
    let sound = c.cells-cells.ensures.sound.cells _ c.index-cells-cell.result here.0 in
    let few = count-few c.args.problem.now c.args.axis c.cells-cells.ensures.sound in
    subst (λ x. end_of c.args.axis x ≤ MAX_ROWS + 1) (sym is)
    (omega (arith, few, (sound-axis c.args.problem.now c.args.axis _ sound).1))

pub bounds-arcs-place : goal.bounds-arcs-place
bounds-arcs-place c = omega (
  arith,
  order-length c.args.axis c.args.problem.now.cells c.order-order.result.now c.order-order.ensures,
  c.requires.room,
  c.loop-place.auto.arcs,
)

pub loop-place-preserved : goal.loop-place-preserved
loop-place-preserved c =
    let order = c.order-order.result.now in
    let here = order-turns c.args.axis c.args.problem.now.cells order c.order-order.ensures c.loop-place.place (turn 0 0)
    c.loop-place-test.true in
    let inside : c.loop-place.place < length c.loop-place.arcs = omega (
      arith,
      order-length c.args.axis c.args.problem.now.cells order c.order-order.ensures,
      c.requires.room,
      c.loop-place.auto.arcs,
    ) in
    let number = (get_or order c.loop-place.place (turn 0 0)).cell in
    let is = rw c.cells-cells.ensures.cells at c.index-cells-cell.is in
    let cell : c.index-cells-cell.result ≡ cell_at c.args.problem.now.cells number =
    is ∙ get_or_default c.args.problem.now.cells number _ _ here.0 in
    let written = take_more_set c.loop-place.arcs c.loop-place.place c.arc_of.result inside in
    let wanted = map_more (λ (t : Turn). arc_for c.args.problem.now c.args.axis c.args.demands.now t.cell)
    order c.loop-place.place (turn 0 0)
    c.loop-place-test.true in
    let one : c.arc_of.result ≡ arc_for c.args.problem.now c.args.axis c.args.demands.now number =
    rw (cell, c.gap-gap.ensures) at c.arc_of.ensures in
    rw (written, wanted, c.loop-place.invariant, one) refl

pub returns : goal.returns
returns c =
    let order = c.order-order.result.now in
    let all : length order ≤ c.loop-place.place = omega arith in
    let room : length c.loop-place.arcs ≤ c.loop-place.place = omega (
      arith,
      order-length c.args.axis c.args.problem.now.cells order c.order-order.ensures,
      c.requires.room,
      c.loop-place.auto.arcs,
    ) in
    record {
      sound = c.cells-cells.ensures.sound;
      order = order;
      ordered = c.order-order.ensures;
      are = sym (take_all c.loop-place.place c.loop-place.arcs room) ∙ c.loop-place.invariant ∙
          ap (map (λ (t : Turn). arc_for c.args.problem.now c.args.axis c.args.demands.now t.cell))
          (take_all c.loop-place.place order all);
    }
