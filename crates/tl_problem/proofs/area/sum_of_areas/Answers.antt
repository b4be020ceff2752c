-- Each area is small against the end, so that the sum stays far below 64 bits.
use Rattle.std.proofs.Common.{◌≡◌, ◌<◌, length, arith, ap, subst, ◌∙◌}
use Rattle.std.proofs.lemmas.List.{get_or_default}
use Rattle.tl_problem.specs.declared.cell.Cell.{Cell}
use Rattle.tl_problem.specs.Areas.{IsLeastArea}
use Rattle.tl_problem.specs.Works.{AreAllowed}
use Rattle.tl_problem.specs.inner.Demands.{cell_at}
use Rattle.tl_problem.proofs.DemandLemmas.{few-cells}
use Rattle.tl_problem.proofs.AreaFound.{HaveAreas-none, HaveAreas-more, area-few, areas-few}
use Rattle.tl_problem.proofs.area.sum_of_areas.Goals as goal

pub loop-number-init : goal.loop-number-init
loop-number-init c = HaveAreas-none c.args.problem.now (AreAllowed c.args.problem.now c.args.matrix.now.bounds)

pub overflow_add-areas : goal.overflow_add-areas
overflow_add-areas c =
    let p = c.args.problem.now in
    let Among = AreAllowed p c.args.matrix.now.bounds in
    let number = c.loop-number.number in
    let inside : number < length p.cells = omega (arith, c.loop-number-test.true, ap length c.cells-cells.ensures.cells) in
    let is = rw c.cells-cells.ensures.cells at c.index-cells-number.is in
    let cell : c.index-cells-number.result ≡ cell_at p.cells number = is ∙ get_or_default p.cells number _ _ inside in
    let one = area-few p c.requires.sound Among c.requires.keeps.page c.args.end c.requires.end number c.least_area-areas.result
    inside c.requires.small
    (subst (λ (x : Cell). IsLeastArea p Among x c.least_area-areas.result) cell c.least_area-areas.ensures) in
    let before = areas-few p c.requires.sound Among c.requires.keeps.page c.args.end c.requires.end number c.loop-number.areas
    (omega (arith, inside))
    c.requires.small c.loop-number.invariant in
    omega (arith, one, before, inside, few-cells p c.requires.sound)

pub loop-number-preserved : goal.loop-number-preserved
loop-number-preserved c =
    let p = c.args.problem.now in
    let Among = AreAllowed p c.args.matrix.now.bounds in
    let number = c.loop-number.number in
    let inside : number < length p.cells = omega (arith, c.loop-number-test.true, ap length c.cells-cells.ensures.cells) in
    let is = rw c.cells-cells.ensures.cells at c.index-cells-number.is in
    let cell : c.index-cells-number.result ≡ cell_at p.cells number = is ∙ get_or_default p.cells number _ _ inside in
    HaveAreas-more p Among number c.loop-number.areas c.least_area-areas.result c.loop-number.invariant
    (subst (λ (x : Cell). IsLeastArea p Among x c.least_area-areas.result) cell c.least_area-areas.ensures)

pub returns : goal.returns
returns c =
    let all : c.loop-number.number ≡ length c.args.problem.now.cells = omega (
      arith,
      c.loop-number.auto.number-end,
      c.loop-number-test.false,
      ap
          length c.cells-cells.ensures.cells,
    ) in
    rw all at c.loop-number.invariant
