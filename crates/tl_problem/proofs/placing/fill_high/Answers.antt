-- The demand that is written is that of the cell in turn.
use Rattle.std.proofs.Common.{◌≡◌, ◌<◌, Some, length, arith, subst, ap, ◌∙◌}
use Rattle.std.proofs.lemmas.List.{get_or_default}
use Rattle.tl_base.specs.Steps.{height_at}
use Rattle.tl_problem.specs.declared.cell.Cell.{Cell}
use Rattle.tl_problem.specs.Problem.{cell_width}
use Rattle.tl_problem.specs.inner.Demands.{cell_at}
use Rattle.tl_problem.proofs.NeedLemmas.{upto-set}
use Rattle.tl_problem.proofs.placing.fill_high.Goals as goal

pub loop-number-preserved : goal.loop-number-preserved
loop-number-preserved c =
    let p = c.args.problem.now in
    let number = c.loop-number.number in
    let inside : number < length p.cells = omega (arith, c.loop-number-test.true, ap length c.cells-cells.ensures.cells) in
    let is = rw c.cells-cells.ensures.cells at c.index-cells-number.is in
    let cell : c.index-cells-number.result ≡ cell_at p.cells number = is ∙ get_or_default p.cells number _ _ inside in
    let room : number < length c.loop-number.demands = omega (arith, c.loop-number.auto.demands, c.requires.room) in
    upto-set (λ k v. height_at (cell_at p.cells k).high (cell_width p c.args.widths.now (cell_at p.cells k)) ≡ Some v)
    c.loop-number.demands c.high_at.result number room c.loop-number.invariant
    (subst (λ (x : Cell). height_at x.high (cell_width p c.args.widths.now x) ≡ Some c.high_at.result) cell
    (rw (c.spacing-gap.ensures.spacing) at c.high_at.ensures))

pub returns-clause-high : goal.returns-clause-high
returns-clause-high c = record {
  count = c.loop-number.auto.demands ∙ c.requires.room;
  each = λ k within. c.loop-number.invariant k (omega (arith, c.loop-number-test.false, ap length c.cells-cells.ensures.cells));
}
