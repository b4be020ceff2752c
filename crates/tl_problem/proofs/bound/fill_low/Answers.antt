-- The demand that is written is that of the cell in turn.
use Rattle.std.proofs.Common.{◌≡◌, ℕ, ◌<◌, Some, length, arith, subst, ap, ◌∙◌}
use Rattle.std.proofs.lemmas.List.{get_or_default}
use Rattle.tl_base.specs.Steps.{height_at}
use Rattle.tl_problem.specs.declared.cell.Cell.{Cell}
use Rattle.tl_problem.specs.Bounds.{IsGreatestRoom}
use Rattle.tl_problem.specs.Works.{AreAllowed}
use Rattle.tl_problem.specs.inner.Demands.{cell_at}
use Rattle.tl_problem.proofs.NeedLemmas.{upto-set}
use Rattle.tl_problem.proofs.bound.fill_low.Goals as goal

pub loop-number-preserved : goal.loop-number-preserved
loop-number-preserved c =
    let p = c.args.problem.now in
    let number = c.loop-number.number in
    let inside : number < length p.cells = omega (arith, c.loop-number-test.true, ap length c.cells-cells.ensures.cells) in
    let is = rw c.cells-cells.ensures.cells at c.index-cells-number.is in
    let cell : c.index-cells-number.result ≡ cell_at p.cells number = is ∙ get_or_default p.cells number _ _ inside in
    let room : number < length c.loop-number.demands = omega (arith, c.loop-number.auto.demands, c.requires.room) in
    upto-set (λ k v. (w : ℕ) × (IsGreatestRoom p (AreAllowed p c.args.matrix.now.bounds) (cell_at p.cells k).left
    (cell_at p.cells k).right w ×
    (height_at (cell_at p.cells k).low w ≡ Some v)))
    c.loop-number.demands c.low_at_greatest.result number room c.loop-number.invariant
    (subst (λ (x : Cell). (w : ℕ) × (IsGreatestRoom p (AreAllowed p c.args.matrix.now.bounds) x.left x.right w ×
    (height_at x.low w ≡ Some c.low_at_greatest.result))) cell c.low_at_greatest.ensures)

pub returns-clause-low : goal.returns-clause-low
returns-clause-low c = record {
  count = c.loop-number.auto.demands ∙ c.requires.room;
  each = λ k within. c.loop-number.invariant k (omega (arith, c.loop-number-test.false, ap length c.cells-cells.ensures.cells));
}
