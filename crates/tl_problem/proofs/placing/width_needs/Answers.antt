use Rattle.std.proofs.Common.{◌≡◌, ℕ, ◌<◌, Some, length, arith, ap, ◌∙◌}
use Rattle.std.proofs.lemmas.List.{get_or_default, length_push}
use Rattle.tl_base.specs.Steps.{height_at, IsLeastWidthFor}
use Rattle.tl_problem.specs.Problem.{cell_width}
use Rattle.tl_problem.specs.inner.Demands.{cell_at}
use Rattle.tl_problem.proofs.NeedLemmas.{upto-push}
use Rattle.tl_problem.proofs.placing.width_needs.Goals as goal

pub loop-number-preserved : goal.loop-number-preserved
loop-number-preserved c =
    let p = c.args.problem.now in
    let number = c.loop-number.number in
    let inside : number < length p.cells = omega (arith, c.loop-number-test.true, ap length c.requires.cells) in
    let is = rw c.requires.cells at c.index-cells-number.is in
    let cell : c.index-cells-number.result ≡ cell_at p.cells number = is ∙ get_or_default p.cells number _ _ inside in
    let one = rw (c.spacing-gap.ensures.spacing, cell) at c.width_at.ensures in
    rw c.in_ok-push.ensures.items
    (record {
      count = omega (arith, length_push c.loop-number.demands.items c.width_at.result, c.loop-number.invariant.count);
      each = upto-push (λ k v. (h : ℕ) ×
          ((height_at (cell_at p.cells k).high (cell_width p c.args.widths.now (cell_at p.cells k)) ≡ Some h) ×
          IsLeastWidthFor (cell_at p.cells k).high h v))
          c.loop-number.demands.items c.width_at.result number c.loop-number.invariant.count c.loop-number.invariant.each one;
    })

pub returns : goal.returns
returns c = record {
  count = omega (arith, c.loop-number.invariant.count, c.loop-number-test.false, ap length c.requires.cells);
  each = λ k within. c.loop-number.invariant.each k (omega (arith, c.loop-number-test.false, ap length c.requires.cells));
}
