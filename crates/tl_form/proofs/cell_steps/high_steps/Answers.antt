use Rattle.std.proofs.Common.{◌∙◌, sym, subst}
use Rattle.std.proofs.lemmas.List.Elements.{recursion_from_All}
use Rattle.tl_table.specs.declared.cell.TableCell.{out-TableCell}
use Rattle.tl_form.specs.Problems.{AreStepsOf, CellNeeds}
use Rattle.tl_form.specs.declared.heights.HeightBound.TheVariants.{Low, High}
use Rattle.tl_form.specs.inner.CellSteps.{IsPlainBlock, NeedsBy}
use Rattle.tl_form.proofs.CellNeedLemmas.{plain-steps}
use Rattle.tl_form.proofs.cell_steps.high_steps.Goals as goal

-- without nested tables both bounds are one
pub returns : goal.returns
returns c =
    let cell = out-TableCell c.args.cell.now in
    subst (AreStepsOf (CellNeeds (NeedsBy High c.args.inner.now) c.args.lines cell) c.args.page)
    (sym (c.from_list.ensures ∙ c.in_ok-same.ensures ∙ c.configs.ensures.configs))
    (plain-steps (NeedsBy Low c.args.inner.now) (NeedsBy High c.args.inner.now) c.args.page c.args.lines cell c.args.low.now
    (recursion_from_All IsPlainBlock cell.blocks (c.is_plain.ensures.0 c.if-not-is_plain.false)) c.requires.low)
