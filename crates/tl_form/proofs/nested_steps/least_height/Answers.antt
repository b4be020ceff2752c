use Rattle.std.proofs.Common.{◌∙◌, ◌+◌, Some, get_or, take, sym, ap, subst, arith}
use Rattle.std.proofs.lemmas.List.{get_or_default}
use Rattle.tl_form.specs.declared.nested_steps.Finding.{Finding}
use Rattle.tl_form.specs.inner.Collecting.{IsPlacedIn}
use Rattle.tl_form.proofs.BestOf.{BestFewest, fewest_counted, fewest_skipped}
use Rattle.tl_form.proofs.nested_steps.least_height.Goals.{then-one-w, else-one-w}
use Rattle.tl_form.proofs.nested_steps.least_height.Goals as goal

pub loop-one-preserved : goal.loop-one-preserved
loop-one-preserved c =
    let none : Finding = record { width = 0; placed = 0; height = 0; lower = 0 } in
    let told = c.args.told.now in
    let i = c.loop-one.one-index in
    let one = get_or told i none in
    let is = get_or_default told i none one c.loop-one-test.true in
    elim c.if-one-w.branch [
      | then-one-w w ↦ subst (BestFewest (IsPlacedIn c.args.w) (λ each. each.height) (take (i + 1) told))
          (sym (w.least-is ∙ ap Some w.lesser.ensures))
          (fewest_counted (IsPlacedIn c.args.w) (λ each. each.height)
          told i one c.loop-one.least c.loop-one-test.true is c.loop-one.invariant
          w.if-one-w.true)
      | else-one-w w ↦ subst (BestFewest (IsPlacedIn c.args.w) (λ each. each.height) (take (i + 1) told)) (sym w.least-is)
          (fewest_skipped (IsPlacedIn c.args.w) (λ each. each.height)
          told i one c.loop-one.least c.loop-one-test.true is c.loop-one.invariant
          (λ counts. omega (arith, w.if-one-w.false, counts)))
    ]
