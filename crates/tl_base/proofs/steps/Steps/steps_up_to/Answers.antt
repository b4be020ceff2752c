-- The steps that are narrow enough come first.
use Rattle.std.proofs.Common.{◌∙◌, nat_le, rules, subst, sym}
use Rattle.std.proofs.lemmas.List.Sorted.{IsPartitionPoint-from_clause}
use Rattle.tl_base.specs.Steps.{AreSteps}
use Rattle.tl_base.specs.inner.Stacking.{IsPastNarrow}
use Rattle.tl_base.proofs.Decreasing.{narrow_first}
use Rattle.tl_base.proofs.steps.Steps.steps_up_to.Goals as goal

pub returns-clause-point : goal.returns-clause-point
returns-clause-point c =
    let steps = c.as_slice.result.now in
    let are : AreSteps steps = subst (λ all. AreSteps all) (sym c.as_slice.ensures) c.self.invariant in
    let at : IsPastNarrow steps c.args.w c.partition_point.result =
    IsPartitionPoint-from_clause (λ step. nat_le step.width c.args.w)
    steps c.partition_point.result c.partition_point.ensures.partitioned
    (narrow_first steps are c.args.w) (λ a r f q. search rules) in
    subst (λ all. IsPastNarrow all c.args.w c.partition_point.result) (c.as_slice.ensures ∙ c.self.view_is) at
