use Rattle.tl_form.specs.Problems.{InnerNeeds}
use Rattle.tl_form.proofs.ProblemTruth.{fits-low}
use Rattle.tl_form.proofs.problem_laws.layouts_are_by_low.Goals as goal

pub returns : goal.returns
returns c = λ table style page inner problem of sound below.
    fits-low (InnerNeeds (λ bounds. bounds.low) inner) (InnerNeeds (λ bounds. bounds.high) inner)
    table style page problem of sound below
