use Rattle.tl_form.specs.Problems.{InnerNeeds}
use Rattle.tl_form.proofs.ProblemTruth.{high-fits}
use Rattle.tl_form.proofs.problem_laws.layouts_by_high_fit.Goals as goal

pub returns : goal.returns
returns c = λ table style page inner problem of sound above.
    high-fits (InnerNeeds (λ bounds. bounds.low) inner) (InnerNeeds (λ bounds. bounds.high) inner)
    table style page problem of sound above
