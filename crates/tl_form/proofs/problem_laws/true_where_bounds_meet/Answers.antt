use Rattle.tl_form.proofs.ProblemTruth.{is-true, least-there, least-back}
use Rattle.tl_form.proofs.problem_laws.true_where_bounds_meet.Goals as goal

pub returns : goal.returns
returns c = λ table style page inner problem of sound below above meet. (
  is-true table style page inner problem of sound below above meet,
  least-there table style page inner problem of sound below above meet,
  least-back table style page inner problem of sound below above meet,
)
