use Rattle.std.proofs.Common.{inl, inr}
use Rattle.tl_form.proofs.LeastExists.{settles}
use Rattle.tl_form.proofs.problem_laws.least_heights_exist.Goals as goal

pub returns : goal.returns
returns c = λ table style page height layout sound fits. elim (settles style sound.depth table sound.sound page) [
  | inl least ↦ least
  | inr none ↦ absurd (none height layout fits)
]
