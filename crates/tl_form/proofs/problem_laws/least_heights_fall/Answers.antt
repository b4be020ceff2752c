use Rattle.tl_form.proofs.Truth.{Fits-wider}
use Rattle.tl_form.proofs.problem_laws.least_heights_fall.Goals as goal

pub returns : goal.returns
returns c = λ table style narrow wide high low within first second.
    second.least high first.attained.0
    (Fits-wider style table narrow wide high first.attained.0 within first.attained.1)
