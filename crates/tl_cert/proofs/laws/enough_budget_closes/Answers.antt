use Rattle.tl_cert.proofs.WorkedLaws.{worked-lower}
use Rattle.tl_cert.proofs.laws.enough_budget_closes.Goals as goal

pub returns : goal.returns
returns c = λ problem sound same trace height lower budget enough small worked. worked-lower problem sound trace height lower
    budget same enough small worked
