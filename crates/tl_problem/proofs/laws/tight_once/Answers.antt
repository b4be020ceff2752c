use Rattle.tl_problem.proofs.TightLaws.{tight-is_tight, tight-unique}
use Rattle.tl_problem.proofs.laws.tight_once.Goals as goal

pub returns : goal.returns
returns c = λ problem widths tight made.
    let once = tight-is_tight problem widths tight made in
    (once, λ again more. tight-unique problem tight.widths again tight more once)
