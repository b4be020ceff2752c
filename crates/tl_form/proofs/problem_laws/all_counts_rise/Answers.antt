use Rattle.std.proofs.Common.{arith}
use Rattle.tl_form.proofs.problem_laws.all_counts_rise.Goals as goal

pub returns : goal.returns
returns c = λ table style narrow wide few many within first second.
    let at = first.attained in
    let there = second.never_more at.0 at.1 in
    let rise = c.counts_rise.ensures at.0 style narrow wide few there.0 within at.2 there.1 in
    omega (arith, rise, there.2)
