use Rattle.std.proofs.Common.{arith}
use Rattle.tl_table.specs.Least.{IsLeastHeight}
use Rattle.tl_form.proofs.CountsRise.{counts-rise}
use Rattle.tl_form.proofs.problem_laws.counts_rise.Goals as goal

pub returns : goal.returns
returns c = λ table style narrow wide few many within first second.
    let rise = counts-rise (λ nested. IsLeastHeight nested style) (λ nested. IsLeastHeight nested style)
    style narrow wide table first.0 second.0 within
    first.1 second.1 in
    omega (arith, rise, first.2, second.2)
