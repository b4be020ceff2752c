use Rattle.std.proofs.Common.{arith}
use Rattle.tl_base.specs.declared.style.Style.TheVariants.{Plain}
use Rattle.tl_table.proofs.LinkLemmas.{IsLeastWidth-unique}
use Rattle.tl_form_tests.proofs.nested_tests.shown.Goals as goal

pub inner_steps-requires-clause-wide : goal.inner_steps-requires-clause-wide
inner_steps-requires-clause-wide c = λ least is.
    let same = IsLeastWidth-unique c.args.table.now Plain least c.in_ok-least.least is c.in_ok-least.ensures.least in
    omega (arith, same, c.if-width-least.false)
