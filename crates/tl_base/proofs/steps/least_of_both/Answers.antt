-- Below the greater first width one of both has no height.
use Rattle.std.proofs.Common.{◌≡◌, ◌∙◌, ap, sym, arith, get_or}
use Rattle.tl_base.specs.Steps.{first_width}
use Rattle.tl_base.proofs.Decreasing.{no_step, first_width-is}
use Rattle.tl_base.proofs.Stacking.{none_below}
use Rattle.tl_base.proofs.steps.least_of_both.Goals as goal

pub returns-clause-none : goal.returns-clause-none
returns-clause-none c = λ v below.
    let a : (get_or c.configs.result.now 0 no_step).width ≡ first_width c.args.a.now =
    ap (λ all. (get_or all 0 no_step).width) c.configs.ensures.configs ∙ sym
    (first_width-is c.args.a.now no_step c.configs.ensures.sound.has_step) in
    let b : (get_or c.configs-2.result.now 0 no_step).width ≡ first_width c.args.b.now =
    ap (λ all. (get_or all 0 no_step).width) c.configs-2.ensures.configs ∙ sym
    (first_width-is c.args.b.now no_step c.configs-2.ensures.sound.has_step) in
    none_below c.args.a.now c.args.b.now c.configs.ensures.sound c.configs-2.ensures.sound v (omega (arith, a, b, below))
