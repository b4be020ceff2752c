use Rattle.std.proofs.Common.{◌≡◌, List, Some, get_or, sym, subst}
use Rattle.tl_base.specs.declared.steps.Config.{Config}
use Rattle.tl_base.specs.Steps.{height_at}
use Rattle.tl_base.proofs.Decreasing.{first_width-is, no_step}
use Rattle.tl_form.specs.inner.CellSteps.{IsStart}
use Rattle.tl_form.proofs.CellNeedLemmas.{steps-begin}
use Rattle.tl_form.proofs.heights.start_of.Goals as goal

pub returns : goal.returns
returns c =
    subst (λ (configs : List Config). IsStart (λ w h. height_at c.args.steps.now w ≡ Some h) (get_or configs 0 no_step).width)
    (sym c.configs.ensures.configs)
    (subst (IsStart (λ w h. height_at c.args.steps.now w ≡ Some h))
    (first_width-is c.args.steps.now no_step c.configs.ensures.sound.has_step)
    (steps-begin c.args.steps.now c.configs.ensures.sound))
