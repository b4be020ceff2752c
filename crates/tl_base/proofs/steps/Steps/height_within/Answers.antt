-- A step is narrow enough, and its height is at most that of the first.
use Rattle.std.proofs.Common.{◌-◌, ◌<◌, ◌∙◌, ap, sym, arith, Some, get_or}
use Rattle.tl_base.proofs.Decreasing.{no_step, height_at-last, some_narrow}
use Rattle.tl_base.proofs.Stacking.{height_le_first}
use Rattle.tl_base.proofs.steps.Steps.height_within.Goals as goal

pub overflow_sub-result : goal.overflow_sub-result
overflow_sub-result c =
    omega (
      arith,
      some_narrow c.args.self.now c.steps_up_to-narrow.ensures.sound c.args.w c.steps_up_to-narrow.result
          c.steps_up_to-narrow.ensures.point c.requires,
    )

pub returns-clause-height : goal.returns-clause-height
returns-clause-height c =
    let n = c.steps_up_to-narrow.result in
    let told = c.steps_up_to-narrow.ensures in
    let some : 0 < n = some_narrow c.args.self.now told.sound c.args.w n told.point c.requires in
    height_at-last c.args.self.now told.sound c.args.w n some told.bound told.point
    ∙ ap (λ all. Some (get_or all (n - 1) no_step).height) (sym c.configs.ensures.configs)

pub returns-clause-bound : goal.returns-clause-bound
returns-clause-bound c =
    let n = c.steps_up_to-narrow.result in
    let told = c.steps_up_to-narrow.ensures in
    let some : 0 < n = some_narrow c.args.self.now told.sound c.args.w n told.point c.requires in
    omega (
      arith,
      height_le_first c.args.self.now told.sound c.args.w n some told.bound told.point,
      ap (λ all. (get_or all (n - 1) no_step).height) c.configs.ensures.configs,
    )
