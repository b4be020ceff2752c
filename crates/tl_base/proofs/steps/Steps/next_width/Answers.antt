-- Past the steps that are narrow enough the next one begins.
use Rattle.std.proofs.Common.{◌<◌, ◌∙◌, ap, sym, subst, arith, length, get_or}
use Rattle.tl_base.specs.Steps.{height_at}
use Rattle.tl_base.specs.inner.Stacking.{IsNextWidth}
use Rattle.tl_base.proofs.Decreasing.{no_step, some_narrow}
use Rattle.tl_base.proofs.Stacking.{stays, next_is, has_height}
use Rattle.tl_base.proofs.steps.Steps.next_width.Goals as goal

pub returns-then-narrow-configs-clause-none : goal.returns-then-narrow-configs-clause-none
returns-then-narrow-configs-clause-none c =
    let n = c.steps_up_to-narrow.result in
    let told = c.steps_up_to-narrow.ensures in
    let some : 0 < n = some_narrow c.args.self.now told.sound c.args.w n told.point c.requires in
    stays c.args.self.now told.sound c.args.w n some told.bound told.point
    (sym (c.if-narrow-configs.true ∙ ap length c.configs.ensures.configs))

pub returns-then-narrow-configs-clause-some : goal.returns-then-narrow-configs-clause-some
returns-then-narrow-configs-clause-some c =
    let n = c.steps_up_to-narrow.result in
    let told = c.steps_up_to-narrow.ensures in
    let some : 0 < n = some_narrow c.args.self.now told.sound c.args.w n told.point c.requires in
    has_height c.args.self.now told.sound c.args.w n some told.bound told.point

pub returns-clause-next : goal.returns-clause-next
returns-clause-next c =
    let n = c.steps_up_to-narrow.result in
    let told = c.steps_up_to-narrow.ensures in
    let some : 0 < n = some_narrow c.args.self.now told.sound c.args.w n told.point c.requires in
    let within : n < length c.args.self.now = omega (
      arith,
      told.bound,
      c.if-narrow-configs.false,
      ap length c.configs.ensures.configs,
    ) in
    subst (λ next. IsNextWidth (height_at c.args.self.now) c.args.w next)
    (sym (ap (λ all. (get_or all n no_step).width) c.configs-2.ensures.configs))
    (next_is c.args.self.now told.sound c.args.w n some told.bound told.point within)

pub returns-clause-some : goal.returns-clause-some
returns-clause-some c =
    let n = c.steps_up_to-narrow.result in
    let told = c.steps_up_to-narrow.ensures in
    let some : 0 < n = some_narrow c.args.self.now told.sound c.args.w n told.point c.requires in
    has_height c.args.self.now told.sound c.args.w n some told.bound told.point
