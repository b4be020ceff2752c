-- The height is that of the last step that is narrow enough.
use Rattle.std.proofs.Common.{◌-◌, ◌∙◌, ap, sym, refl, subst, arith, Some, get_or}
use Rattle.std.proofs.lemmas.Bool.{false≢true}
use Rattle.tl_base.specs.inner.Stacking.{IsPastNarrow}
use Rattle.tl_base.proofs.Decreasing.{no_step, height_at-below, below_first, height_at-last, from_first}
use Rattle.tl_base.proofs.steps.Steps.height_at.Goals as goal

pub returns-then-narrow-eq0-clause-height : goal.returns-then-narrow-eq0-clause-height
returns-then-narrow-eq0-clause-height c =
    let steps = c.args.self.now in
    let are = c.steps_up_to-narrow.ensures.sound in
    let at = subst (λ n. IsPastNarrow steps c.args.w n) c.if-narrow-eq0.true c.steps_up_to-narrow.ensures.point in
    sym (height_at-below steps are c.args.w (below_first steps are c.args.w at))

pub returns-then-narrow-eq0-clause-none : goal.returns-then-narrow-eq0-clause-none
returns-then-narrow-eq0-clause-none c =
    let steps = c.args.self.now in
    let at = subst (λ n. IsPastNarrow steps c.args.w n) c.if-narrow-eq0.true c.steps_up_to-narrow.ensures.point in
    (λ _. below_first steps c.steps_up_to-narrow.ensures.sound c.args.w at, λ _. refl)

pub returns-clause-height : goal.returns-clause-height
returns-clause-height c =
    let n = c.steps_up_to-narrow.result in
    let of_all = height_at-last c.args.self.now c.steps_up_to-narrow.ensures.sound c.args.w n (omega (
      arith,
      c.if-narrow-eq0.false,
    )) c.steps_up_to-narrow.ensures.bound c.steps_up_to-narrow.ensures.point in
    ap (λ all. Some (get_or all (n - 1) no_step).height) c.configs.ensures.configs ∙ sym of_all

pub returns-clause-none : goal.returns-clause-none
returns-clause-none c =
    let wide = from_first c.args.self.now c.steps_up_to-narrow.ensures.sound c.args.w c.steps_up_to-narrow.result (omega (
      arith,
      c.if-narrow-eq0.false,
    )) c.steps_up_to-narrow.ensures.point in
    (λ h. absurd (false≢true (sym h)), λ narrow. absurd (omega arith))
