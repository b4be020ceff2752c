-- From the last step on the height is that of the last step.
use Rattle.std.proofs.Common.{◌≡◌, ◌-◌, Some, length, sym, ap, ◌∙◌, arith}
use Rattle.tl_problem.proofs.Heights.{step_at, height-between}
use Rattle.tl_problem.proofs.bound.height_in.Goals as goal

pub returns-then-last-room : goal.returns-then-last-room
returns-then-last-room c =
    let steps = c.args.steps.now in
    let all = c.configs-configs.result.now in
    let same : all ≡ steps = c.configs-configs.ensures.configs in
    let are = c.configs-configs.ensures.sound in
    let last = length steps - 1 in
    let here : step_at all (length all - 1) ≡ step_at steps last = ap (λ list. step_at list (length list - 1)) same in
    let wide = ap (λ step. step.width) here in
    height-between steps are last c.args.room (omega (arith, are.has_step)) (omega (arith, c.if-last-room.true, wide))
    (λ more. absurd (omega (arith, more)))
    ∙ ap (λ step. Some step.height) (sym here)
