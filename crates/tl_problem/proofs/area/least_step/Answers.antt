-- A step past `low` and up to `high` may have the least area; any other is left out.
use Rattle.std.proofs.Common.{◌≡◌, length, arith}
use Rattle.tl_problem.proofs.AreaSteps.{IsLeastStep-none, IsLeastStep-skip, IsLeastStep-more}
use Rattle.tl_problem.proofs.area.least_step.Goals as goal
use Rattle.tl_problem.proofs.area.least_step.Goals.{then-low-step+then-step-high, else-low-step}
use Rattle.tl_problem.proofs.area.least_step.Goals.{else-low-step-via-then-low-step+else-step-high}
use Rattle.tl_problem.proofs.area.least_step.Goals.{else-low-step-via-else-low-step}

pub loop-number-init : goal.loop-number-init
loop-number-init c = IsLeastStep-none c.args.gap c.args.row_gap c.args.steps.now c.args.low c.args.high c.args.start

pub loop-number-preserved : goal.loop-number-preserved
loop-number-preserved c =
    elim c.if-low-step.branch [
      | then-low-step+then-step-high w ↦
          rw (w.least-is, w.min-least.ensures, w.area_at.ensures)
          (IsLeastStep-more c.args.gap c.args.row_gap c.args.steps.now c.args.low c.args.high c.args.start c.loop-number.number
          c.loop-number.least
          c.loop-number.invariant w.if-low-step.true w.if-step-high.true)
      | else-low-step w ↦
          rw w.least-is
          (IsLeastStep-skip c.args.gap c.args.row_gap c.args.steps.now c.args.low c.args.high c.args.start c.loop-number.number
          c.loop-number.least
          c.loop-number.invariant (λ past within.
          elim w.else-low-step.branch [
            | else-low-step-via-then-low-step+else-step-high w' ↦ absurd (omega (arith, w'.if-step-high.false))
            | else-low-step-via-else-low-step w' ↦ absurd (omega (arith, w'.if-low-step.false))
          ]))
    ]

pub returns : goal.returns
returns c =
    let all : c.loop-number.number ≡ length c.args.steps.now = omega arith in
    rw all at c.loop-number.invariant
