-- A step past `least` and up to `most` is put at the end; any other is left out.
use Rattle.std.proofs.Common.{arith}
use Rattle.std.proofs.lemmas.List.{take_more}
use Rattle.tl_problem.proofs.SpanningLemmas.{AddsSteps-skip, AddsSteps-push}
use Rattle.tl_problem.proofs.spans.add_steps.Goals as goal
use Rattle.tl_problem.proofs.spans.add_steps.Goals.{then-least-step+then-step-most+in_ok-push, else-least-step}
use Rattle.tl_problem.proofs.spans.add_steps.Goals.{else-least-step-via-then-least-step+else-step-most}
use Rattle.tl_problem.proofs.spans.add_steps.Goals.{else-least-step-via-else-least-step}

pub loop-step-preserved : goal.loop-step-preserved
loop-step-preserved c =
    let more = take_more c.args.steps.now c.loop-step.step-index (record { width = 0; height = 0 }) c.loop-step-test.true in
    rw more
    (elim c.if-least-step.branch [
      | then-least-step+then-step-most+in_ok-push w ↦
          rw (w.firsts-is, w.in_ok-push.ensures.items)
          (AddsSteps-push c.args.firsts.now.items c.loop-step.firsts.items c.args.least c.args.most _ _ c.loop-step.invariant
          w.if-least-step.true
          w.if-step-most.true)
      | else-least-step w ↦
          rw w.firsts-is
          (AddsSteps-skip c.args.firsts.now.items c.loop-step.firsts.items c.args.least c.args.most _ _ c.loop-step.invariant
          (λ past within.
          elim w.else-least-step.branch [
            | else-least-step-via-then-least-step+else-step-most w' ↦ absurd (omega (arith, w'.if-step-most.false))
            | else-least-step-via-else-least-step w' ↦ absurd (omega (arith, w'.if-least-step.false))
          ]))
    ])
