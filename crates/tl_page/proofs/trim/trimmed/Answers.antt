-- What is left ends in no space, or is trimmed as what is before the space.
use Rattle.std.proofs.Common.{sym, ◌∙◌, arith}
use Rattle.tl_page.proofs.TrimLaws.{trimmed-before, trimmed-ended}
use Rattle.tl_page.proofs.trim.trimmed.Goals as goal

pub returns-then-last-ne32 : goal.returns-then-last-ne32
returns-then-last-ne32 c =
    sym (trimmed-ended c.loop-last.rest.now c.in-Some.before.now c.in-Some.field-0-0.now c.in-Some.ensures.cases.0
    (λ same. absurd (omega (arith, same, c.in-Some.last-is, c.if-last-ne32.true))))
    ∙ c.loop-last.invariant

pub loop-last-preserved : goal.loop-last-preserved
loop-last-preserved c =
    trimmed-before c.loop-last.rest.now c.in-Some.before.now c.in-Some.field-0-0.now c.in-Some.ensures.cases.0
    (omega (arith, c.in-Some.last-is, c.if-last-ne32.false)) ∙ c.loop-last.invariant
