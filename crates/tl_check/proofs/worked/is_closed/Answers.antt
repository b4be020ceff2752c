-- By what is left to close it.
use Rattle.std.proofs.Common.{inr}
use Rattle.tl_cert.specs.Traces.{zone_of}
use Rattle.tl_check.proofs.Working.{closed-some}
use Rattle.tl_check.proofs.worked.is_closed.Goals as goal

pub returns-then-has_one_class-clause-closed : goal.returns-then-has_one_class-clause-closed
returns-then-has_one_class-clause-closed c =
    let p = c.args.problem.now in
    let zone = zone_of p c.args.trace.now c.args.z in (
      λ yes. inr (inr (c.has_one_class.ensures.0 c.if-has_one_class.true, c.differs.ensures.0 yes)),
      λ closed. c.differs.ensures.1
          (closed-some p zone c.args.height c.in-Some.bound c.in-Some.ensures.bound c.if-bound-height.false closed).1,
    )
