-- Zone by zone.
use Rattle.std.proofs.Common.{◌∙◌}
use Rattle.tl_check.proofs.Working.{closed-next}
use Rattle.tl_check.proofs.worked.are_closed.Goals as goal

pub returns-then-not-is_closed-clause-closed : goal.returns-then-not-is_closed-clause-closed
returns-then-not-is_closed-clause-closed c = (
  λ never. absurd cc,
  λ all.
      let stands = c.stands.ensures.0 c.if-not-stands.false in
      let yes = c.is_closed.ensures.closed.1 (all c.loop-z.z stands.there stands) in
      absurd cc,
)

pub loop-z-preserved-then-not-stands : goal.loop-z-preserved-then-not-stands
loop-z-preserved-then-not-stands c =
    record {
      closed = closed-next c.args.problem.now c.args.trace.now c.args.height c.loop-z.z c.loop-z.invariant.closed
          (λ stands. let yes = c.stands.ensures.1 stands in absurd cc);
      page = c.loop-z.invariant.page;
      matrix = c.loop-z.invariant.matrix;
    }

pub loop-z-preserved : goal.loop-z-preserved
loop-z-preserved c =
    record {
      closed = closed-next c.args.problem.now c.args.trace.now c.args.height c.loop-z.z c.loop-z.invariant.closed
          (λ stands. c.is_closed.ensures.closed.0 c.if-not-is_closed.false);
      page = c.is_closed.ensures.page;
      matrix = c.is_closed.ensures.matrix ∙ c.loop-z.invariant.matrix;
    }
