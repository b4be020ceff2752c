use Rattle.std.proofs.Common.{length, subst}
use Rattle.tl_check.specs.Checkers.{IsReserved}
use Rattle.tl_verify.proofs.sections.check.Goals as goal

pub log-requires-clause-reserved : goal.log-requires-clause-reserved
log-requires-clause-reserved c = c.worked.ensures.stays (length c.args.section.now.trace)
    (subst (λ n. IsReserved c.args.problem.now n c.in_ok-checker.checker) c.len-cuts.ensures c.in_ok-checker.ensures)
