-- The checker stays reserved for the cuts of the trace.
use Rattle.std.proofs.Common.{ℕ, length, subst}
use Rattle.tl_check.specs.Checkers.{IsReserved}
use Rattle.tl_search_tests.proofs.problems.is_accepted.Goals as goal

pub log-found-requires-clause-reserved : goal.log-found-requires-clause-reserved
log-found-requires-clause-reserved c = c.trace.ensures.stays (length c.args.outcome.now.trace)
    (subst (λ (n : ℕ). IsReserved c.args.problem.now n c.in_ok-checker.checker) c.len-cuts.ensures c.in_ok-checker.ensures)
