-- The checker of the store is reserved for the cuts of the trace, and found the line good.
use Rattle.std.proofs.Common.{ℕ, length, subst}
use Rattle.tl_check.specs.Checkers.{IsReserved}
use Rattle.tl_search_tests.proofs.stores.shrunk.Goals as goal

pub shrink-requires-clause-reserved : goal.shrink-requires-clause-reserved
shrink-requires-clause-reserved c = c.tries.ensures.stays (length c.args.trace.now)
    (subst (λ (n : ℕ). IsReserved c.args.problem.now n c.in_ok-store.store.checker) c.len-cuts.ensures
    c.in_ok-store.ensures.reserved)

pub shrink-requires-clause-good : goal.shrink-requires-clause-good
shrink-requires-clause-good c = c.tries.ensures.good.0 c.if-not-tries.false
