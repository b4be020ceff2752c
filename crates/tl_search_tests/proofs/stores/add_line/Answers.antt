-- The checker of the store stays reserved.
use Rattle.std.proofs.Common.{length}
use Rattle.tl_search_tests.proofs.stores.add_line.Goals as goal

pub returns-in_err-number-clause-reserved : goal.returns-in_err-number-clause-reserved
returns-in_err-number-clause-reserved c = c.add.ensures.stays (length c.args.trace.now)
    (c.tries.ensures.stays (length c.args.trace.now) c.requires.reserved)

pub returns-clause-reserved : goal.returns-clause-reserved
returns-clause-reserved c = c.add.ensures.stays (length c.args.trace.now)
    (c.tries.ensures.stays (length c.args.trace.now) c.requires.reserved)

pub returns-then-not-tries-clause-reserved : goal.returns-then-not-tries-clause-reserved
returns-then-not-tries-clause-reserved c = c.tries.ensures.stays (length c.args.trace.now) c.requires.reserved
