-- The names are there, and where the fires lead decides.
use Rattle.tl_check.proofs.Deciding.{good-decided}
use Rattle.tl_check.proofs.line.is_good_line.Goals as goal

pub returns-clause-good : goal.returns-clause-good
returns-clause-good c =
    good-decided c.args.problem.now c.args.trace.now c.args.log.now c.args.line.now c.args.lower c.args.k
    (c.names_are_there.ensures.0 c.if-not-names_are_there.false) (c.are_earlier.ensures.0 c.if-not-are_earlier.false)
    c.leads_to_end-good.result c.leads_to_end-good.ensures.good
