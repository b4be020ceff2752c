-- The subject is that of the table.
use Rattle.std.proofs.Common.{subst}
use Rattle.tl_table.specs.declared.cell.Table.{Table}
use Rattle.tl_table.specs.Least.{IsLeastWidth}
use Rattle.tl_lay.proofs.tidiest.tidied_on.Goals as goal

pub found-requires-clause-wide : goal.found-requires-clause-wide
found-requires-clause-wide g c = λ lifetimes outlives least is. c.requires.wide least
    (subst (λ (table : Table). IsLeastWidth table c.args.task.now.style least) c.in_ok-subject.ensures.is.same is)

pub laid-requires-clause-placed : goal.laid-requires-clause-placed
laid-requires-clause-placed g c κs within = rw c.in_ok-subject.ensures.is.same at c.in_ok-certificate.ensures.placed
