use Rattle.tl_table.proofs.SameTables.{same_nests}
use Rattle.tl_table.proofs.same_laws.same_tables_nest_as_many.Goals as goal

pub returns : goal.returns
returns c = same_nests
