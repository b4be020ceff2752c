use Rattle.tl_table.proofs.SameFits.{same_least}
use Rattle.tl_table.proofs.same_laws.same_tables_share_least_widths.Goals as goal

pub returns : goal.returns
returns c = same_least
