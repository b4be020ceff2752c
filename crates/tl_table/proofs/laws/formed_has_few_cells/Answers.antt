use Rattle.tl_table.proofs.FewCells.{formed-few}
use Rattle.tl_table.proofs.laws.formed_has_few_cells.Goals as goal

pub returns : goal.returns
returns c = λ breaking node table becomes. formed-few becomes.0 breaking node table becomes.1
