use Rattle.tl_table.proofs.Numbered.{first_by_number}
use Rattle.tl_table.proofs.laws.the_first_without_a_grid_has_the_least_number.Goals as goal

pub returns : goal.returns
returns c = first_by_number
