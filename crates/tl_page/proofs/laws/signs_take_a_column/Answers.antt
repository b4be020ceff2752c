use Rattle.tl_page.proofs.SignLemmas.{one_column}
use Rattle.tl_page.proofs.laws.signs_take_a_column.Goals as goal

pub returns : goal.returns
returns c = λ character is. one_column character is
