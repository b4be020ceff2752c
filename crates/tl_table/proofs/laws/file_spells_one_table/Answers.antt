use Rattle.tl_table.proofs.OneFile.{one_table}
use Rattle.tl_table.proofs.laws.file_spells_one_table.Goals as goal

pub returns : goal.returns
returns c = one_table c.tokens_spell_one_tree.ensures
