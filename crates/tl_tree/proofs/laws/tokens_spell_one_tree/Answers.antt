use Rattle.tl_tree.proofs.SameTrees.{one_tree}
use Rattle.tl_tree.proofs.laws.tokens_spell_one_tree.Goals as goal

pub returns : goal.returns
returns c = one_tree
