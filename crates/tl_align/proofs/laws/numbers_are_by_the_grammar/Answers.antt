use Rattle.tl_align.proofs.NumberLemmas.{by_the_grammar}
use Rattle.tl_align.proofs.laws.numbers_are_by_the_grammar.Goals as goal

pub returns : goal.returns
returns c = by_the_grammar
