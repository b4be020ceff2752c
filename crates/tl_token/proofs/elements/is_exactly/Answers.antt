use Rattle.std.proofs.Common.{◌∙◌}
use Rattle.tl_token.proofs.ElementLemmas.{is_exactly_from}
use Rattle.tl_token.proofs.elements.is_exactly.Goals as goal

pub returns : goal.returns
returns c = c.eq.ensures ∙ is_exactly_from c.args.name.now c.args.word.now c.utf8.name c.requires
