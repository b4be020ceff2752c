use Rattle.tl_token.proofs.ElementLemmas.{is_word_from}
use Rattle.tl_token.proofs.elements.is_word.Goals as goal

pub returns : goal.returns
returns c =
    is_word_from c.args.name.now c.args.word.now c.eq_ignore_ascii_case.result c.utf8.name c.requires
    c.eq_ignore_ascii_case.ensures.test
