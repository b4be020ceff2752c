-- A file spells at most one table for each breaking.
use Rattle.std.proofs.Common.{◌≡◌, List, Ok, subst}
use Rattle.tl_token.specs.declared.token.Token.{Token}
use Rattle.tl_token.proofs.SpellingLemmas.{only_tokens}
use Rattle.tl_tree.specs.Laws.{TokensSpellOneTree}
use Rattle.tl_tree.specs.Spelling.{SpellsTree}
use Rattle.tl_table.specs.Laws.{FileSpellsOneTable}
use Rattle.tl_table.proofs.OneTable.{same_tables}

pub one_table : TokensSpellOneTree → FileSpellsOneTable
one_table law bytes breaking one other first second =
    let same : first.tokens ≡ second.tokens = only_tokens bytes (Ok first.tokens) first.cut tt second.tokens second.cut in
    same_tables breaking first.node second.node one other
    (law second.tokens first.node second.node (subst (λ (tokens : List Token). SpellsTree tokens first.node) same first.read)
    second.read)
    first.formed second.formed
