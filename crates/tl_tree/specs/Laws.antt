-- The law of the grammar. It is the contract of a function of `laws`.
use Rattle.std.specs.Prelude.{List}
use Rattle.tl_token.specs.declared.token.Token.{Token}
use Rattle.tl_tree.specs.Same.{AreSame}
use Rattle.tl_tree.specs.Spelling.{SpellsTree}
use Rattle.tl_tree.specs.declared.node.TableNode.{TableNode}

-- tokens spell at most one tree
abbrev pub TokensSpellOneTree : Type 0
TokensSpellOneTree = (tokens : List Token) (one other : TableNode) → SpellsTree tokens one → SpellsTree tokens other →
    AreSame one other
