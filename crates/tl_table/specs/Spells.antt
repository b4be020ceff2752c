-- Which table the bytes of a file spell.
use Rattle.std.specs.Prelude.{ℕ, List}
use Rattle.tl_base.specs.declared.breaking.Breaking.{Breaking}
use Rattle.tl_token.specs.declared.token.Token.{Token}
use Rattle.tl_token.specs.Spelling.{SpellsTokens}
use Rattle.tl_tree.specs.declared.node.TableNode.{TableNode}
use Rattle.tl_tree.specs.Spelling.{SpellsTree}
use Rattle.tl_table.specs.declared.cell.Table.{Table}
use Rattle.tl_table.specs.Formed.{Becomes}

-- The bytes spell tokens, these a tree, and the tree becomes this table: each of its tables has a grid, which its caption
-- stands above, and the words are as they are or separated into units.
pub record Spells (bytes : List ℕ) (breaking : Breaking) (table : Table) : Type 0 where
  pub tokens : List Token
  pub cut : SpellsTokens bytes tokens
  pub node : TableNode
  pub read : SpellsTree tokens node
  pub formed : Becomes breaking node table
