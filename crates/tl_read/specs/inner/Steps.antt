-- No public clause cites this file: it says what a tree, tokens, bytes and records are read as, a table or a refusal, step by
-- step.
use Rattle.std.specs.Prelude.{◌≡◌, ◌⊎◌, ℕ, Bool, List, length, Some}
use Rattle.tl_base.specs.declared.breaking.Breaking.{Breaking}
use Rattle.tl_token.specs.declared.token.Token.{Token}
use Rattle.tl_token.specs.declared.token.TokenError.{TokenError}
use Rattle.tl_token.specs.Spelling.{SpellsTokens, SpellsNoTokens}
use Rattle.tl_tree.specs.declared.error.TreeError.{TreeError}
use Rattle.tl_tree.specs.declared.node.TableNode.{TableNode}
use Rattle.tl_tree.specs.Spelling.{SpellsTree, IsWithinLimits, SpellsNoTree}
use Rattle.tl_tree.specs.Tags.{kinds}
use Rattle.tl_table.specs.Formed.{Becomes}
use Rattle.tl_read.specs.declared.reading.Reading.{Reading}
use Rattle.tl_read.specs.declared.reading.Reading.TheVariants as readings
use Rattle.tl_read.specs.declared.refusal.Refusal.{Refusal}
use Rattle.tl_columns.specs.Columns.{IsCsvTable}
use Rattle.tl_columns.specs.Records.{csv_records}
use Rattle.tl_read.specs.Reading.{RefusesTree, RefusesCsv}
use Rattle.tl_read.specs.Refusals.{token_refusal, tree_refusal}

-- a tree becomes this table, or is refused for a table without a grid
abbrev pub ReadsTree : Breaking → TableNode → Reading → Type 0
ReadsTree breaking node (readings.Table table) = Becomes breaking node table
ReadsTree breaking node (readings.Refused refusal) = RefusesTree node refusal

-- tokens of a file of so many bytes are a tree within the limits of depth and tables, and that is read; or they are none
abbrev pub ReadsTokens : Breaking → ℕ → List Token → Reading → Type 0
ReadsTokens breaking size tokens reading =
    ((node : TableNode) × SpellsTree tokens node × IsWithinLimits (kinds tokens) × ReadsTree breaking node reading)
    ⊎ ((error : TreeError) × (refusal : Refusal) × SpellsNoTree tokens error × (tree_refusal size tokens error ≡ Some refusal)
    × (reading ≡ readings.Refused refusal))

-- HTML within the limit of a file is tokens, and these are read; or it is none
abbrev pub ReadsBytes : Breaking → List ℕ → Reading → Type 0
ReadsBytes breaking bytes reading =
    ((tokens : List Token) × SpellsTokens bytes tokens × ReadsTokens breaking (length bytes) tokens reading)
    ⊎ ((error : TokenError) × (refusal : Refusal) × SpellsNoTokens bytes error × (token_refusal error ≡ Some refusal)
    × (reading ≡ readings.Refused refusal))

-- the records of CSV within the limit of a file are this table, or are refused for this reason
abbrev pub ReadsRecords : Bool → List ℕ → Breaking → List ℕ → Reading → Type 0
ReadsRecords head floors breaking bytes (readings.Table table) = IsCsvTable (csv_records bytes) head floors breaking table
ReadsRecords head floors breaking bytes (readings.Refused refusal) = RefusesCsv bytes refusal
