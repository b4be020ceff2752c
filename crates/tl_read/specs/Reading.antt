-- Which table the bytes of a file are, and why they are refused: the first of the steps that cannot be done decides. The
-- steps of HTML are its tokens, its tree and the grids of its tables; those of CSV its records and the limits of their table.
use Rattle.std.specs.Prelude.{◌≡◌, ◌⊎◌, ℕ, ◌+◌, ◌<◌, ◌≤◌, List, length, Option, None, Some}
use Rattle.tl_base.specs.declared.breaking.Breaking.{Breaking}
use Rattle.tl_base.specs.declared.limits.TheConstants.{MAX_FILE_BYTES}
use Rattle.tl_token.specs.declared.token.Token.{Token}
use Rattle.tl_token.specs.declared.token.TokenError.{TokenError}
use Rattle.tl_token.specs.Spelling.{SpellsTokens, SpellsNoTokens}
use Rattle.tl_tree.specs.declared.error.TreeError.{TreeError}
use Rattle.tl_tree.specs.declared.node.TableNode.{TableNode}
use Rattle.tl_tree.specs.Spelling.{SpellsTree, IsWithinLimits, SpellsNoTree}
use Rattle.tl_tree.specs.Tags.{kinds}
use Rattle.tl_table.specs.declared.error.FormError.{FormError}
use Rattle.tl_table.specs.Refused.{HasNoGrid}
use Rattle.tl_table.specs.declared.cell.Table.{Table}
use Rattle.tl_table.specs.FewCells.{HasFewCells}
use Rattle.tl_table.specs.Same.{AreSame}
use Rattle.tl_table.specs.Sound.{IsSound}
use Rattle.tl_table.specs.Spells.{Spells}
use Rattle.tl_table.specs.Spellable.{IsSpellable}
use Rattle.tl_columns.specs.declared.error.CsvError.{CsvError}
use Rattle.tl_columns.specs.Columns.{IsCsvTable}
use Rattle.tl_columns.specs.Records.{csv_records}
use Rattle.tl_columns.specs.Refused.{IsCsvRefused}
use Rattle.tl_read.specs.declared.source.Source.{Source}
use Rattle.tl_read.specs.declared.source.Source.TheVariants as sources
use Rattle.tl_read.specs.declared.reading.Reading.{Reading}
use Rattle.tl_read.specs.declared.reading.Reading.TheVariants as readings
use Rattle.tl_read.specs.declared.refusal.Limit.TheVariants as limits
use Rattle.tl_read.specs.declared.refusal.Refusal.{Refusal}
use Rattle.tl_read.specs.declared.refusal.Refusal.TheVariants as refusals
use Rattle.tl_read.specs.Refusals.{token_refusal, tree_refusal, form_refusal, csv_refusal}

-- ---- a table

-- the bytes spell the table, within the limits of depth and tables
pub record SpellsWithinLimits (bytes : List ℕ) (breaking : Breaking) (table : Table) : Type 0 where
  pub spells : Spells bytes breaking table
  pub within : IsWithinLimits (kinds spells.tokens)

-- ---- a refusal

-- a tree has a table without a grid, and is refused for that
abbrev pub RefusesTree : TableNode → Refusal → Type 0
RefusesTree node refusal = (error : FormError) × HasNoGrid node error × (form_refusal error ≡ Some refusal)

-- tokens of a file of so many bytes are no tree within the limits, and are refused for that; or their tree is refused
abbrev pub RefusesTokens : ℕ → List Token → Refusal → Type 0
RefusesTokens size tokens refusal =
    ((error : TreeError) × SpellsNoTree tokens error × (tree_refusal size tokens error ≡ Some refusal))
    ⊎ ((node : TableNode) × SpellsTree tokens node × IsWithinLimits (kinds tokens) × RefusesTree node refusal)

-- bytes are no tokens, and are refused for that; or their tokens are refused
abbrev pub RefusesHtml : List ℕ → Refusal → Type 0
RefusesHtml bytes refusal =
    ((error : TokenError) × SpellsNoTokens bytes error × (token_refusal error ≡ Some refusal))
    ⊎ ((tokens : List Token) × SpellsTokens bytes tokens × RefusesTokens (length bytes) tokens refusal)

-- the records of CSV are no table, and are refused for that
abbrev pub RefusesCsv : List ℕ → Refusal → Type 0
RefusesCsv bytes refusal =
    (error : CsvError) × IsCsvRefused (csv_records bytes) error × (csv_refusal error ≡ Some refusal)

-- ---- which of the two

-- how the paragraphs of a source are broken into lines
abbrev pub breaking_in : Source → Breaking
breaking_in (sources.Html breaking) = breaking
breaking_in (sources.Csv head floors breaking) = breaking

-- the same file with its paragraphs broken so
abbrev pub with_breaking : Breaking → Source → Source
with_breaking breaking (sources.Html other) = sources.Html breaking
with_breaking breaking (sources.Csv head floors other) = sources.Csv head floors breaking

-- bytes within the limit of a file are this table, by what kind of file they are
abbrev pub IsTableOfFile : Source → List ℕ → Table → Type 0
IsTableOfFile (sources.Html breaking) bytes table = SpellsWithinLimits bytes breaking table
IsTableOfFile (sources.Csv head floors breaking) bytes table = IsCsvTable (csv_records bytes) head floors breaking table

-- bytes within the limit of a file are no table, and are refused for this reason, by what kind of file they are
abbrev pub IsNoTableFor : Source → List ℕ → Refusal → Type 0
IsNoTableFor (sources.Html breaking) bytes refusal = RefusesHtml bytes refusal
IsNoTableFor (sources.Csv head floors breaking) bytes refusal = RefusesCsv bytes refusal

-- bytes within the limit of a file are this table, or are refused for this reason
abbrev pub ReadsAs : Source → List ℕ → Reading → Type 0
ReadsAs source bytes (readings.Table table) = IsTableOfFile source bytes table
ReadsAs source bytes (readings.Refused refusal) = IsNoTableFor source bytes refusal

-- the refusal of a file past its limit: so many of its bytes are read
abbrev pub too_long : Refusal
too_long = refusals.Limit limits.File (MAX_FILE_BYTES + 1)

-- the bytes of a file are this table, or are refused for this reason
abbrev pub IsReading : Source → List ℕ → Reading → Type 0
IsReading source bytes reading = ((MAX_FILE_BYTES < length bytes) × (reading ≡ readings.Refused too_long))
    ⊎ ((length bytes ≤ MAX_FILE_BYTES) × ReadsAs source bytes reading)

-- two readings are the same, wherever in memory nested tables lie
abbrev pub AreSameReadings : Reading → Reading → Type 0
AreSameReadings (readings.Table one) (readings.Table other) = AreSame one other
AreSameReadings (readings.Table one) (readings.Refused other) = ⊥
AreSameReadings (readings.Refused one) (readings.Table other) = ⊥
AreSameReadings (readings.Refused one) (readings.Refused other) = one ≡ other

-- the table that was read, if it is one
abbrev pub table_in : Reading → Option Table
table_in (readings.Table table) = Some table
table_in (readings.Refused refusal) = None

-- a table that was read is one that a file of HTML can spell, by the same breaking
abbrev pub IsSpellableReading : Source → Reading → Type 0
IsSpellableReading source (readings.Table table) = IsSpellable (breaking_in source) table
IsSpellableReading source (readings.Refused refusal) = Unit {0}

-- a table that was read is sound, and has no more cells than a grid may have
abbrev pub IsSoundReading : Reading → Type 0
IsSoundReading (readings.Table table) = IsSound table × HasFewCells table
IsSoundReading (readings.Refused refusal) = Unit {0}
