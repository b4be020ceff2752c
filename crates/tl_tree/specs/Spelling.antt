-- Which trees tokens spell, within which limits, and when each error comes.
use Rattle.std.specs.Prelude.{◌≡◌, ◌<◌, ◌≤◌, ℕ, ◌+◌, ◌-◌, List, [], ◌∷◌, ◌++◌, length, IsTrue, IsFalse, Result, Ok, Err}
use Rattle.std.specs.Prelude.{alloc_error}
use Rattle.tl_base.specs.declared.limits.TheConstants.{MAX_DEPTH, MAX_TABLES}
use Rattle.tl_token.specs.declared.token.Token.{Token}
use Rattle.tl_tree.specs.Tags.{Kind, Kinds, table_start, table_end, kinds, is_text}
use Rattle.tl_tree.specs.Grammar.{Marks, DocumentTokens}
use Rattle.tl_tree.specs.Paragraphs.{entries_of}
use Rattle.tl_tree.specs.Outline.{outline}
use Rattle.tl_tree.specs.Same.{AreSame}
use Rattle.tl_tree.specs.declared.node.TableNode.{TableNode}
use Rattle.tl_tree.specs.declared.error.TreeError.{TreeError}
use Rattle.tl_tree.specs.declared.error.TreeError.TheVariants.{Memory, NoTable, StrayText, Misplaced, Unclosed, TooDeep}
use Rattle.tl_tree.specs.declared.error.TreeError.TheVariants.{TooManyTables}

-- a list of tokens
abbrev pub Tokens : Type 0
Tokens = List Token

-- The tokens spell the tree: they are a document whose marks make the outline of the tree.
pub record SpellsTree (tokens : Tokens) (node : TableNode) : Type 0 where
  pub marks : Marks
  pub document : DocumentTokens (kinds tokens) marks
  pub same : outline node ≡ entries_of 0 marks

-- other tokens after these make them a document
abbrev pub IsPrefix : Kinds → Type 0
IsPrefix ks = (more : Kinds) × (ms : Marks) × DocumentTokens (ks ++ more) ms

-- how many tables are open after a token, where so many were open before it
abbrev pub depth_with : ℕ → Kind → ℕ
depth_with depth table_start = depth + 1
depth_with depth table_end = depth - 1
depth_with depth _ = depth

-- how many tables are open after these tokens, where so many were open before them
abbrev pub depth_after : ℕ → Kinds → ℕ
depth_after depth [] = depth
depth_after depth (k ∷ ks) = depth_after (depth_with depth k) ks

-- how many tables have begun after a token, where so many had begun before it
abbrev pub tables_with : ℕ → Kind → ℕ
tables_with tables table_start = tables + 1
tables_with tables _ = tables

-- how many tables have begun by the end of these tokens, where so many had begun before them
abbrev pub tables_after : ℕ → Kinds → ℕ
tables_after tables [] = tables
tables_after tables (k ∷ ks) = tables_after (tables_with tables k) ks

-- a table that begins is inside fewer than `MAX_DEPTH` others, and fewer than `MAX_TABLES` have begun before it
abbrev pub FitsLimits : ℕ → ℕ → Kind → Type 0
FitsLimits depth tables table_start = (depth < MAX_DEPTH) × (tables < MAX_TABLES)
FitsLimits depth tables _ = Unit {0}

-- each of these tokens that begins a table does so within the limits, where so many tables are open and so many have
-- begun before them
abbrev pub FitLimits : ℕ → ℕ → Kinds → Type 0
FitLimits depth tables [] = Unit {0}
FitLimits depth tables (k ∷ ks) = FitsLimits depth tables k × FitLimits (depth_with depth k) (tables_with tables k) ks

-- every table of the tokens is within the limits
abbrev pub IsWithinLimits : Kinds → Type 0
IsWithinLimits ks = FitLimits 0 0 ks

-- The token of that number is wrong: the tokens before it are within the limits and begin a document.
pub record IsWrongAt (ks : Kinds) (n : ℕ) (IsWrong : Kinds → Kind → Type 0) : Type 0 where
  pub prefix : Kinds
  pub token : Kind
  pub rest : Kinds
  pub split : ks ≡ prefix ++ (token ∷ rest)
  pub place : length prefix ≡ n
  pub begun : IsPrefix prefix
  pub within : IsWithinLimits prefix
  pub wrong : IsWrong prefix token

-- a text with which the tokens before it begin no document
abbrev pub IsStray : Kinds → Kind → Type 0
IsStray prefix token = IsTrue (is_text token) × ¬ (IsPrefix (prefix ++ token ∷ []))

-- a tag with which the tokens before it begin no document
abbrev pub IsMisplaced : Kinds → Kind → Type 0
IsMisplaced prefix token = IsFalse (is_text token) × ¬ (IsPrefix (prefix ++ token ∷ []))

-- a table that begins inside `MAX_DEPTH` others
abbrev pub IsTooDeep : Kinds → Kind → Type 0
IsTooDeep prefix token = (token ≡ table_start) × IsPrefix (prefix ++ token ∷ []) × (MAX_DEPTH ≤ depth_after 0 prefix)

-- a table that begins after `MAX_TABLES` others, and not inside `MAX_DEPTH`
abbrev pub IsOneTooMany : Kinds → Kind → Type 0
IsOneTooMany prefix token =
    (token ≡ table_start) × IsPrefix (prefix ++ token ∷ []) × (depth_after 0 prefix < MAX_DEPTH) ×
    (MAX_TABLES ≤ tables_after 0 prefix)

-- The error that refuses the tokens; out of memory is none of them.
abbrev pub AreNoDocument : Kinds → TreeError → Type 0
AreNoDocument ks (Memory error) = ⊥
AreNoDocument ks NoTable = IsPrefix ks × (tables_after 0 ks ≡ 0)
AreNoDocument ks (StrayText n) = IsWrongAt ks n IsStray
AreNoDocument ks (Misplaced n) = IsWrongAt ks n IsMisplaced
AreNoDocument ks Unclosed = IsPrefix ks × IsWithinLimits ks × (0 < depth_after 0 ks)
AreNoDocument ks (TooDeep n) = IsWrongAt ks n IsTooDeep
AreNoDocument ks (TooManyTables n) = IsWrongAt ks n IsOneTooMany

-- the error that refuses the tokens of a file
abbrev pub SpellsNoTree : Tokens → TreeError → Type 0
SpellsNoTree tokens error = AreNoDocument (kinds tokens) error

-- a tree that is the same as this one is returned, unless memory ran out
abbrev pub ReturnsTree : TableNode → Result TableNode TreeError → Type 0
ReturnsTree node (Ok returned) = AreSame returned node
ReturnsTree node (Err error) = error ≡ Memory alloc_error
