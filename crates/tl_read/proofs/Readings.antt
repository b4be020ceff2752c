-- A file has at most one reading, but for where in memory its tables lie.
use Rattle.std.proofs.Common.{◌≡◌, ◌⊎◌, inl, inr, ℕ, ◌≤◌, Bool, List, length, arith, Option, Some, None}
use Rattle.std.proofs.Common.{refl, sym, subst, ◌∙◌, Result, Ok, Err, IfOk, alloc_error}
use Rattle.std.specs.declared.alloc.AllocError.{AllocError}
use Rattle.std.specs.List.{AllByRecursion}
use Rattle.tl_base.specs.declared.breaking.Breaking.{Breaking}
use Rattle.tl_base.specs.Returned.{IsMemoryOr}
use Rattle.tl_base.specs.declared.limits.TheConstants.{MAX_FILE_BYTES}
use Rattle.tl_base.proofs.Options.{Some-same}
use Rattle.tl_token.specs.declared.token.Token.{Token}
use Rattle.tl_token.specs.declared.token.TokenError.{TokenError}
use Rattle.tl_token.specs.declared.token.TokenError.TheVariants as cuts
use Rattle.tl_token.specs.Spelling.{SpellsTokens, SpellsNoTokens}
use Rattle.tl_tree.specs.declared.error.TreeError.{TreeError}
use Rattle.tl_tree.specs.declared.error.TreeError.TheVariants as trees
use Rattle.tl_tree.specs.declared.node.TableNode.{TableNode}
use Rattle.tl_tree.specs.Spelling.{SpellsTree, IsWithinLimits, SpellsNoTree}
use Rattle.tl_tree.specs.Tags.{kinds}
use Rattle.tl_tree.specs.Same.{AreSame as AreSameTrees}
use Rattle.tl_table.specs.declared.cell.Table.{Table}
use Rattle.tl_table.specs.declared.error.FormError.{FormError}
use Rattle.tl_table.specs.declared.error.FormError.TheVariants as errors
use Rattle.tl_table.specs.Formed.{Becomes}
use Rattle.tl_table.specs.Refused.{NumberedShape, HasSomeGrid, AreRefused, HasNoGrid, numbered_shapes}
use Rattle.tl_table.proofs.Gridless.{becomes_gridded, not_among}
use Rattle.tl_table.proofs.OneTable.{same_tables}
use Rattle.tl_table.specs.Same.{AreSame}
use Rattle.tl_columns.specs.declared.error.CsvError.{CsvError}
use Rattle.tl_columns.specs.declared.error.CsvError.TheVariants as records
use Rattle.tl_columns.specs.Columns.{IsCsvTable}
use Rattle.tl_columns.specs.Records.{csv_records}
use Rattle.tl_columns.specs.Refused.{IsCsvRefused}
use Rattle.tl_columns.proofs.CsvLists.{of_file}
use Rattle.tl_columns.proofs.Soundness.{csv_itself}
use Rattle.tl_read.specs.declared.reading.Reading.{Reading}
use Rattle.tl_read.specs.declared.reading.Reading.TheVariants as readings
use Rattle.tl_read.specs.declared.refusal.Refusal.{Refusal}
use Rattle.tl_read.specs.Refusals.{token_refusal, tree_refusal, form_refusal, csv_refusal}
use Rattle.tl_read.specs.declared.source.Source.{Source}
use Rattle.tl_read.specs.declared.source.Source.TheVariants as sources
use Rattle.tl_read.specs.Reading.{ReadsAs, IsReading, IsTableOfFile, AreSameReadings, too_long}
use Rattle.tl_read.specs.inner.Steps.{ReadsTree, ReadsTokens, ReadsBytes, ReadsRecords}
use Rattle.tl_table.proofs.SameShapes.{same_shapes}

-- a refusal that is found is the one
pub one_refusal : (cause : Option Refusal) (found other : Refusal) → cause ≡ Some found → cause ≡ Some other → found ≡ other
one_refusal cause found other first second = Some-same (sym first ∙ second)

-- out of memory is no refusal
some_not_none : (found : Refusal) → None ≡ Some found → ⊥
some_not_none found e = absurd cc

pub memory_refused : (found : Refusal) (error : FormError) → error ≡ errors.Memory alloc_error →
    form_refusal error ≡ Some found → ⊥
memory_refused found error memory is = some_not_none found (subst (λ (e : FormError). form_refusal e ≡ Some found) memory is)

-- what is refused in a tree is refused in the same one elsewhere
pub refused_elsewhere : (node other : TableNode) (error : FormError) → AreSameTrees node other → HasNoGrid other error →
    HasNoGrid node error
refused_elsewhere node other error same refused = subst (λ (tables : List NumberedShape). AreRefused tables error)
    (sym (same_shapes node other same)) refused

-- the reading of a tree that becomes a table
pub table_alike : (breaking : Breaking) (node other : TableNode) (table : Table) (reading : Reading) → AreSameTrees node other →
    Becomes breaking node table →
    ((error : FormError) → HasNoGrid node error → ⊥) → ReadsTree breaking other reading →
    AreSameReadings (readings.Table table) reading
table_alike breaking node other table (readings.Table another) same becomes never is =
    same_tables breaking node other table another same becomes is
table_alike breaking node other table (readings.Refused refusal) same becomes never is =
    absurd (never is.0 (refused_elsewhere node other is.0 same is.1))

-- the reading of a tree that is refused
pub refused_alike : (breaking : Breaking) (node other : TableNode) (error : FormError) (found : Refusal) (reading : Reading) →
    AreSameTrees node other →
    IsMemoryOr (errors.Memory alloc_error) (HasNoGrid node) error →
    ((cause : FormError) → HasNoGrid node cause → (error ≡ errors.Memory alloc_error) ⊎ (error ≡ cause)) →
    form_refusal error ≡ Some found → ReadsTree breaking other reading → AreSameReadings (readings.Refused found) reading
refused_alike breaking node other error found (readings.Table table) same (inl memory) each is read =
    absurd (memory_refused found error memory is)
refused_alike breaking node other error found (readings.Table table) same (inr refused) each is read =
    absurd (not_among (numbered_shapes node) error
    (subst (λ (tables : List NumberedShape). AllByRecursion HasSomeGrid tables) (sym (same_shapes node other same))
    (becomes_gridded breaking other table read))
    refused)
refused_alike breaking node other error found (readings.Refused refusal) same err each is read =
    elim (each read.0 (refused_elsewhere node other read.0 same read.1)) [
      | inl memory ↦ absurd (memory_refused found error memory is)
      | inr equal ↦ one_refusal (form_refusal error) found refusal is
          (subst (λ (e : FormError). form_refusal e ≡ Some refusal) (sym equal) read.2)
    ]

-- what is refused is found where it is alike
pub found_alike : (result : Result Reading AllocError) (cause : Option Refusal) (reading : Reading) →
    IfOk result (λ read. (found : Refusal) × (cause ≡ Some found) × (read ≡ readings.Refused found)) →
    ((found : Refusal) → cause ≡ Some found → AreSameReadings (readings.Refused found) reading) →
    IfOk result (λ read. AreSameReadings read reading)
found_alike (Ok read) cause reading is alike = subst (λ (r : Reading). AreSameReadings r reading) (sym is.2) (alike is.0 is.1)
found_alike (Err error) cause reading is alike = tt

-- tokens that are a tree, or none
pub tokens_refused_alike : (breaking : Breaking) (size : ℕ) (tokens : List Token) (error : TreeError) (found : Refusal)
    (reading : Reading) →
    ((node : TableNode) → SpellsTree tokens node → IsWithinLimits (kinds tokens) → error ≡ trees.Memory alloc_error) →
    ((cause : TreeError) → SpellsNoTree tokens cause → (error ≡ trees.Memory alloc_error) ⊎ (error ≡ cause)) →
    tree_refusal size tokens error ≡ Some found → ReadsTokens breaking size tokens reading →
    AreSameReadings (readings.Refused found) reading
tokens_refused_alike breaking size tokens error found reading ok each is (inl read) =
    absurd (some_not_none found (subst (λ (e : TreeError). tree_refusal size tokens e ≡ Some found) (ok read.0 read.1 read.2) is))
tokens_refused_alike breaking size tokens error found reading ok each is (inr read) =
    subst (λ (r : Reading). AreSameReadings (readings.Refused found) r) (sym read.4)
    (elim (each read.0 read.2) [
      | inl memory ↦ absurd (some_not_none found (subst (λ (e : TreeError). tree_refusal size tokens e ≡ Some found) memory is))
      | inr equal ↦ one_refusal (tree_refusal size tokens error) found read.1 is
          (subst (λ (e : TreeError). tree_refusal size tokens e ≡ Some read.1) (sym equal) read.3)
    ])

-- bytes that are tokens, or none
pub bytes_refused_alike : (breaking : Breaking) (bytes : List ℕ) (error : TokenError) (found : Refusal) (reading : Reading) →
    ((tokens : List Token) → SpellsTokens bytes tokens → error ≡ cuts.Memory alloc_error) →
    ((cause : TokenError) → SpellsNoTokens bytes cause → (error ≡ cuts.Memory alloc_error) ⊎ (error ≡ cause)) →
    token_refusal error ≡ Some found → ReadsBytes breaking bytes reading → AreSameReadings (readings.Refused found) reading
bytes_refused_alike breaking bytes error found reading ok each is (inl read) =
    absurd (some_not_none found (subst (λ (e : TokenError). token_refusal e ≡ Some found) (ok read.0 read.1) is))
bytes_refused_alike breaking bytes error found reading ok each is (inr read) =
    subst (λ (r : Reading). AreSameReadings (readings.Refused found) r) (sym read.4)
    (elim (each read.0 read.2) [
      | inl memory ↦ absurd (some_not_none found (subst (λ (e : TokenError). token_refusal e ≡ Some found) memory is))
      | inr equal ↦ one_refusal (token_refusal error) found read.1 is
          (subst (λ (e : TokenError). token_refusal e ≡ Some read.1) (sym equal) read.3)
    ])

-- bytes that are these tokens are read from them
pub bytes_alike : (breaking : Breaking) (bytes : List ℕ) (tokens : List Token) (result : Result Reading AllocError)
    (reading : Reading) →
    ((others : List Token) → SpellsTokens bytes others → tokens ≡ others) →
    ((cause : TokenError) → SpellsNoTokens bytes cause → ⊥) →
    ((other : Reading) → ReadsTokens breaking (length bytes) tokens other → IfOk result (λ found. AreSameReadings found other)) →
    ReadsBytes breaking bytes reading → IfOk result (λ found. AreSameReadings found reading)
bytes_alike breaking bytes tokens result reading same never each (inl read) =
    each reading (subst (λ (ts : List Token). ReadsTokens breaking (length bytes) ts reading) (sym (same read.0 read.1)) read.2)
bytes_alike breaking bytes tokens result reading same never each (inr read) = absurd (never read.0 read.2)

-- ---- step by step, and as a whole

-- a table is no refusal
table_not_refused : (table : Table) (refusal : Refusal) → readings.Table table ≡ readings.Refused refusal → ⊥
table_not_refused table refusal e = absurd cc

-- a refusal of a reading is the one that it is of
refusal_told : (one other : Refusal) → readings.Refused one ≡ readings.Refused other → other ≡ one
refusal_told one other e = cc

-- what bytes are read as step by step they are
pub read_whole : (breaking : Breaking) (bytes : List ℕ) (reading : Reading) → ReadsBytes breaking bytes reading →
    ReadsAs (sources.Html breaking) bytes reading
read_whole breaking bytes (readings.Table table) (inl (tokens, cut, inl (node, spells, within, becomes))) = record {
  spells = record { tokens = tokens; cut = cut; node = node; read = spells; formed = becomes };
  within = within;
}
read_whole breaking bytes (readings.Table table) (inl (tokens, cut, inr (error, refusal, none, is, same))) =
    absurd (table_not_refused table refusal same)
read_whole breaking bytes (readings.Table table) (inr (error, refusal, none, is, same)) =
    absurd (table_not_refused table refusal same)
read_whole breaking bytes (readings.Refused refusal) (inl (tokens, cut, inl (node, spells, within, refused))) =
    inr (tokens, cut, inr (node, spells, within, refused))
read_whole breaking bytes (readings.Refused refusal) (inl (tokens, cut, inr (error, other, none, is, same))) =
    inr (
      tokens,
      cut,
      inl (
        error,
        none,
        subst (λ (r : Refusal). tree_refusal (length bytes) tokens error ≡ Some r)
            (refusal_told refusal other same) is,
      ),
    )
read_whole breaking bytes (readings.Refused refusal) (inr (error, other, none, is, same)) =
    inl (error, none, subst (λ (r : Refusal). token_refusal error ≡ Some r) (refusal_told refusal other same) is)

-- and what they are they are read as step by step
pub read_in_steps : (breaking : Breaking) (bytes : List ℕ) (reading : Reading) → ReadsAs (sources.Html breaking) bytes reading →
    ReadsBytes breaking bytes reading
read_in_steps breaking bytes (readings.Table table) is =
    inl (is.spells.tokens, is.spells.cut, inl (is.spells.node, is.spells.read, is.within, is.spells.formed))
read_in_steps breaking bytes (readings.Refused refusal) (inl (error, none, is)) = inr (error, refusal, none, is, refl)
read_in_steps breaking bytes (readings.Refused refusal) (inr (tokens, cut, inl (error, none, is))) =
    inl (tokens, cut, inr (error, refusal, none, is, refl))
read_in_steps breaking bytes (readings.Refused refusal) (inr (tokens, cut, inr (node, spells, within, refused))) =
    inl (tokens, cut, inl (node, spells, within, refused))

-- HTML within the limit is read as the file that it is
pub html_is : (source : Source) (breaking : Breaking) → source ≡ sources.Html breaking → (bytes : List ℕ)
    (result : Result Reading AllocError) → IfOk result (ReadsBytes breaking bytes) → IfOk result (ReadsAs source bytes)
html_is source breaking is bytes (Ok reading) read =
    subst (λ (s : Source). ReadsAs s bytes reading) (sym is) (read_whole breaking bytes reading read)
html_is source breaking is bytes (Err error) read = tt

-- and whatever else it is read as is the same
pub html_alike : (source : Source) (breaking : Breaking) → source ≡ sources.Html breaking → (bytes : List ℕ)
    (result : Result Reading AllocError) (reading : Reading) →
    ((other : Reading) → ReadsBytes breaking bytes other → IfOk result (λ found. AreSameReadings found other)) →
    ReadsAs source bytes reading → IfOk result (λ found. AreSameReadings found reading)
html_alike source breaking is bytes result reading each read =
    each reading (read_in_steps breaking bytes reading (subst (λ (s : Source). ReadsAs s bytes reading) is read))

-- bytes within the limit are read as the file that they are
pub within_is : (source : Source) (bytes : List ℕ) (result : Result Reading AllocError) → length bytes ≤ MAX_FILE_BYTES →
    IfOk result (ReadsAs source bytes) → IfOk result (IsReading source bytes)
within_is source bytes (Ok reading) short read = inr (short, read)
within_is source bytes (Err error) short read = tt

-- and whatever else they are read as is the same
pub within_alike : (source : Source) (bytes : List ℕ) (result : Result Reading AllocError) (reading : Reading) →
    length bytes ≤ MAX_FILE_BYTES →
    ((other : Reading) → ReadsAs source bytes other → IfOk result (λ found. AreSameReadings found other)) →
    IsReading source bytes reading → IfOk result (λ found. AreSameReadings found reading)
within_alike source bytes result reading short each (inl long) = absurd (omega (arith, short, long.0))
within_alike source bytes result reading short each (inr (small, read)) = each reading read

-- ---- a table

-- bytes that are a table are within the limit of a file, and are that table by what kind of file they are
pub table_within : (source : Source) (bytes : List ℕ) (table : Table) → IsReading source bytes (readings.Table table) →
    (length bytes ≤ MAX_FILE_BYTES) × IsTableOfFile source bytes table
table_within source bytes table (inl long) = absurd (table_not_refused table too_long long.1)
table_within source bytes table (inr read) = read

-- ---- CSV

-- the reading of records that are a table
pub csv_table_alike : (head : Bool) (floors : List ℕ) (breaking : Breaking) (bytes : List ℕ) (table : Table)
    (reading : Reading) → length bytes ≤ MAX_FILE_BYTES → IsCsvTable (csv_records bytes) head floors breaking table →
    ((other : Table) → IsCsvTable (csv_records bytes) head floors breaking other → table ≡ other) →
    ((error : CsvError) → IsCsvRefused (csv_records bytes) error → ⊥) → ReadsRecords head floors breaking bytes reading →
    AreSameReadings (readings.Table table) reading
csv_table_alike head floors breaking bytes table (readings.Table other) short is same never read =
    subst (AreSame table) (same other read)
    (csv_itself (csv_records bytes) head floors breaking table (of_file bytes short) is)
csv_table_alike head floors breaking bytes table (readings.Refused refusal) short is same never read =
    absurd (never read.0 read.1)

-- the reading of records that are refused
pub csv_refused_alike : (head : Bool) (floors : List ℕ) (breaking : Breaking) (bytes : List ℕ) (error : CsvError)
    (found : Refusal) (reading : Reading) →
    ((table : Table) → IsCsvTable (csv_records bytes) head floors breaking table → error ≡ records.Memory alloc_error) →
    ((cause : CsvError) → IsCsvRefused (csv_records bytes) cause →
    (error ≡ records.Memory alloc_error) ⊎ (error ≡ cause)) →
    csv_refusal error ≡ Some found → ReadsRecords head floors breaking bytes reading →
    AreSameReadings (readings.Refused found) reading
csv_refused_alike head floors breaking bytes error found (readings.Table table) ok each is read =
    absurd (some_not_none found (subst (λ (e : CsvError). csv_refusal e ≡ Some found) (ok table read) is))
csv_refused_alike head floors breaking bytes error found (readings.Refused refusal) ok each is read =
    elim (each read.0 read.1) [
      | inl memory ↦ absurd (some_not_none found (subst (λ (e : CsvError). csv_refusal e ≡ Some found) memory is))
      | inr equal ↦ one_refusal (csv_refusal error) found refusal is
          (subst (λ (e : CsvError). csv_refusal e ≡ Some refusal) (sym equal) read.2)
    ]
