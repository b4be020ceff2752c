-- What has been read of a document, and why it is not read on. No public clause cites this file.
use Rattle.std.specs.Prelude.{◌≡◌, ◌<◌, ◌≤◌, ℕ, ◌+◌, true, false, List, [], ◌∷◌, ◌++◌, map, reverse, length}
use Rattle.std.specs.List.{flat_map}
use Rattle.tl_base.specs.declared.limits.TheConstants.{MAX_DEPTH, MAX_TABLES}
use Rattle.tl_tree.specs.Tags.{Kind, Kinds, table_start}
use Rattle.tl_tree.specs.Grammar.{Marks, table_ends}
use Rattle.tl_tree.specs.Paragraphs.{paragraph_of, entries_of}
use Rattle.tl_tree.specs.Outline.{Entries, table, outline, blocks_outline}
use Rattle.tl_tree.specs.Spelling.{FitsLimits, FitLimits, tables_with, tables_after}
use Rattle.tl_tree.specs.inner.Machine as machine
use Rattle.tl_tree.specs.inner.Machine.{DocumentState, next, told, due, reached, all_told}
use Rattle.tl_tree.specs.inner.Verdict.{depth, is_failed, misfit}
use Rattle.tl_tree.specs.inner.Lines.{line_atoms}
use Rattle.tl_tree.specs.inner.Reading.{OutlineOutcome, after_entries, outcome, holder_so_far, holder_of, machine_place, IsModest}
use Rattle.tl_tree.specs.declared.flow.Flow.{Flow}
use Rattle.tl_tree.specs.declared.open.Holder.{Holder}
use Rattle.tl_tree.specs.declared.open.OpenTable.{OpenTable}
use Rattle.tl_tree.specs.declared.reading.Outer.{Outer}
use Rattle.tl_tree.specs.declared.reading.Reading.{Reading}
use Rattle.tl_tree.specs.declared.reading.Reading.TheVariants.{Before, Inside, After}
use Rattle.tl_tree.specs.declared.error.TreeError.{TreeError}
use Rattle.tl_tree.specs.declared.error.TreeError.TheVariants as errors
use Rattle.tl_tree.specs.declared.stop.Stop.{Stop}
use Rattle.tl_tree.specs.declared.stop.Stop.TheVariants as stops

-- the flows around the table that is open
abbrev pub around : List Outer → Entries
around outer = flat_map (λ o. holder_so_far o.holder ++ blocks_outline o.blocks) outer

-- what the flows around the table that is open stand in, the innermost first
abbrev pub holders : List Outer → List machine.Holder
holders outer = map (λ o. holder_of o.holder) (reverse outer)

-- the state of the machine
abbrev pub state_of : Reading → DocumentState
state_of Before = machine.before
state_of (Inside outer t) = machine.inside (machine_place t) (holders outer.items)
state_of (After node) = machine.after

-- the outline that comes
abbrev pub outcome_of : Reading → OutlineOutcome
outcome_of Before = after_entries []
outcome_of (Inside outer t) = λ k ms. around outer.items ++ outcome t k ms
outcome_of (After node) = after_entries (outline node)

-- where a table is open, few columns and few characters of it have come
abbrev pub IsModestReading : Reading → Type 0
IsModestReading (Inside outer t) = IsModest t
IsModestReading _ = Unit {0}

-- no table has begun before the document's
abbrev pub IsFresh : Reading → ℕ → Type 0
IsFresh Before tables = tables ≡ 0
IsFresh _ tables = Unit {0}

-- the token leads on within the limits, and adds the marks that the machine tells
pub record Reads (old : Reading) (tables : ℕ) (k : Kind) (new : Reading) : Type 0 where
  pub goes : next (state_of old) k ≡ state_of new
  pub alive : is_failed (state_of new) ≡ false
  pub fits : FitsLimits (depth (state_of old)) tables k
  pub same : (later : Marks) → outcome_of new (tables_with tables k) later ≡ outcome_of old tables
      (told (state_of old) k ++ later)

-- why reading stops at a token: memory ran out, no document goes on with it, or a table passes a limit
abbrev pub IsStop : DocumentState → ℕ → Kind → Stop → Type 0
IsStop s tables k (stops.Memory error) = Unit {0}
IsStop s tables k stops.Misfit = is_failed (next s k) ≡ true
IsStop s tables k stops.TooDeep = (k ≡ table_start) × (is_failed (next s k) ≡ false) × (MAX_DEPTH ≤ depth s)
IsStop s tables k stops.TooManyTables = (k ≡ table_start) × (is_failed (next s k) ≡ false) × (depth s < MAX_DEPTH) ×
    (MAX_TABLES ≤ tables)

-- a limit, where so many tables are open and so many have begun
abbrev pub IsLimit : ℕ → ℕ → Stop → Type 0
IsLimit deep tables (stops.Memory error) = Unit {0}
IsLimit deep tables stops.Misfit = ⊥
IsLimit deep tables stops.TooDeep = MAX_DEPTH ≤ deep
IsLimit deep tables stops.TooManyTables = (deep < MAX_DEPTH) × (MAX_TABLES ≤ tables)

-- a table begins in the flow of that holder
pub record Nests (outer : List Outer) (holder : Holder) (flow : Flow) (tables : ℕ) (new : Reading) : Type 0 where
  pub goes : state_of new ≡ machine.inside machine.opened (holder_of holder ∷ holders outer)
  pub shallow : length outer + 1 < MAX_DEPTH
  pub few : tables < MAX_TABLES
  pub same : (k : ℕ) (later : Marks) → outcome_of new k later
      ≡ around outer
      ++ after_entries (((holder_so_far holder ++ blocks_outline flow.blocks) ++ paragraph_of
      (line_atoms flow.line [])) ++ table tables ∷ []) k later

-- the table that is open ends
pub record Leaves (outer : List Outer) (t : OpenTable) (new : Reading) : Type 0 where
  pub goes : state_of new ≡ machine.table_left (holders outer)
  pub same : (k : ℕ) (later : Marks) → outcome_of new k later ≡ around outer ++ outcome t k
      ((due (machine_place t) ++ table_ends ∷ []) ++ later)

-- the error of a token at which reading stops
abbrev pub stop_error : ℕ → Kind → Stop → TreeError
stop_error n k (stops.Memory error) = errors.Memory error
stop_error n k stops.Misfit = misfit n k
stop_error n k stops.TooDeep = errors.TooDeep n
stop_error n k stops.TooManyTables = errors.TooManyTables n

-- what has been read once those tokens were read
pub record HasReadTokens (prefix : Kinds) (tables : ℕ) (reading : Reading) : Type 0 where
  pub goes : reached machine.before prefix ≡ state_of reading
  pub alive : is_failed (state_of reading) ≡ false
  pub within : FitLimits 0 0 prefix
  pub counted : tables ≡ tables_after 0 prefix
  pub same : (later : Marks) → outcome_of reading tables later ≡ entries_of 0 (all_told machine.before prefix ++ later)
