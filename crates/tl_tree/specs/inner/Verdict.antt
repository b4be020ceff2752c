-- The first fault that the machine meets. No public clause cites this file.
use Rattle.std.specs.Prelude.{ℕ, ◌+◌, Bool, true, false, nat_le, Option, Some, None, [], ◌∷◌, length, if◌then◌else◌}
use Rattle.tl_base.specs.declared.limits.TheConstants.{MAX_DEPTH, MAX_TABLES}
use Rattle.tl_tree.specs.Tags.{Kind, Kinds, is_text, is_table_start}
use Rattle.tl_tree.specs.Spelling.{tables_with}
use Rattle.tl_tree.specs.inner.Machine.{DocumentState, before, inside, after, failed, next}
use Rattle.tl_tree.specs.declared.error.TreeError.{TreeError}
use Rattle.tl_tree.specs.declared.error.TreeError.TheVariants.{NoTable, StrayText, Misplaced, Unclosed, TooDeep, TooManyTables}

-- the state is that of tokens with which no document begins
abbrev pub is_failed : DocumentState → Bool
is_failed failed = true
is_failed _ = false

-- how many tables are open
abbrev pub depth : DocumentState → ℕ
depth (inside p holders) = length holders + 1
depth _ = 0

-- the fault of token `n` where no document goes on with it
abbrev pub misfit : ℕ → Kind → TreeError
misfit n k = if is_text k then StrayText n else Misplaced n

-- the fault of a table that begins as token `n`
abbrev pub limit_fault : ℕ → ℕ → ℕ → Option TreeError
limit_fault n tables deep = if nat_le MAX_DEPTH deep then Some (TooDeep n) else if nat_le MAX_TABLES tables then Some
    (TooManyTables n) else None

-- the fault of token `n`, after so many tables
abbrev pub fault : ℕ → ℕ → DocumentState → Kind → Option TreeError
fault n tables s k =
    if is_failed (next s k) then Some (misfit n k)
    else if is_table_start k then limit_fault n tables (depth s)
    else None

-- the fault of the end of the tokens
abbrev pub end_fault : DocumentState → Option TreeError
end_fault before = Some NoTable
end_fault after = None
end_fault _ = Some Unclosed

-- the first fault, or a later one where there is none
abbrev pub or_later : Option TreeError → Option TreeError → Option TreeError
or_later None later = later
or_later (Some error) later = Some error

-- the first fault from a state on, where so many tokens and tables have come before
abbrev pub verdict : ℕ → ℕ → DocumentState → Kinds → Option TreeError
verdict n tables s [] = end_fault s
verdict n tables s (k ∷ ks) = or_later (fault n tables s k) (verdict (n + 1) (tables_with tables k) (next s k) ks)
