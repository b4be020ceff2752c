-- The tables of a document by their numbers.
use Rattle.std.specs.Prelude.{◌≡◌, ℕ, ◌+◌, ◌<◌, List, length, get_or}
use denote.Ref.{Bor}
use Rattle.tl_table.specs.declared.cell.Table.{Table, out-Table}
use Rattle.tl_table.specs.Sound.{nested_in_table}
use Rattle.tl_table.specs.Tables.{IsAmong}

-- `one` is the table, or nested in it at any depth, and has this number
pub record HasNumber (table : Table) (number : ℕ) (one : Table) : Type 0 where
  pub among : IsAmong table one
  pub numbered : (out-Table one).number ≡ number

-- neither the table nor one nested in it has this number
abbrev pub LacksNumber : Table → ℕ → Type 0
LacksNumber table number = (one : Table) → IsAmong table one → (out-Table one).number ≡ number → ⊥

-- these are the table and those nested in it, by their numbers, from that of the table itself on
pub record AreByNumber (table : Table) (tables : List (Bor Table)) : Type 0 where
  pub count : length tables ≡ nested_in_table table + 1
  pub each : (i : ℕ) (d : Bor Table) → i < length tables → HasNumber table ((out-Table table).number + i) (get_or tables i d).now
