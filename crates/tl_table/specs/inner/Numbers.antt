-- How tables are put into a list by their numbers, table by table. No public clause cites this file.
use Rattle.std.specs.Prelude.{◌≡◌, ◌⊎◌, ℕ, ◌+◌, ◌<◌, ◌≤◌, List, length, get_or}
use Rattle.std.specs.List.{Contains}
use denote.Ref.{Bor}
use Rattle.tl_table.specs.declared.cell.Table.{Table, out-Table}
use Rattle.tl_table.specs.Tables.{IsAmong}
use Rattle.tl_table.specs.Numbered.{HasNumber, LacksNumber}

-- `one` is among these tables, or nested in one of them, and has this number
abbrev pub HasNumberIn : List Table → ℕ → Table → Type 0
HasNumberIn tables number one = (nested : Table) × Contains tables nested × HasNumber nested number one

-- none of these tables has this number, nor one nested in them
abbrev pub LackNumber : List Table → ℕ → Type 0
LackNumber tables number = (nested : Table) → Contains tables nested → LacksNumber nested number

-- of so many places, the first for the number `first`, there is one for each of these tables and of those nested in them
abbrev pub HavePlaces : ℕ → ℕ → List Table → Type 0
HavePlaces first count tables = (nested one : Table) → Contains tables nested → IsAmong nested one →
    (first ≤ (out-Table one).number) × ((out-Table one).number < first + count)

-- in each place whose number one of these tables has, or one nested in them, there is such a one; all others are as before
pub record ArePut (first : ℕ) (tables : List Table) (before after : List (Bor Table)) : Type 0 where
  pub count : length after ≡ length before
  pub each : (i : ℕ) (d : Bor Table) → i < length before →
      HasNumberIn tables (first + i) (get_or after i d).now
      ⊎ (LackNumber tables (first + i) × (get_or after i d ≡ get_or before i d))
