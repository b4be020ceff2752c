-- How deep the tables of a document lie, by number. No public clause cites this file.
use Rattle.std.specs.Prelude.{◌≡◌, ℕ, ◌+◌, ◌-◌, ◌<◌, ◌≤◌, List, length, get_or}
use Rattle.tl_table.specs.declared.cell.Table.{Table}
use Rattle.tl_table.specs.Sound.{nested_in_table}
use Rattle.tl_form.specs.Expected.{Document, IsTableOf, own_number}

-- how many tables lie inside each of the first `n` tables
pub record AreSizes (document : Document) (sizes : List ℕ) (n : ℕ) : Type 0 where
  pub count : length sizes ≡ n
  pub each : (i : ℕ) (one : Table) → i < n → IsTableOf document (own_number document + i) one →
      get_or sizes i 0 ≡ nested_in_table one

-- no table lies deeper than there are tables before it
abbrev pub IsBelow : List ℕ → Type 0
IsBelow depths = (i : ℕ) → i < length depths → get_or depths i 0 ≤ i

-- the first `n` tables have these depths: a table that lies inside another lies deeper
pub record AreDepths (sizes depths : List ℕ) (n : ℕ) : Type 0 where
  pub count : length depths ≡ n
  pub below : IsBelow depths
  pub deeper : (i j : ℕ) → i < j → j < length depths → j ≤ i + get_or sizes i 0 → get_or depths i 0 < get_or depths j 0

-- how deep the table with this number lies, `own` being that of the first
abbrev pub depth_of : ℕ → List ℕ → ℕ → ℕ
depth_of own depths number = get_or depths (number - own) 0

-- the table with this number lies at this depth
pub record IsAtDepth (own : ℕ) (depths : List ℕ) (depth number : ℕ) : Type 0 where
  pub from : own ≤ number
  pub upto : number < own + length depths
  pub at : depth_of own depths number ≡ depth
