-- What comes of the bytes that a call reads: what all calls share, once. `Refuses` is what a refusal comes to, and `Own` what the
-- call makes of a table.
use Rattle.std.specs.Prelude.{◌≡◌, ◌⊎◌, ℕ, ◌<◌, ◌≤◌, List, IfSome}
use Rattle.tl_base.specs.declared.limits.TheConstants.{MAX_BUDGET, MAX_PAGE_WIDTH, MAX_REACH}
use Rattle.tl_table.specs.declared.cell.Table.{Table}
use Rattle.tl_table.specs.FewCells.{HasFewCells}
use Rattle.tl_table.specs.Sound.{IsSound}
use Rattle.tl_read.specs.declared.reading.Reading.{Reading}
use Rattle.tl_read.specs.declared.reading.Reading.TheVariants as readings
use Rattle.tl_read.specs.declared.refusal.Limit.TheVariants as limits
use Rattle.tl_read.specs.declared.refusal.Refusal.{Refusal}
use Rattle.tl_read.specs.declared.refusal.Refusal.TheVariants as refusals
use Rattle.tl_read.specs.declared.source.Source.{Source}
use Rattle.tl_read.specs.Reading.{IsReading, AreSameReadings, IsSpellableReading, IsSoundReading}
use Rattle.tl_lay.specs.declared.input.Input.{Input}
use Rattle.tl_lay.specs.declared.input.Input.TheVariants as inputs
use Rattle.tl_lay.specs.declared.task.Task.{Task}
use Rattle.tl_lay.specs.Budgets.{budget_in, reach}

-- What comes of a table whose searches may make `reach` cuts together: it is refused where these are too many, and else the call
-- goes on with it
abbrev pub IsOfTable : ℕ → (Refusal → Type 0) → Type 0 → Type 0
IsOfTable reach Refuses Own =
    ((MAX_REACH < reach) × Refuses (refusals.Limit limits.Reach reach)) ⊎ ((reach ≤ MAX_REACH) × Own)

-- what comes of what bytes are read as
abbrev pub IsOfReading : (Table → ℕ) → (Refusal → Type 0) → (Table → Type 0) → Reading → Type 0
IsOfReading reach Refuses Own (readings.Table table) = IsOfTable (reach table) Refuses (Own table)
IsOfReading reach Refuses Own (readings.Refused refusal) = Refuses refusal

-- what comes of bytes, which are read in one way alone, and if as a table, as a sound one that a file of HTML can spell
pub record IsOfBytes (source : Source) (reach : Table → ℕ) (Refuses : Refusal → Type 0) (Own : Table → Type 0)
    (bytes : List ℕ) : Type 0 where
  pub reading : Reading
  pub read : IsReading source bytes reading
  pub only : (other : Reading) → IsReading source bytes other → AreSameReadings reading other
  pub sound : IsSoundReading reading
  pub spellable : IsSpellableReading source reading
  pub so : IsOfReading reach Refuses Own reading

-- ---- what bytes give

-- what bytes give: their table, with the budget of each search for it, or why they are refused
abbrev pub GivesInput : Task → List ℕ → Input → Type 0
GivesInput task bytes input = IsOfBytes task.source (reach task) (λ refusal. input ≡ inputs.Refused refusal)
    (λ table. input ≡ inputs.Table (record { table = table; budget = budget_in task table })) bytes

-- the numbers of a task are within their limits
pub record IsTaskInRange (task : Task) : Type 0 where
  pub some : 1 ≤ task.width
  pub narrow : task.width ≤ MAX_PAGE_WIDTH
  pub workers : 1 ≤ task.workers
  pub cuts : IfSome task.budget (λ budget. budget ≤ MAX_BUDGET)

-- a table with which a call can go on: it is sound, and the budget is that of each search for it, within the reach
pub record IsUsableTable (task : Task) (table : Table) (budget : ℕ) : Type 0 where
  pub range : IsTaskInRange task
  pub sound : IsSound table
  pub cells : HasFewCells table
  pub of_task : budget ≡ budget_in task table
  pub cuts : budget ≤ MAX_BUDGET
  pub within : reach task table ≤ MAX_REACH

-- a table that is given is one with which a call can go on
abbrev pub IsUsable : Task → Input → Type 0
IsUsable task (inputs.Table given) = IsUsableTable task given.table given.budget
IsUsable task (inputs.Refused refusal) = Unit {0}
