-- Which file could not be read, where a run ends with status 7: the file that is read; or, of a check, the certificate, and then
-- the file is a table within all limits. That a load failed can be known of a name only by a load of that very name.
use Rattle.std.specs.Prelude.{◌≡◌, ◌⊎◌, ℕ, List}
use Rattle.tl_base.specs.declared.desk.Desk.{Ghosts}
use Rattle.tl_command.specs.declared.command.Command.TheVariants.{Check}
use Rattle.tl_command.specs.Ask.{Asked, IsAsk}
use Rattle.tl_table.specs.declared.cell.Table.{Table}
use Rattle.tl_lay.specs.declared.task.Task.{Task}
use Rattle.tl_program.specs.Asks.{input_name, judged_name}
use Rattle.tl_program.specs.Change.{Holds}
use Rattle.tl_program.specs.Complete.{SpellsTable}
use Rattle.tl_program.specs.Settled.{SettlesOn}
use Rattle.tl_program.specs.Tasks.{task_of}

-- from one desk to another a load of the file of this name failed: it met a desk on which all was as on the first, and no fault
-- of a load is counted after the one that it left
pub record FailsToLoad {Desk : Type 0} (shown : Ghosts Desk) (before after : Desk) (name : List ℕ) : Type 0 where
  pub met : Desk
  pub left : Desk
  pub fails : shown.fails_to_load met name left
  pub files : shown.files met ≡ shown.files before
  pub said : shown.said met ≡ shown.said before
  pub faults : shown.load_faults met ≡ shown.load_faults before
  pub last : shown.load_faults after ≡ shown.load_faults left

-- bytes are a table within all limits, and its certificate could not be loaded
pub record FailsToJudge {Desk : Type 0} (shown : Ghosts Desk) (before after : Desk) (task : Task) (bytes name : List ℕ) : Type 0
  where
    pub table : Table
    pub spells : SpellsTable task bytes table
    pub fails : FailsToLoad shown before after name

-- the file that is read holds such bytes, by what is asked of them, where the desk shows its files
abbrev pub FailsToCheck : {Desk : Type 0} → Ghosts Desk → Desk → Desk → Asked → Type 0
FailsToCheck shown before after asked = (settled : Asked) × SettlesOn (shown.files before) asked settled
    × (bytes : List ℕ) × Holds (shown.files before) (input_name asked) bytes
    × FailsToJudge shown before after (task_of settled) bytes (judged_name asked)

-- a file that is asked for could not be read: the first, or the certificate of a check
abbrev pub FailsToRead : {Desk : Type 0} → Ghosts Desk → Desk → Desk → Asked → Type 0
FailsToRead shown before after asked = FailsToLoad shown before after (input_name asked)
    ⊎ ((asked.command ≡ Check) × FailsToCheck shown before after asked)

-- status 7: a file that the arguments ask for could not be read
abbrev pub IsReadFault : {Desk : Type 0} → Ghosts Desk → Desk → Desk → List (List ℕ) → ℕ → Type 0
IsReadFault shown before after words status = status ≡ 7 →
    (asked : Asked) × IsAsk words asked × FailsToRead shown before after asked
