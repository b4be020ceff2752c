-- What a run on a file went by that ended by its command's own part: the table of its file, and what was delivered.
use Rattle.std.proofs.Common.{◌≡◌, ◌≢◌, inl, inr, ℕ, ◌≤◌, List, ap, ◌∙◌}
use Rattle.tl_base.specs.declared.limits.TheConstants.{MAX_REACH}
use Rattle.tl_base.specs.Desk.{longer}
use Rattle.tl_command.specs.declared.command.Command.{Command}
use Rattle.tl_command.specs.Ask.{Asked}
use Rattle.tl_table.specs.declared.cell.Table.{Table}
use Rattle.tl_table.specs.Sound.{IsSound}
use Rattle.tl_read.specs.declared.reading.Reading.{Reading}
use Rattle.tl_read.specs.declared.reading.Reading.TheVariants as readings
use Rattle.tl_read.specs.declared.refusal.Limit.TheVariants as limits
use Rattle.tl_read.specs.declared.refusal.Refusal.{Refusal}
use Rattle.tl_read.specs.declared.refusal.Refusal.TheVariants as refusals
use Rattle.tl_read.specs.Reading.{IsReading, AreSameReadings, IsSpellableReading, IsSoundReading}
use Rattle.tl_program.specs.declared.report.Report.TheVariants as reports
use Rattle.tl_program.specs.Asks.{IsAskOf, input_name}
use Rattle.tl_program.specs.Change.{Change, Holds, with_all}
use Rattle.tl_program.specs.Deliveries.{Delivery, reported, ComesOfInput}
use Rattle.tl_program.specs.Headline.{IsCarriedOut, Ends}
use Rattle.tl_lay.specs.Inputs.{IsOfReading}
use Rattle.tl_program.specs.Messages.{status_number, status_of, message_of}
use Rattle.tl_program.specs.Tasks.{task_of}
use Rattle.tl_program.proofs.Asking.{carried_as}
use Rattle.tl_program.proofs.Ends.{plain_told}

-- the status is none of a file that is refused or cannot be read
pub record IsOwnStatus (status : ℕ) : Type 0 where
  pub bad_input : status ≢ 5
  pub limit : status ≢ 6
  pub read_fault : status ≢ 7

-- the status of a delivery is that of its report
abbrev pub delivery_status : Delivery → ℕ
delivery_status delivery = status_number (status_of delivery.report)

pub record InputRun (asked : Asked) (reach : Table → ℕ) (Own : Table → Delivery → Type 0) (change : Change)
    (delivery : Delivery) : Type 0 where
  pub content : List ℕ
  pub holds : Holds change.files (input_name asked) content
  pub table : Table
  pub read : IsReading (task_of asked).source content (readings.Table table)
  pub only : (other : Reading) → IsReading (task_of asked).source content other → AreSameReadings (readings.Table table) other
  pub sound : IsSound table
  pub spellable : IsSpellableReading (task_of asked).source (readings.Table table)
  pub near : reach table ≤ MAX_REACH
  pub own : Own table delivery

module _ (asked : Asked) (reach : Table → ℕ) (Own : Table → Delivery → Type 0) (change : Change) (delivery : Delivery)
    (out : IsOwnStatus (delivery_status delivery)) where
  passed : (refusal : Refusal) → delivery ≡ reported (reports.Refused refusal) → ⊥
  passed (refusals.BadInput fault place) same = out.bad_input (ap delivery_status same)
  passed (refusals.Overlap table row column) same = out.bad_input (ap delivery_status same)
  passed (refusals.Limit limit number) same = out.limit (ap delivery_status same)
  passed (refusals.BadRecord fault place) same = out.bad_input (ap delivery_status same)

  by_reading : (content : List ℕ) → Holds change.files (input_name asked) content → (reading : Reading) →
      IsReading (task_of asked).source content reading →
      ((other : Reading) → IsReading (task_of asked).source content other → AreSameReadings reading other) →
      IsSoundReading reading → IsSpellableReading (task_of asked).source reading →
      IsOfReading reach (λ refusal. delivery ≡ reported (reports.Refused refusal)) (λ table. Own table delivery) reading →
      InputRun asked reach Own change delivery
  by_reading content holds (readings.Refused refusal) read only sound spellable same = absurd (passed refusal same)
  by_reading content holds (readings.Table table) read only sound spellable (inl far) =
      absurd (passed (refusals.Limit limits.Reach (reach table)) far.1)
  by_reading content holds (readings.Table table) read only sound spellable (inr own) = record {
    content = content;
    holds = holds;
    table = table;
    read = read;
    only = only;
    sound = sound.0;
    spellable = spellable;
    near = own.0;
    own = own.1;
  }

  -- what comes of the file is the own part
  pub input_run : ComesOfInput asked reach Own change delivery → InputRun asked reach Own change delivery
  input_run (inl unread) = absurd (out.read_fault (ap delivery_status unread.so))
  input_run (inr of) = by_reading of.0 of.1 of.2.reading of.2.read of.2.only of.2.sound of.2.spellable of.2.so

-- a run that ended by its own part
pub record WentRun (asked : Asked) (reach : Table → ℕ) (Own : Table → Delivery → Type 0) (change : Change) (status : ℕ) : Type 0
  where
    pub delivery : Delivery
    pub run : InputRun asked reach Own change delivery
    pub told : status ≡ delivery_status delivery
    pub stores : change.files_after ≡ with_all change.files delivery.stores
    pub prints : change.said_after ≡ longer change.said (message_of delivery.report)

own_status : (status other : ℕ) → status ≡ other → IsOwnStatus status → IsOwnStatus other
own_status status other same own = record {
  bad_input = λ e. own.bad_input (same ∙ e);
  limit = λ e. own.limit (same ∙ e);
  read_fault = λ e. own.read_fault (same ∙ e);
}

pub went_run : (words : List (List ℕ)) (change : Change) (status : ℕ) (command : Command) (asked : Asked) (reach : Table → ℕ)
    (Own : Table → Delivery → Type 0) → Ends words change status → IsAskOf command words asked → IsOwnStatus status →
    status ≢ 8 → status ≢ 9 →
    ((delivery : Delivery) → IsCarriedOut command asked change delivery → ComesOfInput asked reach Own change delivery) →
    WentRun asked reach Own change status
went_run words change status command asked reach Own ends is out no_fault no_memory carried =
    let done = ends.done no_fault no_memory in
    let comes = carried_as words change command asked done.0 is done.1 in
    record {
      delivery = done.0;
      run = input_run asked reach Own change done.0 (own_status status (delivery_status done.0) done.2 out)
          (carried done.0 comes);
      told = done.2;
      stores = done.3;
      prints = done.4 ∙ plain_told words command asked done.0 change is comes;
    }
