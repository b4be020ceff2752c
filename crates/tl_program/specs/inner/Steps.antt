-- No public clause cites this file: it says what comes of the bytes of a check, and how an answer is delivered.
use Rattle.std.specs.Prelude.{◌≡◌, ◌⊎◌, ℕ, List, Result, Ok, Err}
use Rattle.std.specs.declared.alloc.AllocError.{AllocError}
use Rattle.tl_command.specs.Ask.{Asked}
use Rattle.tl_table.specs.declared.cell.Table.{Table}
use Rattle.tl_lay.specs.declared.answer.Answer.{Answer}
use Rattle.tl_lay.specs.declared.task.Task.{Task}
use Rattle.tl_lay.specs.Budgets.{reach}
use Rattle.tl_lay.specs.Inputs.{IsOfBytes}
use Rattle.tl_program.specs.declared.report.Report.{Report}
use Rattle.tl_program.specs.declared.report.Report.TheVariants as reports
use Rattle.tl_program.specs.declared.status.Status.{Status}
use Rattle.tl_program.specs.declared.status.Status.TheVariants as statuses
use Rattle.tl_program.specs.Change.{Change}
use Rattle.tl_program.specs.Deliveries.{Delivery, IsUnread, delivery_of}
use Rattle.tl_program.specs.Headline.{ComesOf, Ends}
use Rattle.tl_program.specs.Messages.{status_number}
use Rattle.tl_program.specs.inner.Printing.{IsDelivered}

-- what is reported of bytes: that they are refused, or what holds of their table
abbrev pub ReportsOn : Task → (Table → Type 0) → List ℕ → Report → Type 0
ReportsOn task Own bytes report = IsOfBytes task.source (reach task) (λ refusal. report ≡ reports.Refused refusal) Own bytes

-- memory runs out before anything is stored
abbrev pub RunsOut : Status → Change → Type 0
RunsOut status change = (status ≡ statuses.Memory) × (change.files_after ≡ change.files) × (change.said_after ≡ change.said)

-- this is delivered; or memory runs out before anything is stored
abbrev pub MayDeliver : Delivery → Status → Change → Type 0
MayDeliver delivery status change = IsDelivered status change delivery ⊎ RunsOut status change

-- what a call returned is delivered
abbrev pub DeliversResult : Asked → Result Answer AllocError → Status → Change → Type 0
DeliversResult asked (Ok answer) status change = MayDeliver (delivery_of asked answer) status change
DeliversResult asked (Err error) status change = RunsOut status change

-- the program ends with this status as a file could not be read, or memory ran out, whatever was asked for of that file
abbrev pub EndsUnread : Change → Status → Type 0
EndsUnread change status = (words : List (List ℕ)) → ((delivery : Delivery) → IsUnread change delivery → ComesOf words change delivery) →
    Ends words change (status_number status)
