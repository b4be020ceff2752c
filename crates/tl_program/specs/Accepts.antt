-- What a check says of the certificates that a command has stored: of each of them, on the page that it names, whatever the
-- command stored it for.
use Rattle.std.specs.Prelude.{◌≡◌, ◌⊎◌, ℕ, ◌≤◌, List, Contains, Option, Some}
use Rattle.std.specs.List.{slice_get}
use Rattle.tl_base.specs.Desk.{Files}
use Rattle.tl_cert.specs.declared.certificate.Certificate.{Certificate}
use Rattle.tl_cert.specs.Faults.{IsTextOf}
use Rattle.tl_command.specs.declared.command.Command.{Command}
use Rattle.tl_command.specs.declared.command.Command.TheVariants.{Check, Narrow, Tidy}
use Rattle.tl_command.specs.Ask.{Asked}
use Rattle.tl_table.specs.declared.cell.Table.{Table}
use Rattle.tl_read.specs.declared.reading.Reading.TheVariants as readings
use Rattle.tl_read.specs.Reading.{IsReading}
use Rattle.tl_lay.specs.declared.task.Task.{Task}
use Rattle.tl_lay.specs.Budgets.{budget_in}
use Rattle.tl_program.specs.Asks.{IsAskOf, input_name, judged_name}
use Rattle.tl_program.specs.Change.{Change, DoesNotFail, Holds, with_all}
use Rattle.tl_program.specs.Complete.{IsLaidStatus, IsSlimStatus, claim_status}
use Rattle.tl_program.specs.Deliveries.{Delivery}
use Rattle.tl_program.specs.Headline.{IsCarriedOut}
use Rattle.tl_program.specs.Messages.{status_number, status_of}
use Rattle.tl_program.specs.Tasks.{slim_task, task_of}

-- a check asks for what a command has stored: the same file, one of the certificates on the page that it names, and the same
-- budget
pub record AsksForStored (files : Option Files) (task_in : Asked → Task) (asked checked : Asked) (certificate : Certificate) : Type 0
  where
    pub width : certificate.width ≡ checked.number
    pub input : input_name asked ≡ input_name checked
    pub place : ℕ
    pub past_page : 2 ≤ place
    pub named : slice_get asked.names place ≡ Some (judged_name checked)
    pub style : (task_of asked).style ≡ (task_of checked).style
    pub source : (task_of asked).source ≡ (task_of checked).source
    pub budget : (bytes : List ℕ) (table : Table) → Holds files (input_name asked) bytes →
        IsReading (task_of asked).source bytes (readings.Table table) →
        budget_in (task_in asked) table ≡ budget_in (task_of checked) table

-- a run of the command delivered this with a status that is meant, and stored its files
pub record Delivers (command : Command) (IsMeant : ℕ → Type 0) (asked : Asked) (before : Change) (delivery : Delivery) : Type 0
  where
    pub comes : IsCarriedOut command asked before delivery
    pub so : IsMeant (status_number (status_of delivery.report))
    pub stores : before.files_after ≡ with_all before.files delivery.stores

-- a check of a certificate that a run of the command has just stored, on the page that the certificate names, accepts it
abbrev pub AcceptsStored : Command → (Asked → Task) → (ℕ → Type 0) → List (List ℕ) → Change → ℕ → Type 0
AcceptsStored command task_in IsMeant words change status = (earlier : List (List ℕ)) (before : Change) (asked checked : Asked)
    (delivery : Delivery) (certificate : Certificate) (text : List ℕ) (files : Files) →
    IsAskOf command earlier asked → IsAskOf Check words checked → AsksForStored before.files task_in asked checked certificate →
    Delivers command IsMeant asked before delivery →
    Contains delivery.stores (record { name = judged_name checked; bytes = text }) →
    IsTextOf text certificate → before.files_after ≡ Some files → change.files ≡ Some files → DoesNotFail change →
    (status ≡ status_number (claim_status certificate.claim)) ⊎ (status ≡ 9)

-- a check accepts each certificate that `narrow` has stored
abbrev pub AcceptsSlim : List (List ℕ) → Change → ℕ → Type 0
AcceptsSlim = AcceptsStored Narrow slim_task IsSlimStatus

-- and each that `tidy` has
abbrev pub AcceptsTidy : List (List ℕ) → Change → ℕ → Type 0
AcceptsTidy = AcceptsStored Tidy task_of IsLaidStatus
