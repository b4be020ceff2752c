-- With which status a run ends, by what the files hold, unless the desk fails or memory runs out.
use Rattle.std.specs.Prelude.{◌≡◌, ◌⊎◌, ℕ, ◌≤◌, List, Option, Some}
use Rattle.tl_base.specs.declared.limits.TheConstants.{MAX_REACH}
use Rattle.tl_base.specs.Desk.{Files}
use Rattle.tl_cert.specs.declared.certificate.Certificate.{Certificate}
use Rattle.tl_cert.specs.declared.certificate.Claim.{Claim}
use Rattle.tl_cert.specs.declared.certificate.Claim.TheVariants as claims
use Rattle.tl_cert.specs.Faults.{IsTextOf}
use Rattle.tl_command.specs.declared.command.Command.{Command}
use Rattle.tl_command.specs.declared.command.Command.TheVariants.{Lay, Narrow, Tidy, Check}
use Rattle.tl_command.specs.Ask.{Asked}
use Rattle.tl_table.specs.declared.cell.Table.{Table}
use Rattle.tl_read.specs.declared.reading.Reading.TheVariants as readings
use Rattle.tl_read.specs.declared.refusal.Refusal.{Refusal}
use Rattle.tl_program.specs.declared.status.Status.{Status}
use Rattle.tl_program.specs.declared.status.Status.TheVariants as statuses
use Rattle.tl_lay.specs.declared.task.Task.{Task}
use Rattle.tl_lay.specs.Budgets.{budget_in, reach}
use Rattle.tl_program.specs.Asks.{IsAskOf, input_name, certificate_name, judged_name}
use Rattle.tl_program.specs.Change.{Change, DoesNotFail, Holds}
use Rattle.tl_lay.specs.Checks.{IsValidIn}
use Rattle.tl_program.specs.Headline.{Ends}
use Rattle.tl_program.specs.Messages.{status_number, refusal_status}
use Rattle.tl_program.specs.Settled.{IsAskFor}
use Rattle.tl_program.specs.Tasks.{slim_task, task_of}
use Rattle.tl_read.specs.Reading.{IsReading}

-- the desk shows a file of this name with these bytes
abbrev pub ShowsFile : Change → List ℕ → List ℕ → Type 0
ShowsFile change name bytes = (files : Files) × (change.files ≡ Some files) × (files name ≡ Some bytes)

-- the bytes spell a table, whose reach is within its limit
pub record SpellsTable (task : Task) (bytes : List ℕ) (table : Table) : Type 0 where
  pub read : IsReading task.source bytes (readings.Table table)
  pub within : reach task table ≤ MAX_REACH

-- a command that lays a table out gives 0, 3 or 4 on a file that spells one within all limits
abbrev pub IsCompleteBy : Command → List (List ℕ) → Change → ℕ → Type 0
IsCompleteBy command words change status = (asked : Asked) (bytes : List ℕ) (table : Table) → IsAskFor command words bytes asked →
    ShowsFile change (input_name asked) bytes → DoesNotFail change → SpellsTable (task_of asked) bytes table →
    (status ≡ 0) ⊎ ((status ≡ 3) ⊎ ((status ≡ 4) ⊎ (status ≡ 9)))

-- it is so of `lay`
abbrev pub IsComplete : List (List ℕ) → Change → ℕ → Type 0
IsComplete = IsCompleteBy Lay

-- a command on a file that is refused gives the status of the refusal
abbrev pub IsRefusedBy : Command → List (List ℕ) → Change → ℕ → Type 0
IsRefusedBy command words change status = (asked : Asked) (bytes : List ℕ) (refusal : Refusal) → IsAskFor command words bytes asked →
    ShowsFile change (input_name asked) bytes → DoesNotFail change →
    IsReading (task_of asked).source bytes (readings.Refused refusal) →
    (status ≡ status_number (refusal_status refusal)) ⊎ (status ≡ 9)

-- it is so of `lay`
abbrev pub IsRefusedSo : List (List ℕ) → Change → ℕ → Type 0
IsRefusedSo = IsRefusedBy Lay

-- the status of a claim that is shown
abbrev pub claim_status : Claim → Status
claim_status (claims.Lowest height) = statuses.Lowest
claim_status (claims.Bounded height lower) = statuses.Bounded
claim_status (claims.Narrow least) = statuses.Narrow

-- the text of a certificate that is valid for the table that a file spells is accepted, by its claim
abbrev pub IsAcceptedSo : List (List ℕ) → Change → ℕ → Type 0
IsAcceptedSo words change status = (asked : Asked) (bytes text : List ℕ) (table : Table) (certificate : Certificate) →
    IsAskFor Check words bytes asked → ShowsFile change (input_name asked) bytes → ShowsFile change (judged_name asked) text →
    DoesNotFail change → SpellsTable (task_of asked) bytes table → IsTextOf text certificate →
    IsValidIn (task_of asked) table certificate →
    (status ≡ status_number (claim_status certificate.claim)) ⊎ (status ≡ 9)

-- a text that is that of no certificate valid for the table is rejected
abbrev pub IsRejectedSo : List (List ℕ) → Change → ℕ → Type 0
IsRejectedSo words change status = (asked : Asked) (bytes text : List ℕ) (table : Table) →
    IsAskFor Check words bytes asked → ShowsFile change (input_name asked) bytes → ShowsFile change (judged_name asked) text →
    DoesNotFail change → SpellsTable (task_of asked) bytes table →
    ((certificate : Certificate) → IsTextOf text certificate → IsValidIn (task_of asked) table certificate → ⊥) →
    (status ≡ 10) ⊎ (status ≡ 9)

-- the two ask for one budget of the table that the file spells, whether it is given or by default
abbrev pub HaveSameBudget : Option Files → Asked → Asked → Type 0
HaveSameBudget files laid checked = (bytes : List ℕ) (table : Table) → Holds files (input_name laid) bytes →
    IsReading (task_of laid).source bytes (readings.Table table) →
    budget_in (task_of laid) table ≡ budget_in (task_of checked) table

-- a check asks for what was laid out: the same file and page, the certificate that was stored, and the same budget
pub record AsksForSame (files : Option Files) (laid checked : Asked) : Type 0 where
  pub width : laid.number ≡ checked.number
  pub input : input_name laid ≡ input_name checked
  pub certificate : certificate_name laid ≡ Some (judged_name checked)
  pub style : (task_of laid).style ≡ (task_of checked).style
  pub source : (task_of laid).source ≡ (task_of checked).source
  pub budget : HaveSameBudget files laid checked

-- ---- `narrow`

-- the search found the narrowest page, or that there is none, or ended early
abbrev pub IsSlimStatus : ℕ → Type 0
IsSlimStatus status = (status ≡ 0) ⊎ ((status ≡ 3) ⊎ (status ≡ 12))

-- a file that spells a table within all limits, of which any page may be searched, gives 0, 3 or 12
abbrev pub FindsWidth : List (List ℕ) → Change → ℕ → Type 0
FindsWidth words change status = (asked : Asked) (bytes : List ℕ) (table : Table) → IsAskFor Narrow words bytes asked →
    ShowsFile change (input_name asked) bytes → DoesNotFail change → SpellsTable (slim_task asked) bytes table →
    (status ≡ 0) ⊎ ((status ≡ 3) ⊎ ((status ≡ 12) ⊎ (status ≡ 9)))

-- a file that is refused gives the status of its refusal
abbrev pub RefusesSlim : List (List ℕ) → Change → ℕ → Type 0
RefusesSlim = IsRefusedBy Narrow

-- ---- `tidy`

-- a file that spells a table within all limits gives 0, 3 or 4
abbrev pub FindsTidy : List (List ℕ) → Change → ℕ → Type 0
FindsTidy = IsCompleteBy Tidy

-- a file that is refused gives the status of its refusal
abbrev pub RefusesTidy : List (List ℕ) → Change → ℕ → Type 0
RefusesTidy = IsRefusedBy Tidy

-- ---- a check of what was laid out

-- a run gave a page, or showed that there is none
abbrev pub IsLaidStatus : ℕ → Type 0
IsLaidStatus status = (status ≡ 0) ⊎ ((status ≡ 3) ⊎ (status ≡ 4))

-- a check of what another run has just laid out has the status of that run
abbrev pub AcceptsLaid : List (List ℕ) → Change → ℕ → Type 0
AcceptsLaid words change status = (earlier : List (List ℕ)) (before : Change) (told : ℕ) (laid checked : Asked) →
    IsAskOf Lay earlier laid → IsAskOf Check words checked → AsksForSame before.files laid checked →
    Ends earlier before told → IsLaidStatus told →
    (files : Files) × (before.files_after ≡ Some files) × (change.files ≡ Some files) → DoesNotFail change →
    (status ≡ told) ⊎ (status ≡ 9)
