-- Which status a run ends with, by what its file holds.
use Rattle.std.proofs.Common.{◌≡◌, ◌⊎◌, inl, inr, ℕ, List, ◌∙◌, ap}
use Rattle.tl_base.specs.declared.limits.TheConstants.{MAX_PAGE_WIDTH}
use Rattle.tl_command.specs.declared.command.Command.{Command}
use Rattle.tl_command.specs.declared.command.Command.TheVariants.{Lay, Narrow, Tidy}
use Rattle.tl_command.specs.Ask.{Asked}
use Rattle.tl_table.specs.declared.cell.Table.{Table}
use Rattle.tl_lay.specs.declared.answer.Answer.{Answer}
use Rattle.tl_lay.specs.declared.answer.Evidence.{Evidence}
use Rattle.tl_lay.specs.declared.task.Task.{Task}
use Rattle.tl_lay.specs.declared.tidiest.Ending.{Ending}
use Rattle.tl_lay.specs.Answers.{IsLaidAs, bounded_laid, lowest_laid, narrow_laid}
use Rattle.tl_lay.specs.Budgets.{reach}
use Rattle.tl_lay.specs.Slimmed.{IsSlimmed}
use Rattle.tl_lay.specs.Tidied.{IsTidiedAs, IsTidyEnd, chosen, left_open, may_be_narrower, tidy_answer}
use Rattle.tl_lay.proofs.NarrowestPages.{IsSlimAnswer, between, is_slim_answer, met, past}
use Rattle.tl_narrow.specs.declared.slim.Slim.{Slim}
use Rattle.tl_program.specs.Change.{Change}
use Rattle.tl_program.specs.Complete.{FindsTidy, FindsWidth, IsComplete, IsRefusedBy, IsRefusedSo, RefusesSlim, RefusesTidy}
use Rattle.tl_program.specs.Deliveries.{ComesOfInput, Delivery, IsAnswered}
use Rattle.tl_program.specs.Headline.{Ends, IsCarriedOut}
use Rattle.tl_program.specs.Messages.{status_number, status_of}
use Rattle.tl_program.specs.Reports.{report_of}
use Rattle.tl_program.specs.Tasks.{slim_task, task_of, task_on}
use Rattle.tl_program.proofs.Ends.{own_input, refused_input, went_for}

-- the status of an answer
abbrev answer_status : Answer → ℕ
answer_status answer = status_number (status_of (report_of answer))

-- ---- a file that spells a table

-- a table that is laid out gives 0, 3 or 4
laid_status : (task : Task) (table : Table) {answer : Answer} → IsLaidAs task table answer → (status : ℕ) →
    status ≡ answer_status answer → (status ≡ 0) ⊎ ((status ≡ 3) ⊎ ((status ≡ 4) ⊎ (status ≡ 9)))
laid_status task table (lowest_laid is) status same = inl same
laid_status task table (bounded_laid is) status same = inr (inl same)
laid_status task table (narrow_laid is) status same = inr (inr (inl same))

-- a search for the narrowest page gives 0, 3 or 12
slim_status : (task : Task) (height : ℕ) (slim : Slim) (evidence : Evidence) {answer : Answer} →
    IsSlimAnswer task height slim evidence answer → (status : ℕ) → status ≡ answer_status answer →
    (status ≡ 0) ⊎ ((status ≡ 3) ⊎ ((status ≡ 12) ⊎ (status ≡ 9)))
slim_status task height slim evidence (met is) status same = inl same
slim_status task height slim evidence (between apart few) status same = inr (inl same)
slim_status task height slim evidence (past apart more) status same = inr (inr (inl same))

-- a page that was trimmed gives 0 or 3
end_status : (task : Task) (table : Table) (height : ℕ) (slim : Slim) (evidence : Evidence) {told : Slim} {ending : Ending} →
    IsTidyEnd task table height slim told ending → (status : ℕ) → status ≡ answer_status (tidy_answer ending evidence) →
    (status ≡ 0) ⊎ ((status ≡ 3) ⊎ ((status ≡ 4) ⊎ (status ≡ 9)))
end_status task table height slim evidence (may_be_narrower apart) status same = inr (inl same)
end_status task table height slim evidence (left_open is_met left) status same = inr (inl same)
end_status task table height slim evidence (chosen is_met within) status same = inl same

tidy_status : (task : Task) (table : Table) (answer : Answer) → IsTidiedAs task table answer → (status : ℕ) →
    status ≡ answer_status answer → (status ≡ 0) ⊎ ((status ≡ 3) ⊎ ((status ≡ 4) ⊎ (status ≡ 9)))
tidy_status task table answer (inl trimmed) status same = end_status task table trimmed.height trimmed.slim trimmed.evidence
    trimmed.ends status (same ∙ ap answer_status trimmed.so)
tidy_status task table answer (inr early) status same = laid_status task table early.0 status same

pub complete : (words : List (List ℕ)) (change : Change) (status : ℕ) → Ends words change status → IsComplete words change status
complete words change status ends = λ asked bytes table is shown quiet spells.
    elim (went_for words change status Lay asked bytes ends is shown quiet) [
      | inl so ↦
          let own = own_input asked.number asked (IsAnswered (IsLaidAs (task_of asked)) asked) change so.0 so.1 bytes shown quiet
          table spells in
          laid_status (task_of asked) own.0 own.2.is status
          (so.2 ∙ ap (λ (d : Delivery). status_number (status_of d.report)) own.2.so)
      | inr nine ↦ inr (inr (inr nine))
    ]

pub finds : (words : List (List ℕ)) (change : Change) (status : ℕ) → Ends words change status → FindsWidth words change status
finds words change status ends = λ asked bytes table is shown quiet spells.
    elim (went_for words change status Narrow asked bytes ends is shown quiet) [
      | inl so ↦
          let own = own_input MAX_PAGE_WIDTH asked (IsAnswered (IsSlimmed (slim_task asked) asked.number) asked) change so.0 so.1
          bytes shown quiet table spells in
          let slim = own.2.is in
          slim_status (slim_task asked) asked.number slim.slim slim.evidence
          (is_slim_answer (slim_task asked) asked.number slim.slim slim.evidence) status
          (so.2 ∙ ap (λ (d : Delivery). status_number (status_of d.report)) own.2.so ∙ ap answer_status slim.so)
      | inr nine ↦ inr (inr (inr nine))
    ]

pub finds_tidy : (words : List (List ℕ)) (change : Change) (status : ℕ) → Ends words change status → FindsTidy words change status
finds_tidy words change status ends = λ asked bytes table is shown quiet spells.
    elim (went_for words change status Tidy asked bytes ends is shown quiet) [
      | inl so ↦
          let own = own_input asked.number asked (IsAnswered (IsTidiedAs (task_of asked)) asked) change so.0 so.1 bytes shown quiet
          table spells in
          tidy_status (task_of asked) own.0 own.2.answer own.2.is status
          (so.2 ∙ ap (λ (d : Delivery). status_number (status_of d.report)) own.2.so)
      | inr nine ↦ inr (inr (inr nine))
    ]

-- ---- a file that is refused

-- a file that is refused gives the status of its refusal, whatever the command makes of tables
pub refused_by : (command : Command) (most : Asked → ℕ) (Own : Asked → Table → Delivery → Type 0) →
    ((asked : Asked) (change : Change) (delivery : Delivery) → IsCarriedOut command asked change delivery →
    ComesOfInput asked (reach (task_on (most asked) asked)) (Own asked) change delivery) →
    (words : List (List ℕ)) (change : Change) (status : ℕ) → Ends words change status → IsRefusedBy command words change status
refused_by command most Own carried words change status ends = λ asked bytes refusal is shown quiet read.
    elim (went_for words change status command asked bytes ends is shown quiet) [
      | inl so ↦ inl (so.2 ∙ ap (λ (d : Delivery). status_number (status_of d.report))
          (refused_input (most asked) asked (Own asked) change so.0 (carried asked change so.0 so.1) bytes shown quiet refusal read))
      | inr nine ↦ inr nine
    ]

pub refused_so : (words : List (List ℕ)) (change : Change) (status : ℕ) → Ends words change status →
    IsRefusedSo words change status
refused_so = refused_by Lay (λ asked. asked.number) (λ asked. IsAnswered (IsLaidAs (task_of asked)) asked)
    (λ asked change delivery comes. comes)

pub refused_slim : (words : List (List ℕ)) (change : Change) (status : ℕ) → Ends words change status →
    RefusesSlim words change status
refused_slim = refused_by Narrow (λ asked. MAX_PAGE_WIDTH) (λ asked. IsAnswered (IsSlimmed (slim_task asked) asked.number) asked)
    (λ asked change delivery comes. comes)

pub refused_tidy : (words : List (List ℕ)) (change : Change) (status : ℕ) → Ends words change status →
    RefusesTidy words change status
refused_tidy = refused_by Tidy (λ asked. asked.number) (λ asked. IsAnswered (IsTidiedAs (task_of asked)) asked)
    (λ asked change delivery comes. comes)
