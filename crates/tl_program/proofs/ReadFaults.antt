-- A run reports that a file could not be read only where a load of a file that was asked for failed.
use Rattle.std.proofs.Common.{◌≡◌, inl, inr, ℕ, List, take, ◌+◌, Bool, true, false, refl, sym, ◌∙◌, subst, arith}
use Rattle.std.specs.Prelude.{◌==◌, if◌then◌else◌, IfOk, Result, Ok, Err}
use Rattle.std.specs.declared.alloc.AllocError.{AllocError}
use Rattle.tl_base.specs.declared.desk.Desk.{Ghosts}
use Rattle.tl_base.specs.declared.limits.TheConstants.{MAX_FILE_BYTES}
use Rattle.tl_command.specs.Ask.{Asked}
use Rattle.tl_table.specs.declared.cell.Table.{Table}
use Rattle.tl_read.specs.declared.reading.Reading.{Reading}
use Rattle.tl_read.specs.declared.reading.Reading.TheVariants as readings
use Rattle.tl_read.specs.declared.refusal.Refusal.{Refusal}
use Rattle.tl_read.specs.declared.refusal.Refusal.TheVariants as refusals
use Rattle.tl_read.specs.Reading.{IsReading}
use Rattle.tl_lay.specs.declared.answer.Answer.{Answer}
use Rattle.tl_lay.specs.declared.answer.Answer.TheVariants as answers
use Rattle.tl_lay.specs.declared.input.Given.{Given}
use Rattle.tl_lay.specs.declared.input.Input.{Input}
use Rattle.tl_lay.specs.declared.input.Input.TheVariants as inputs
use Rattle.tl_lay.specs.declared.summary.Summary.{Summary}
use Rattle.tl_lay.specs.declared.task.Task.{Task}
use Rattle.tl_lay.specs.declared.verdict.Verdict.{Verdict}
use Rattle.tl_lay.specs.declared.verdict.Verdict.TheVariants as verdicts
use Rattle.tl_lay.specs.Budgets.{budget_in, reach}
use Rattle.tl_lay.specs.Inputs.{GivesInput, IsOfReading}
use Rattle.tl_lay.proofs.Inputs.{reading_of_content}
use Rattle.tl_program.specs.declared.report.Report.{Report}
use Rattle.tl_program.specs.declared.report.Report.TheVariants as reports
use Rattle.tl_program.specs.declared.status.Status.{Status}
use Rattle.tl_program.specs.declared.status.Status.TheVariants as statuses
use Rattle.tl_program.specs.Asks.{input_name, judged_name}
use Rattle.tl_program.specs.Change.{Change}
use Rattle.tl_program.specs.Complete.{SpellsTable}
use Rattle.tl_program.specs.Deliveries.{Delivery, delivery_of}
use Rattle.tl_program.specs.Messages.{status_number, status_of}
use Rattle.tl_program.specs.ReadFaults.{FailsToCheck, FailsToJudge, FailsToLoad}
use Rattle.tl_program.specs.Settled.{SettlesOn}
use Rattle.tl_program.specs.Reports.{report_of, verdict_report}
use Rattle.tl_program.specs.Tasks.{task_of}
use Rattle.tl_program.specs.inner.Printing.{IsDelivered, IsPrinted}
use Rattle.tl_program.specs.inner.Steps.{DeliversResult, ReportsOn}
use Rattle.tl_program.proofs.Contents.{content_of}
use Rattle.tl_program.proofs.Loading.{IsLoadedFrom}

-- ---- the load that failed

module _ {Desk : Type 0} (shown : Ghosts Desk) where
  -- a load that failed met the first desk and left the last
  pub fails_here : (before after : Desk) (name : List ℕ) → shown.fails_to_load before name after →
      FailsToLoad shown before after name
  fails_here before after name fails = record {
    met = before;
    left = after;
    fails = fails;
    files = refl;
    said = refl;
    faults = refl;
    last = refl;
  }

  -- a load that failed between two desks failed between an earlier and a later one
  pub fails_within : (before start end after : Desk) (name : List ℕ) → shown.files start ≡ shown.files before →
      shown.said start ≡ shown.said before → shown.load_faults start ≡ shown.load_faults before →
      shown.load_faults after ≡ shown.load_faults end → FailsToLoad shown start end name → FailsToLoad shown before after name
  fails_within before start end after name files said faults last failed = record {
    met = failed.met;
    left = failed.left;
    fails = failed.fails;
    files = failed.files ∙ files;
    said = failed.said ∙ said;
    faults = failed.faults ∙ faults;
    last = last ∙ failed.last;
  }

-- ---- the status

-- one status has this number
pub fault_of_number : (status : Status) → status_number status ≡ 7 → status ≡ statuses.ReadFault
fault_of_number statuses.Lowest e = absurd (omega (arith, e))
fault_of_number statuses.Usage e = absurd (omega (arith, e))
fault_of_number statuses.Bounded e = absurd (omega (arith, e))
fault_of_number statuses.Narrow e = absurd (omega (arith, e))
fault_of_number statuses.BadInput e = absurd (omega (arith, e))
fault_of_number statuses.Limit e = absurd (omega (arith, e))
fault_of_number statuses.ReadFault e = refl
fault_of_number statuses.WriteFault e = absurd (omega (arith, e))
fault_of_number statuses.Memory e = absurd (omega (arith, e))
fault_of_number statuses.Rejected e = absurd (omega (arith, e))
fault_of_number statuses.TooTall e = absurd (omega (arith, e))

-- one report has it
pub fault_of_report : (report : Report) → status_of report ≡ statuses.ReadFault → report ≡ reports.ReadFault
fault_of_report (reports.Lowest height width) e = absurd cc
fault_of_report (reports.Bounded height lower width) e = absurd cc
fault_of_report (reports.Narrow least width) e = absurd cc
fault_of_report (reports.Slimmest width height) e = absurd cc
fault_of_report (reports.Between width least) e = absurd cc
fault_of_report (reports.TooTall height) e = absurd cc
fault_of_report (reports.Tidy height width) e = absurd cc
fault_of_report (reports.Wider width least) e = absurd cc
fault_of_report reports.Unchosen e = absurd cc
fault_of_report (reports.Refused (refusals.BadInput fault place)) e = absurd cc
fault_of_report (reports.Refused (refusals.Overlap table row column)) e = absurd cc
fault_of_report (reports.Refused (refusals.Limit limit number)) e = absurd cc
fault_of_report (reports.Refused (refusals.BadRecord fault place)) e = absurd cc
fault_of_report (reports.Rejected rejection) e = absurd cc
fault_of_report (reports.Summary summary) e = absurd (by_test (summary.lower == summary.height) e) where
  by_test : (closed : Bool) → (if closed then statuses.Lowest else statuses.Bounded) ≡ statuses.ReadFault → ⊥
  by_test true e = absurd cc
  by_test false e = absurd cc
fault_of_report reports.Usage e = absurd cc
fault_of_report reports.ReadFault e = refl

-- neither a write fault nor the end of memory is one
no_fault_write : statuses.WriteFault ≡ statuses.ReadFault → ⊥
no_fault_write e = absurd cc

no_fault_memory : statuses.Memory ≡ statuses.ReadFault → ⊥
no_fault_memory e = absurd cc

-- what is delivered with that status is that report
pub delivered_fault : (status : Status) (change : Change) (delivery : Delivery) → IsDelivered status change delivery →
    status ≡ statuses.ReadFault → delivery.report ≡ reports.ReadFault
delivered_fault status change delivery (inl is) same = fault_of_report delivery.report (sym is.0 ∙ same)
delivered_fault status change delivery (inr (inl is)) same = absurd (no_fault_write (sym is.0 ∙ same))
delivered_fault status change delivery (inr (inr is)) same = absurd (no_fault_memory (sym is.0 ∙ same))

-- what is printed of invalid arguments has another status
pub usage_no_fault : (result : Status) (change : Change) (text : List ℕ) → IsPrinted statuses.Usage result change text →
    result ≡ statuses.ReadFault → ⊥
usage_no_fault result change text (inl is) same = apart (sym is.0 ∙ same) where
  apart : statuses.Usage ≡ statuses.ReadFault → ⊥
  apart e = absurd cc
usage_no_fault result change text (inr (inl is)) same = no_fault_write (sym is.0 ∙ same)
usage_no_fault result change text (inr (inr is)) same = no_fault_memory (sym is.0 ∙ same)

-- ---- no answer and no verdict reports it

-- an answer
answer_no_fault : (answer : Answer) → report_of answer ≡ reports.ReadFault → ⊥
answer_no_fault (answers.Lowest height width page text) e = absurd cc
answer_no_fault (answers.Bounded height lower width page text) e = absurd cc
answer_no_fault (answers.Narrow least width text) e = absurd cc
answer_no_fault (answers.Slimmest width height evidence) e = absurd cc
answer_no_fault (answers.Between width least evidence) e = absurd cc
answer_no_fault (answers.TooTall height evidence) e = absurd cc
answer_no_fault (answers.Tidy height width evidence) e = absurd cc
answer_no_fault (answers.Wider width least evidence) e = absurd cc
answer_no_fault (answers.Unchosen evidence) e = absurd cc
answer_no_fault (answers.Refused refusal) e = absurd cc

-- so what a call returned ends with another status
pub result_no_fault : (asked : Asked) (result : Result Answer AllocError) (status : Status) (change : Change) →
    DeliversResult asked result status change → status ≡ statuses.ReadFault → ⊥
result_no_fault asked (Ok answer) status change (inl delivered) same =
    answer_no_fault answer (delivered_fault status change (delivery_of asked answer) delivered same)
result_no_fault asked (Ok answer) status change (inr out) same = no_fault_memory (sym out.0 ∙ same)
result_no_fault asked (Err error) status change out same = no_fault_memory (sym out.0 ∙ same)

-- a verdict
pub verdict_no_fault : (verdict : Verdict) (report : Report) → report ≡ verdict_report verdict → report ≡ reports.ReadFault → ⊥
verdict_no_fault verdict report same fault = by_verdict verdict (sym same ∙ fault) where
  by_verdict : (verdict : Verdict) → verdict_report verdict ≡ reports.ReadFault → ⊥
  by_verdict (verdicts.Lowest height width) e = absurd cc
  by_verdict (verdicts.Bounded height lower width) e = absurd cc
  by_verdict (verdicts.Narrow least width) e = absurd cc
  by_verdict (verdicts.Rejected rejection) e = absurd cc
  by_verdict (verdicts.Refused refusal) e = absurd cc

-- a demonstration
pub summary_no_fault : (summary : Summary) → reports.Summary summary ≡ reports.ReadFault → ⊥
summary_no_fault summary e = absurd cc

-- a refusal
pub refused_no_fault : (refusal : Refusal) → reports.Refused refusal ≡ reports.ReadFault → ⊥
refused_no_fault refusal e = absurd cc

-- ---- the bytes of a check

-- bytes of which a table is given spell one
pub given_spells : (task : Task) (bytes : List ℕ) (input : Input) (given : Given) → input ≡ inputs.Table given →
    GivesInput task bytes input → SpellsTable task bytes given.table
given_spells task bytes input given is gives = by_reading gives.reading gives.read gives.so where
  no_refusal : (refusal : Refusal) → input ≡ inputs.Refused refusal → ⊥
  no_refusal refusal told = never (sym is ∙ told) where
    never : inputs.Table given ≡ inputs.Refused refusal → ⊥
    never e = absurd cc

  by_reading : (reading : Reading) → IsReading task.source bytes reading →
      IsOfReading (reach task) (λ refusal. input ≡ inputs.Refused refusal)
      (λ table. input ≡ inputs.Table (record { table = table; budget = budget_in task table })) reading →
      SpellsTable task bytes given.table
  by_reading (readings.Refused refusal) read told = absurd (no_refusal refusal told)
  by_reading (readings.Table found) read (inl far) = absurd (no_refusal _ far.1)
  by_reading (readings.Table found) read (inr own) =
      subst (SpellsTable task bytes) (one_table found (sym own.1 ∙ is)) (record { read = read; within = own.0 }) where
        one_table : (found : Table) → inputs.Table (record { table = found; budget = budget_in task found }) ≡ inputs.Table given →
            found ≡ given.table
        one_table found e = cc

-- bytes of which a read fault is reported spell a table
pub unread_spells : (task : Task) (Own : Table → Type 0) (bytes : List ℕ) (report : Report) → report ≡ reports.ReadFault →
    ReportsOn task Own bytes report → (table : Table) × SpellsTable task bytes table
unread_spells task Own bytes report fault of = by_reading of.reading of.read of.so where
  by_reading : (reading : Reading) → IsReading task.source bytes reading →
      IsOfReading (reach task) (λ refusal. report ≡ reports.Refused refusal) Own reading →
      (table : Table) × SpellsTable task bytes table
  by_reading (readings.Refused refusal) read told = absurd (refused_no_fault refusal (sym told ∙ fault))
  by_reading (readings.Table table) read (inl far) = absurd (refused_no_fault _ (sym far.1 ∙ fault))
  by_reading (readings.Table table) read (inr own) = (table, record { read = read; within = own.0 })

-- the first bytes of a file spell what the file does
pub content_spells : (task : Task) (content bytes : List ℕ) (table : Table) → take (MAX_FILE_BYTES + 1) content ≡ bytes →
    SpellsTable task bytes table → SpellsTable task content table
content_spells task content bytes table is spells = record {
  read = reading_of_content task.source content bytes (readings.Table table) is spells.read;
  within = spells.within;
}

-- ---- by what a call returns

-- where the certificate could not be loaded, a read fault is that one, and the bytes are a table
pub unread_fails : {Desk : Type 0} (shown : Ghosts Desk) (before after : Desk) (task : Task) (bytes name : List ℕ)
    (result : Result Report AllocError) → FailsToLoad shown before after name →
    IfOk result (λ report. ReportsOn task (λ table. report ≡ reports.ReadFault) bytes report) →
    IfOk result (λ report. report ≡ reports.ReadFault → FailsToJudge shown before after task bytes name)
unread_fails shown before after task bytes name (Err error) fails told = tt
unread_fails shown before after task bytes name (Ok report) fails told = λ fault.
    let found = unread_spells task (λ table. report ≡ reports.ReadFault) bytes report fault told in
    record { table = found.0; spells = found.1; fails = fails }

-- and the file that is read holds such bytes
pub check_fails : {Desk : Type 0} (shown : Ghosts Desk) (before start end after : Desk) (asked settled : Asked) (task : Task)
    (bytes : List ℕ) → task ≡ task_of settled → SettlesOn (shown.files before) asked settled → IsLoadedFrom (shown.files before) (input_name asked) bytes →
    shown.files start ≡ shown.files before → shown.said start ≡ shown.said before →
    shown.load_faults start ≡ shown.load_faults before → shown.load_faults after ≡ shown.load_faults end →
    FailsToJudge shown start end task bytes (judged_name asked) → FailsToCheck shown before after asked
check_fails shown before start end after asked settled task bytes same settles loaded files said faults last failed =
    let content = content_of MAX_FILE_BYTES (shown.files before) (input_name asked) bytes loaded.short loaded.read in (
      settled,
      settles,
      content.0,
      content.1,
      record {
        table = failed.table;
        spells = content_spells (task_of settled) content.0 bytes failed.table content.2
            (subst (λ (t : Task). SpellsTable t bytes failed.table) same failed.spells);
        fails = fails_within shown before start end after (judged_name asked) files said faults last failed.fails;
      },
    )
