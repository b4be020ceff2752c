-- What is loaded for a check, as what the files hold.
use Rattle.std.proofs.Common.{◌≡◌, ◌⊎◌, inl, inr, ℕ, ◌+◌, ◌<◌, ◌≤◌, List, [], length, take, Option, refl, sym, ◌∙◌, ap, subst, arith}
use Rattle.std.specs.Prelude.{IfOk, IfSome, Result, Ok, Err}
use Rattle.std.specs.declared.alloc.AllocError.{AllocError}
use Rattle.std.proofs.lemmas.Bool.{cases_lt}
use Rattle.tl_base.specs.declared.limits.TheConstants.{MAX_CERTIFICATE_BYTES}
use Rattle.tl_base.specs.Desk.{Files, IsReadFrom, Rose}
use Rattle.tl_command.specs.Ask.{Asked}
use Rattle.tl_cert.specs.declared.error.CertError.{CertError}
use Rattle.tl_cert.specs.declared.error.CertError.TheVariants as texts
use Rattle.tl_cert.specs.Faults.{IsNoText}
use Rattle.tl_table.specs.declared.cell.Table.{Table}
use Rattle.tl_lay.specs.declared.input.Given.{Given}
use Rattle.tl_lay.specs.declared.input.Input.{Input}
use Rattle.tl_lay.specs.declared.input.Input.TheVariants as inputs
use Rattle.tl_lay.specs.declared.task.Task.{Task}
use Rattle.tl_lay.specs.declared.verdict.Verdict.{Verdict}
use Rattle.tl_lay.specs.declared.verdict.Verdict.TheVariants as verdicts
use Rattle.tl_lay.specs.Budgets.{reach}
use Rattle.tl_lay.specs.Checks.{IsJudged, IsRejectionOf}
use Rattle.tl_lay.specs.Checks as below
use Rattle.tl_lay.specs.Inputs.{GivesInput}
use Rattle.tl_lay.proofs.Inputs.{long_same, of_bytes_mapped, of_given, own_or_refused}
use Rattle.tl_program.specs.declared.report.Report.{Report}
use Rattle.tl_program.specs.declared.report.Report.TheVariants as reports
use Rattle.tl_program.specs.Asks.{fitted_in, input_name, judged_name}
use Rattle.tl_program.specs.Change.{Change}
use Rattle.tl_program.specs.Messages.{of_page}
use Rattle.tl_program.specs.Checks.{IsChecked, IsJudgedIn}
use Rattle.tl_program.specs.Deliveries.{ComesOfInput, Delivery, reported}
use Rattle.tl_program.specs.Tasks.{task_of}
use Rattle.tl_program.specs.Reports.{verdict_report}
use Rattle.tl_program.specs.inner.Steps.{ReportsOn}
use Rattle.tl_program.proofs.Contents.{content_of}
use Rattle.tl_program.proofs.Loading.{IsLoadedFrom, of_loaded}

-- why a text that is too long is rejected
long_reason : (task : Task) (table : Table) (content bytes : List ℕ) (rejection : _) → MAX_CERTIFICATE_BYTES < length bytes →
    MAX_CERTIFICATE_BYTES < length content → IsRejectionOf task table bytes rejection → IsRejectionOf task table content rejection
long_reason task table content bytes rejection long whole (inl (error, refused, told)) =
    inl (error, by_error error refused, told) where
      by_error : (error : CertError) → IsNoText bytes error → IsNoText content error
      by_error (texts.Memory failed) refused = absurd refused
      by_error (texts.Syntax place) refused = absurd (omega (arith, long, refused.0))
      by_error (texts.Range place) refused = absurd (omega (arith, long, refused.0))
      by_error texts.TooLong refused = whole
long_reason task table content bytes rejection long whole (inr (certificate, reject, text_is, refused, told)) =
    absurd (omega (arith, long, text_is.short))

-- the first bytes of a text are judged as the text is
pub judged_of_content : (task : Task) (table : Table) (content bytes : List ℕ) (verdict : Verdict) →
    take (MAX_CERTIFICATE_BYTES + 1) content ≡ bytes →
    IsJudged task table bytes verdict → IsJudged task table content verdict
judged_of_content task table content bytes verdict is judged = elim (cases_lt MAX_CERTIFICATE_BYTES (length bytes)) [
  | inl long ↦ too_long long ((long_same MAX_CERTIFICATE_BYTES content bytes is).1 long) judged
  | inr short ↦ subst (λ (text : List ℕ). IsJudged task table text verdict)
      ((long_same MAX_CERTIFICATE_BYTES content bytes is).0 short) judged
] where
  too_long : MAX_CERTIFICATE_BYTES < length bytes → MAX_CERTIFICATE_BYTES < length content → IsJudged task table bytes verdict →
      IsJudged task table content verdict
  too_long long whole (inl accepted) = absurd (omega (arith, long, accepted.text_is.short))
  too_long long whole (inr rejected) = inr (record {
    rejection = rejected.rejection;
    told = rejected.told;
    reason = long_reason task table content bytes rejected.rejection long whole rejected.reason;
    never = λ certificate text_is valid. absurd (omega (arith, whole, text_is.short));
  })

-- a text that was loaded is judged as the file is
pub judged_in : (task : Task) (table : Table) (files : Option Files) (name bytes : List ℕ) (verdict : Verdict) (report : Report) →
    length bytes ≤ MAX_CERTIFICATE_BYTES + 1 → IfSome files (λ held. IsReadFrom held name MAX_CERTIFICATE_BYTES bytes) →
    report ≡ verdict_report verdict → IsJudged task table bytes verdict → IsJudgedIn task table files name report
judged_in task table files name bytes verdict report short read same judged =
    let content = content_of MAX_CERTIFICATE_BYTES files name bytes short read in (
      content.0,
      content.1,
      record {
        verdict = verdict;
        judged = judged_of_content task table content.0 bytes verdict content.2 judged;
        so = same;
      },
    )

-- and so it is of bytes that were loaded before
pub checked_in : (task : Task) (bytes : List ℕ) (files : Option Files) (name text : List ℕ) (verdict : Verdict) (report : Report) →
    length text ≤ MAX_CERTIFICATE_BYTES + 1 → IfSome files (λ held. IsReadFrom held name MAX_CERTIFICATE_BYTES text) →
    report ≡ verdict_report verdict → below.IsChecked task bytes text verdict →
    ReportsOn task (λ table. IsJudgedIn task table files name report) bytes report
checked_in task bytes files name text verdict report short read same = of_bytes_mapped task.source (reach task)
    (λ refusal. verdict ≡ verdicts.Refused refusal) (λ refusal. report ≡ reports.Refused refusal)
    (λ table. IsJudged task table text verdict) (λ table. IsJudgedIn task table files name report)
    (λ refusal told. same ∙ ap verdict_report told)
    (λ table judged. judged_in task table files name text verdict report short read same judged) bytes

-- ---- what is reported of bytes

-- a table that was given
pub reports_table : (task : Task) (bytes : List ℕ) (input : Input) (given : Given) (Fault : Report → Type 0) (Own : Table → Report → Type 0)
    (result : Result Report AllocError) → GivesInput task bytes input → input ≡ inputs.Table given →
    IfOk result (λ report. Fault report ⊎ Own given.table report) →
    IfOk result (λ report. Fault report ⊎ ReportsOn task (λ table. Own table report) bytes report)
reports_table task bytes input given Fault Own (Err error) gives is found = tt
reports_table task bytes input given Fault Own (Ok report) gives is (inl fault) = inl fault
reports_table task bytes input given Fault Own (Ok report) gives is (inr own) =
    inr (of_given task bytes input given (λ refusal. report ≡ reports.Refused refusal) (λ table. Own table report) gives is own)

-- where a certificate could not be loaded, that is reported, or the bytes are refused
pub unread_reports : (Rises : Type 0) (task : Task) (bytes : List ℕ) (Own : Table → Report → Type 0) (result : Result Report AllocError) →
    Rises → IfOk result (λ report. ReportsOn task (λ table. report ≡ reports.ReadFault) bytes report) →
    IfOk result (λ report. ((report ≡ reports.ReadFault) × Rises) ⊎ ReportsOn task (λ table. Own table report) bytes report)
unread_reports Rises task bytes Own (Err error) rises told = tt
unread_reports Rises task bytes Own (Ok report) rises told = elim
    (own_or_refused task.source (reach task) (λ refusal. report ≡ reports.Refused refusal) (report ≡ reports.ReadFault) bytes told) [
      | inl fault ↦ inl (fault, rises)
      | inr refused ↦ inr (of_bytes_mapped task.source (reach task) (λ refusal. report ≡ reports.Refused refusal)
          (λ refusal. report ≡ reports.Refused refusal) (λ table. ⊥) (λ table. Own table report) (λ refusal same. same)
          (λ table never. absurd never) bytes refused)
    ]

-- ---- how a check ends

-- what is reported of a check
abbrev pub checked_of : Asked → Report → Delivery
checked_of asked report = record { report = report; most = of_page (fitted_in asked) report; stores = [] }

-- what is reported is what comes of the file
pub check_comes : (asked : Asked) (change : Change) (bytes : List ℕ) (report : Report) (first last : ℕ) →
    IsLoadedFrom change.files (input_name asked) bytes → first ≡ change.load_faults → change.load_faults_after ≡ last →
    ((report ≡ reports.ReadFault) × Rose first last) ⊎ ReportsOn (task_of asked)
    (λ table. IsJudgedIn (task_of asked) table change.files (judged_name asked) report) bytes report →
    ComesOfInput asked (reach (task_of asked)) (IsChecked asked change.files) change (checked_of asked report)
check_comes asked change bytes report first last loaded begins ends (inl fault) = inl (record {
  rose = subst (λ (n : ℕ). Rose n change.load_faults_after) begins (subst (Rose first) (sym ends) fault.1);
  so = ap (checked_of asked) fault.0;
})
check_comes asked change bytes report first last loaded begins ends (inr of) = inr (of_loaded (task_of asked).source
    (reach (task_of asked)) (λ refusal. checked_of asked report ≡ reported (reports.Refused refusal))
    (λ table. IsChecked asked change.files table (checked_of asked report)) change.files (input_name asked) bytes loaded
    (of_bytes_mapped (task_of asked).source (reach (task_of asked)) (λ refusal. report ≡ reports.Refused refusal)
    (λ refusal. checked_of asked report ≡ reported (reports.Refused refusal))
    (λ table. IsJudgedIn (task_of asked) table change.files (judged_name asked) report)
    (λ table. IsChecked asked change.files table (checked_of asked report)) (λ refusal told. ap (checked_of asked) told)
    (λ table found. record { judged = found; most = refl; no_file = refl }) bytes of))
