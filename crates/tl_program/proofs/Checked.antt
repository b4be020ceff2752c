-- What a check comes to, as the files decide it.
use Rattle.std.proofs.Common.{◌≡◌, ◌⊎◌, inl, inr, ℕ, List, sym, ap, subst, ◌∙◌}
use Rattle.tl_command.specs.declared.command.Command.TheVariants.{Check}
use Rattle.tl_command.specs.Ask.{Asked}
use Rattle.tl_cert.specs.declared.certificate.Certificate.{Certificate}
use Rattle.tl_cert.specs.declared.certificate.Claim.{Claim}
use Rattle.tl_cert.proofs.OneText.{one_certificate}
use Rattle.tl_table.specs.declared.cell.Table.{Table}
use Rattle.tl_table.specs.Same.{AreSame}
use Rattle.tl_table.proofs.SameTables.{same_turned}
use Rattle.tl_program.specs.declared.report.Report.{Report}
use Rattle.tl_lay.specs.declared.task.Task.{Task}
use Rattle.tl_lay.specs.declared.verdict.Verdict.{Verdict}
use Rattle.tl_lay.proofs.OneJudgement.{valid_alike}
use Rattle.tl_program.specs.Asks.{input_name, judged_name}
use Rattle.tl_program.specs.Settled.{IsAskFor}
use Rattle.tl_program.specs.Change.{Change, DoesNotFail}
use Rattle.tl_lay.specs.Checks.{IsShownAs, lowest_shown, bounded_shown, narrow_shown, IsJudged}
use Rattle.tl_program.specs.Checks.{IsChecked}
use Rattle.tl_program.specs.Complete.{ShowsFile, SpellsTable, claim_status, IsAcceptedSo, IsRejectedSo}
use Rattle.tl_program.specs.Headline.{Ends}
use Rattle.tl_program.specs.Messages.{status_number, status_of}
use Rattle.tl_program.specs.Reports.{verdict_report}
use Rattle.tl_program.specs.Tasks.{task_of}
use Rattle.tl_program.proofs.Ends.{same_bytes, went_for, own_input}

-- the status of a verdict
abbrev verdict_status : Verdict → ℕ
verdict_status verdict = status_number (status_of (verdict_report verdict))

module _ (words : List (List ℕ)) (change : Change) (status : ℕ) (ends : Ends words change status) (asked : Asked)
    (bytes text : List ℕ) (table : Table) (is : IsAskFor Check words bytes asked) (input : ShowsFile change (input_name asked) bytes)
    (certificate : ShowsFile change (judged_name asked) text) (quiet : DoesNotFail change)
    (spells : SpellsTable (task_of asked) bytes table) where
  -- a check which did not fail has the status of the verdict on the text, for the table as it was read
  judged_status : (n : ℕ) → ((found : Table) → AreSame found table → (verdict : Verdict) →
      IsJudged (task_of asked) found text verdict → verdict_status verdict ≡ n) → (status ≡ n) ⊎ (status ≡ 9)
  judged_status n by_verdict = elim (went_for words change status Check asked bytes ends is input quiet) [
    | inl so ↦
        let own = own_input asked.number asked (IsChecked asked change.files) change so.0 so.1 bytes input quiet table spells in
        let judged = own.2.judged in
        let same = same_bytes change.files certificate.0 (judged_name asked) judged.0 text certificate.1 certificate.2 judged.1 in
        inl (so.2 ∙ ap (λ (report : Report). status_number (status_of report)) judged.2.so ∙ by_verdict own.0 own.1
        judged.2.verdict (subst (λ (t : List ℕ). IsJudged (task_of asked) own.0 t judged.2.verdict) same judged.2.judged))
    | inr nine ↦ inr nine
  ]

-- what is shown has the status of the claim
shown_status : (task : Task) (table : Table) (certificate : Certificate) {verdict : Verdict} →
    IsShownAs task table certificate verdict → verdict_status verdict ≡ status_number (claim_status certificate.claim)
shown_status task table certificate (lowest_shown is) =
    sym (ap (λ (claim : Claim). status_number (claim_status claim)) is.claimed)
shown_status task table certificate (bounded_shown is) =
    sym (ap (λ (claim : Claim). status_number (claim_status claim)) is.claimed)
shown_status task table certificate (narrow_shown is) =
    sym (ap (λ (claim : Claim). status_number (claim_status claim)) is.claimed)

-- a text of a valid certificate has the status of its claim
pub accepted_so : (words : List (List ℕ)) (change : Change) (status : ℕ) → Ends words change status →
    IsAcceptedSo words change status
accepted_so words change status ends = λ asked bytes text table certificate is input held quiet spells text_is valid.
    judged_status words change status ends asked bytes text table is input held quiet spells
    (status_number (claim_status certificate.claim)) (λ found alike verdict judged. elim judged [
      | inl accepted ↦ shown_status (task_of asked) found accepted.certificate accepted.shows
          ∙ ap (λ (c : Certificate). status_number (claim_status c.claim))
          (one_certificate text accepted.certificate certificate accepted.text_is text_is)
      | inr rejected ↦ absurd (rejected.never certificate text_is
          (valid_alike (task_of asked) table found certificate (same_turned found table alike) valid))
    ])

-- and any other text is rejected
pub rejected_so : (words : List (List ℕ)) (change : Change) (status : ℕ) → Ends words change status →
    IsRejectedSo words change status
rejected_so words change status ends = λ asked bytes text table is input held quiet spells never.
    judged_status words change status ends asked bytes text table is input held quiet spells 10
    (λ found alike verdict judged. elim judged [
      | inl accepted ↦ absurd (never accepted.certificate accepted.text_is
          (valid_alike (task_of asked) found table accepted.certificate alike accepted.valid))
      | inr rejected ↦ ap verdict_status rejected.told
    ])
