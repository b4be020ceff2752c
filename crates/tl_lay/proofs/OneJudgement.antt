-- A text is judged in one way, for tables that are the same, whatever the workers.
use Rattle.std.proofs.lemmas.Option.{same_Some}
use Rattle.std.proofs.Common.{◌≡◌, ◌∙◌, inl, inr, ℕ, List, sym, ap, subst}
use Rattle.tl_cert.specs.declared.certificate.Certificate.{Certificate}
use Rattle.tl_cert.specs.declared.certificate.Claim.{Claim}
use Rattle.tl_cert.proofs.OneText.{one_certificate, one_error, text_or_error}
use Rattle.tl_table.specs.declared.cell.Table.{Table}
use Rattle.tl_table.specs.Same.{AreSame}
use Rattle.tl_table.specs.Sound.{IsSound}
use Rattle.tl_table.proofs.SameTables.{same_turned}
use Rattle.tl_form.specs.Valid.{IsValid}
use Rattle.tl_form.proofs.SameDocuments.{same_valid}
use Rattle.tl_verify.specs.Verdicts.{IsRefusedAs}
use Rattle.tl_verify.proofs.OneVerdict.{one_refusal}
use Rattle.tl_lay.specs.declared.rejection.Rejection.{Rejection}
use Rattle.tl_lay.specs.declared.task.Task.{Task}
use Rattle.tl_lay.specs.declared.verdict.Verdict.{Verdict}
use Rattle.tl_lay.specs.declared.verdict.Verdict.TheVariants as verdicts
use Rattle.tl_lay.specs.Budgets.{budget_in}
use Rattle.tl_lay.specs.Checks.{IsJudged, IsRejectionOf, IsShownAs, IsValidIn, bounded_shown, columns_shown, lowest_shown, narrow_shown}
use Rattle.tl_lay.specs.Rejections.{step_rejection, text_rejection}
use Rattle.tl_lay.specs.inner.Claims.{verdict_of}
use Rattle.tl_lay.proofs.SameBudgets.{same_budget}

-- ---- tables that are the same

-- a certificate that is valid for a table is valid for each that is the same
pub valid_alike : (task : Task) (one other : Table) (certificate : Certificate) → AreSame one other →
    IsValidIn task one certificate → IsValidIn task other certificate
valid_alike task one other certificate same valid =
    subst (λ (budget : ℕ). IsValid other task.style task.width budget certificate) (same_budget task one other same)
    (same_valid one other task.style task.width (budget_in task one) certificate same valid)

-- what is shown is told by the certificate
shown_by : (task : Task) (table : Table) (certificate : Certificate) {verdict : Verdict} →
    IsShownAs task table certificate verdict → verdict ≡ verdict_of task.width certificate.claim (columns_shown task certificate)
shown_by task table certificate (lowest_shown is) =
    ap (λ (claim : Claim). verdict_of task.width claim (columns_shown task certificate)) (sym is.claimed)
shown_by task table certificate (bounded_shown is) =
    ap (λ (claim : Claim). verdict_of task.width claim (columns_shown task certificate)) (sym is.claimed)
shown_by task table certificate (narrow_shown is) =
    ap (λ (claim : Claim). verdict_of task.width claim (columns_shown task certificate)) (sym is.claimed)

-- so one certificate shows one thing
one_shown : (task : Task) (one other : Table) (certificate : Certificate) (first second : Verdict) →
    IsShownAs task one certificate first → IsShownAs task other certificate second → first ≡ second
one_shown task one other certificate first second is also =
    shown_by task one certificate is ∙ sym (shown_by task other certificate also)

-- a text is rejected for one reason
one_rejection : (task : Task) (one other : Table) (text : List ℕ) (first second : Rejection) → IsSound other → AreSame one other →
    IsRejectionOf task one text first → IsRejectionOf task other text second → first ≡ second
one_rejection task one other text first second sound same (inl (error, no_text, is)) (inl (more, no_more, also)) =
    same_Some _ _ (sym is ∙ ap text_rejection (one_error text error more no_text no_more) ∙ also)
one_rejection task one other text first second sound same (inl (error, no_text, is)) (inr (certificate, reject, text_is, refused, also)) =
    absurd (text_or_error text certificate error text_is no_text)
one_rejection task one other text first second sound same (inr (certificate, reject, text_is, refused, also)) (inl (error, no_text, is)) =
    absurd (text_or_error text certificate error text_is no_text)
one_rejection task one other text first second sound same (inr (certificate, reject, text_is, refused, is))
    (inr (more, step, more_is, refuses, also)) = same_Some _ _ (sym is ∙ ap step_rejection steps ∙ also) where
      steps : reject ≡ step
      steps = one_refusal one other task.style task.width (budget_in task one) certificate reject step sound same refused
          (subst (λ (budget : ℕ). IsRefusedAs other task.style task.width budget certificate step)
          (sym (same_budget task one other same))
          (subst (λ (c : Certificate). IsRefusedAs other task.style task.width (budget_in task other) c step)
          (one_certificate text more certificate more_is text_is) refuses))

-- a text is judged in one way
pub judged_alike : (task : Task) (one other : Table) (text : List ℕ) (first second : Verdict) → IsSound other → AreSame one other →
    IsJudged task one text first → IsJudged task other text second → first ≡ second
judged_alike task one other text first second sound same (inl accepted) (inl also) =
    one_shown task one other accepted.certificate first second accepted.shows
    (subst (λ (c : Certificate). IsShownAs task other c second)
    (one_certificate text also.certificate accepted.certificate also.text_is accepted.text_is) also.shows)
judged_alike task one other text first second sound same (inl accepted) (inr rejected) =
    absurd (rejected.never accepted.certificate accepted.text_is
    (valid_alike task one other accepted.certificate same accepted.valid))
judged_alike task one other text first second sound same (inr rejected) (inl accepted) =
    absurd (rejected.never accepted.certificate accepted.text_is
    (valid_alike task other one accepted.certificate (same_turned one other same) accepted.valid))
judged_alike task one other text first second sound same (inr rejected) (inr also) =
    rejected.told
    ∙ ap (λ (rejection : Rejection). verdicts.Rejected rejection)
    (one_rejection task one other text rejected.rejection also.rejection sound same rejected.reason also.reason)
    ∙ sym also.told

-- ---- the workers

-- the same task for one worker
abbrev pub for_one_worker : Task → Task
for_one_worker task = record {
  width = task.width;
  style = task.style;
  source = task.source;
  budget = task.budget;
  search = task.search;
  workers = 1;
  format = task.format;
  certified = task.certified;
}

-- what is shown does not depend on the workers
shown_for_one : (task : Task) (table : Table) (certificate : Certificate) {verdict : Verdict} →
    IsShownAs task table certificate verdict → IsShownAs (for_one_worker task) table certificate verdict
shown_for_one task table certificate (lowest_shown is) = lowest_shown is
shown_for_one task table certificate (bounded_shown is) = bounded_shown is
shown_for_one task table certificate (narrow_shown is) = narrow_shown is

-- nor does how a text is judged
judged_for_one : (task : Task) (table : Table) (text : List ℕ) (verdict : Verdict) → IsJudged task table text verdict →
    IsJudged (for_one_worker task) table text verdict
judged_for_one task table text verdict (inl accepted) = inl (record {
  certificate = accepted.certificate;
  text_is = accepted.text_is;
  valid = accepted.valid;
  shows = shown_for_one task table accepted.certificate accepted.shows;
})
judged_for_one task table text verdict (inr rejected) = inr (record {
  rejection = rejected.rejection;
  told = rejected.told;
  reason = rejected.reason;
  never = rejected.never;
})

-- so tasks that differ in nothing else judge a text in one way, for tables that are the same
pub judged_whatever_workers : (task twin : Task) (one other : Table) (text : List ℕ) (first second : Verdict) →
    for_one_worker task ≡ for_one_worker twin → IsSound other → AreSame one other → IsJudged task one text first →
    IsJudged twin other text second → first ≡ second
judged_whatever_workers task twin one other text first second same sound alike is also =
    judged_alike (for_one_worker twin) one other text first second sound alike
    (subst (λ (t : Task). IsJudged t one text first) same (judged_for_one task one text first is))
    (judged_for_one twin other text second also)
