use Rattle.std.proofs.Common.{◌≡◌, ◌∙◌, true, false, alloc_error, ◌⊎◌, inl, inr, sym, subst, rules}
use Rattle.std.proofs.lemmas.Result.{err_from_is_err_and}
use Rattle.tl_base.specs.Returned.{IsMemoryOr}
use Rattle.tl_table.specs.Sound.{IsSound}
use Rattle.tl_form.specs.Subjects.{meant}
use Rattle.tl_form.specs.Valid.{IsClaimFor, IsValidFor}
use Rattle.tl_form.proofs.OneProblem.{one_document}
use Rattle.tl_verify.specs.declared.reject.Reject.TheVariants.{Memory}
use Rattle.tl_verify.specs.declared.reject.Reject.TheVariants as rejects
use Rattle.tl_verify.specs.Verdicts.{IsReason, IsRefusedAs}
use Rattle.tl_verify.proofs.Judging.{or_why}
use Rattle.tl_verify.proofs.OneVerdict.{not_both, one_reason}
use Rattle.tl_verify.proofs.verdict.verify.Goals as goal

never : true ≡ false → ⊥
never same = cc

pub returns-then-not-is_claim_for-clause-accepts : goal.returns-then-not-is_claim_for-clause-accepts
returns-then-not-is_claim_for-clause-accepts g c = λ valid.
    let document = meant c.in_ok-subject.subject in
    let same = one_document c.args.table.now c.args.style c.args.width valid.0 document c.requires.sound valid.1
    c.in_ok-subject.ensures.is in
    absurd (never (sym (c.is_claim_for.ensures.1 (subst (λ d. IsClaimFor d c.args.budget c.args.certificate.now)
    same valid.2.claim))
    ∙ c.if-not-is_claim_for.true))

pub returns-then-not-is_claim_for-clause-refused : goal.returns-then-not-is_claim_for-clause-refused
returns-then-not-is_claim_for-clause-refused g c =
    inr (
      meant c.in_ok-subject.subject,
      c.in_ok-subject.ensures.is,
      inl (λ claim. never (sym (c.is_claim_for.ensures.1 claim) ∙ c.if-not-is_claim_for.true)),
    )

pub returns-then-not-is_claim_for-clause-refuses : goal.returns-then-not-is_claim_for-clause-refuses
returns-then-not-is_claim_for-clause-refuses g c = λ reject why.
    let document = meant c.in_ok-subject.subject in
    let same = one_document c.args.table.now c.args.style c.args.width why.0 document c.requires.sound why.1
    c.in_ok-subject.ensures.is in
    inr (one_reason document (subst IsSound (sym c.in_ok-subject.ensures.is.same) c.requires.sound)
    c.args.budget c.args.certificate.now rejects.Claim reject
    (inl (λ claim. never (sym (c.is_claim_for.ensures.1 claim) ∙ c.if-not-is_claim_for.true)))
    (subst (λ d. IsReason d c.args.budget c.args.certificate.now reject) same why.2))

pub returns-in_err-judge_proof-clause-accepts : goal.returns-in_err-judge_proof-clause-accepts
returns-in_err-judge_proof-clause-accepts g c = λ valid.
    let document = meant c.in_ok-subject.subject in
    let same = one_document c.args.table.now c.args.style c.args.width valid.0 document c.requires.sound valid.1
    c.in_ok-subject.ensures.is in
    let is : c.in_err-judge_proof.field-0.0 ≡ Memory alloc_error = elim c.in_err-judge_proof.ensures.wrong [
      | inl memory ↦ memory
      | inr why ↦ absurd (not_both document (subst IsSound (sym c.in_ok-subject.ensures.is.same) c.requires.sound)
          c.args.budget c.args.certificate.now
          c.in_err-judge_proof.field-0.0 (subst (λ d. IsValidFor d c.args.budget c.args.certificate.now) same valid.2) why)
    ] in
    search rules

pub returns-in_err-judge_proof-clause-refused : goal.returns-in_err-judge_proof-clause-refused
returns-in_err-judge_proof-clause-refused g c =
    let refused : IsMemoryOr (Memory alloc_error) (IsRefusedAs c.args.table.now c.args.style c.args.width c.args.budget
    c.args.certificate.now)
    c.in_err-judge_proof.field-0.0 =
    or_why (Memory alloc_error) (IsReason (meant c.in_ok-subject.subject) c.args.budget c.args.certificate.now)
    (IsRefusedAs c.args.table.now c.args.style c.args.width c.args.budget c.args.certificate.now) c.in_err-judge_proof.field-0.0
    (λ why. (meant c.in_ok-subject.subject, c.in_ok-subject.ensures.is, why)) c.in_err-judge_proof.ensures.wrong in
    let p = err_from_is_err_and c.from_residual-in_err-judge_proof.result c.from_residual-in_err-judge_proof.ensures.1 in
    rw (p.1, p.2) refused

pub returns-in_err-judge_proof-clause-refuses : goal.returns-in_err-judge_proof-clause-refuses
returns-in_err-judge_proof-clause-refuses g c = λ reject why.
    let document = meant c.in_ok-subject.subject in
    let same = one_document c.args.table.now c.args.style c.args.width why.0 document c.requires.sound why.1
    c.in_ok-subject.ensures.is in
    let is : (c.in_err-judge_proof.field-0.0 ≡ Memory alloc_error) ⊎ (c.in_err-judge_proof.field-0.0 ≡ reject) =
    or_why (Memory alloc_error) (IsReason document c.args.budget c.args.certificate.now) (λ error. error ≡ reject)
    c.in_err-judge_proof.field-0.0
    (λ reason. one_reason document (subst IsSound (sym c.in_ok-subject.ensures.is.same) c.requires.sound)
    c.args.budget c.args.certificate.now
    c.in_err-judge_proof.field-0.0 reject reason (subst (λ d. IsReason d c.args.budget c.args.certificate.now reject) same why.2))
    c.in_err-judge_proof.ensures.wrong in
    search rules

pub returns-clause-valid : goal.returns-clause-valid
returns-clause-valid g c = (meant c.in_ok-subject.subject, c.in_ok-subject.ensures.is, c.in_ok-judge_proof.ensures.valid)

pub returns-clause-refuses : goal.returns-clause-refuses
returns-clause-refuses g c = λ reject why.
    let document = meant c.in_ok-subject.subject in
    let same = one_document c.args.table.now c.args.style c.args.width why.0 document c.requires.sound why.1
    c.in_ok-subject.ensures.is in
    not_both document (subst IsSound (sym c.in_ok-subject.ensures.is.same) c.requires.sound)
    c.args.budget c.args.certificate.now reject
    c.in_ok-judge_proof.ensures.valid (subst (λ d. IsReason d c.args.budget c.args.certificate.now reject) same why.2)
