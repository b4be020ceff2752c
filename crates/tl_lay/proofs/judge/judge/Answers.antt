-- A certificate is valid, or is rejected.
use Rattle.std.proofs.Common.{◌≤◌, ℕ, List, sym, subst}
use Rattle.std.specs.Prelude.{IfOk, Result, alloc_error}
use Rattle.tl_base.specs.Returned.{IsMemoryOr}
use Rattle.tl_base.specs.declared.limits.TheConstants.{MAX_BUDGET}
use Rattle.tl_cert.specs.declared.certificate.Certificate.{Certificate}
use Rattle.tl_cert.specs.declared.error.CertError.{CertError}
use Rattle.tl_cert.specs.Faults.{IsTextOf}
use Rattle.tl_cert.specs.Text.{IsWritable}
use Rattle.tl_form.specs.Valid.{IsValid}
use Rattle.tl_verify.specs.declared.reject.Reject.TheVariants.{Memory}
use Rattle.tl_verify.specs.Verdicts.{IsRefusedAs}
use Rattle.tl_lay.specs.Checks.{IsJudged}
use Rattle.tl_lay.specs.inner.Steps.{IsReadAs}
use Rattle.tl_lay.proofs.Judging.{accepted, few_of_last, step_rejected, text_rejected}
use Rattle.tl_lay.proofs.judge.judge.Goals as goal

pub returns-in-Err : goal.returns-in-Err
returns-in-Err g c =
    let task = c.args.task.now in
    let table = c.args.given.now.table in
    subst (λ (read : Result Certificate CertError). IfOk c.rejected.result (λ verdict. (text : List ℕ) → IsReadAs text read →
    IsJudged task table text verdict)) (sym c.in-Err.is)
    (text_rejected task table c.in-Err.error c.rejected.result c.text_rejection.result c.text_rejection.ensures c.rejected.ensures)

pub shown-requires : goal.shown-requires
shown-requires g c = few_of_last c.in-Ok.certificate
    (subst (λ (read : Result Certificate CertError). IfOk read IsWritable) c.in-Ok.is c.requires.written)

pub returns-in-Ok-verify : goal.returns-in-Ok-verify
returns-in-Ok-verify g c = λ text read.
    let task = c.args.task.now in
    let table = c.args.given.now.table in
    let certificate = c.in-Ok.certificate in
    accepted task table certificate c.requires.usable.sound c.requires.usable.range.narrow
    (subst (λ (b : ℕ). b ≤ MAX_BUDGET) c.requires.usable.of_task c.requires.usable.cuts)
    (subst (λ (b : ℕ). IsValid table task.style task.width b certificate)
    c.requires.usable.of_task c.in-Ok-verify.ensures.valid)
    c.lowest_is_least.ensures c.bounded_is_between.ensures c.narrow_is_too_wide.ensures c.budget_closes.ensures
    c.open_spends.ensures text c.shown.result
    (subst (λ (read : Result Certificate CertError). IfOk read (IsTextOf text)) c.in-Ok.is read.ok) c.shown.ensures

pub returns-in-Err-verify : goal.returns-in-Err-verify
returns-in-Err-verify g c =
    let task = c.args.task.now in
    let table = c.args.given.now.table in
    let certificate = c.in-Ok.certificate in
    subst (λ (read : Result Certificate CertError). IfOk c.rejected-in-Err-verify.result (λ verdict. (text : List ℕ) →
    IsReadAs text read → IsJudged task table text verdict)) (sym c.in-Ok.is)
    (step_rejected task table certificate c.in-Err-verify.reject c.rejected-in-Err-verify.result c.step_rejection.result
    c.step_rejection.ensures c.rejected-in-Err-verify.ensures
    (subst (λ (b : ℕ). IsMemoryOr (Memory alloc_error) (IsRefusedAs table task.style task.width b certificate)
    c.in-Err-verify.reject)
    c.requires.usable.of_task c.in-Err-verify.ensures.refused)
    (λ valid. c.in-Err-verify.ensures.accepts (subst (λ (b : ℕ). IsValid table task.style task.width b certificate)
    (sym c.requires.usable.of_task) valid)))
