-- What is reported is so of the bytes.
use Rattle.std.proofs.Common.{◌≡◌, refl, sym, subst}
use Rattle.std.specs.Prelude.{IfOk, Result}
use Rattle.std.specs.declared.alloc.AllocError.{AllocError}
use Rattle.tl_lay.proofs.Inputs.{of_given, of_refused}
use Rattle.tl_program.specs.declared.report.Report.{Report}
use Rattle.tl_program.specs.declared.report.Report.TheVariants as reports
use Rattle.tl_program.specs.inner.Steps.{ReportsOn}
use Rattle.tl_program.proofs.check.unread.Goals.{in-Table, in-Refused}
use Rattle.tl_program.proofs.check.unread.Goals as goal

pub returns : goal.returns
returns c =
    let task = c.args.task.now in
    let bytes = c.args.bytes.now in
    elim c.match-branch-2.branch [
      | in-Table w ↦ subst (λ (result : Result Report AllocError). IfOk result (λ report. ReportsOn task
          (λ table. report ≡ reports.ReadFault) bytes report)) (sym w.result-is)
          (of_given task bytes c.in_ok-refusal.field-0 w.in-Table.field-0
          (λ refusal. reports.ReadFault ≡ reports.Refused refusal) (λ table. reports.ReadFault ≡ reports.ReadFault)
          c.in_ok-refusal.ensures.given w.in-Table.is refl)
      | in-Refused w ↦ subst (λ (result : Result Report AllocError). IfOk result (λ report. ReportsOn task
          (λ table. report ≡ reports.ReadFault) bytes report)) (sym w.result-is)
          (of_refused task bytes c.in_ok-refusal.field-0 w.in-Refused.refusal
          (λ refusal. reports.Refused w.in-Refused.refusal ≡ reports.Refused refusal)
          (λ table. reports.Refused w.in-Refused.refusal ≡ reports.ReadFault)
          c.in_ok-refusal.ensures.given w.in-Refused.is refl)
    ]
