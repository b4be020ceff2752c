-- What the files of a check come to is reported.
use Rattle.std.proofs.Common.{◌≡◌, ◌⊎◌, List, [], ℕ, Option, get_or, inr, refl, ◌∙◌, subst}
use Rattle.tl_base.specs.Desk.{Files, Rose}
use Rattle.tl_command.specs.declared.command.Command.TheVariants.{Check}
use Rattle.tl_command.specs.Ask.{asked_by}
use Rattle.tl_program.specs.declared.report.Report.TheVariants as reports
use Rattle.tl_program.specs.Asks.{judged_name}
use Rattle.tl_program.specs.Change.{between}
use Rattle.tl_program.specs.Checks.{IsJudgedIn}
use Rattle.tl_program.specs.Asks.{input_name}
use Rattle.tl_program.specs.Messages.{of_page}
use Rattle.tl_program.specs.Settled.{Settles}
use Rattle.tl_program.specs.inner.Printing.{IsDelivered}
use Rattle.tl_program.specs.ReadFaults.{FailsToJudge}
use Rattle.tl_program.specs.Tasks.{task_of}
use Rattle.tl_program.specs.inner.Steps.{ReportsOn}
use Rattle.tl_program.proofs.Asking.{comes_of, settled_names}
use Rattle.tl_program.proofs.Checking.{check_comes, checked_of}
use Rattle.tl_program.proofs.FirstFitted.{loaded_settled, settles_loaded}
use Rattle.tl_program.proofs.Loading.{IsLoadedFrom, delivery_ends, follows_load}
use Rattle.tl_program.proofs.ReadFaults.{check_fails, delivered_fault}
use Rattle.tl_program.proofs.running.check_file.Goals as goal

pub returns-in-Ok-checked-clause-ends : goal.returns-in-Ok-checked-clause-ends
returns-in-Ok-checked-clause-ends g c = λ words is.
    let asked = asked_by c.args.ask.now in
    let settled = asked_by c.in-Ok-settled.ask in
    let bytes = c.in-Ok.bytes in
    let report = c.in-Ok-checked.report in
    let change = between g.D.Desk c.args.desk.now c.deliver.new.desk in
    let second = between g.D.Desk c.checked.new.desk c.deliver.new.desk in
    let loaded : IsLoadedFrom change.files (input_name asked) bytes =
    record { short = c.in-Ok.ensures.short; read = c.in-Ok.ensures.read } in
    let settles = subst (λ (bs : List ℕ). Settles bs asked settled) c.as_slice-bytes.ensures c.in-Ok-settled.ensures.settles in
    let Fault = (report ≡ reports.ReadFault) × Rose (g.D.Desk.load_faults c.load_input.new.desk)
    (g.D.Desk.load_faults c.checked.new.desk) in
    delivery_ends words change second c.deliver.result
    (follows_load g.D.Desk c.args.desk.now c.checked.new.desk c.deliver.new.desk
    (c.checked.ensures.files_stay ∙ c.in-Ok.ensures.files_stay) (c.checked.ensures.said_stays ∙ c.in-Ok.ensures.said_stays)
    (c.checked.ensures.writes_stay ∙ c.in-Ok.ensures.writes_stay)) (checked_of settled report)
    (comes_of words change Check asked settled (checked_of settled report) c.requires.command is
    (settles_loaded change.files asked settled bytes loaded settles)
    (check_comes settled change bytes report (g.D.Desk.load_faults c.load_input.new.desk)
    (g.D.Desk.load_faults c.checked.new.desk) (loaded_settled change.files asked settled bytes settles loaded)
    c.in-Ok.ensures.counts c.deliver.ensures.loads_stay
    (subst (λ (files : Option Files). Fault ⊎ ReportsOn (task_of settled)
    (λ table. IsJudgedIn (task_of settled) table files (judged_name settled) report) bytes report) c.in-Ok.ensures.files_stay
    (subst (λ (bs : List ℕ). Fault ⊎ ReportsOn (task_of settled)
    (λ table. IsJudgedIn (task_of settled) table (g.D.Desk.files c.load_input.new.desk) (judged_name settled) report) bs
    report) c.as_slice-bytes.ensures c.in-Ok-checked.ensures.report))))
    (subst (λ (most : Option ℕ). IsDelivered c.deliver.result second (record { report = report; most = of_page most report; stores = [] }))
    c.fitted_in.ensures c.deliver.ensures.delivered)

pub returns-in-Ok-checked-clause-read_fault : goal.returns-in-Ok-checked-clause-read_fault
returns-in-Ok-checked-clause-read_fault g c = λ same.
    let asked = asked_by c.args.ask.now in
    let settled = asked_by c.in-Ok-settled.ask in
    let bytes = c.in-Ok.bytes in
    let files = g.D.Desk.files c.args.desk.now in
    let loaded : IsLoadedFrom files (input_name asked) bytes =
    record { short = c.in-Ok.ensures.short; read = c.in-Ok.ensures.read } in
    let settles = subst (λ (bs : List ℕ). Settles bs asked settled) c.as_slice-bytes.ensures c.in-Ok-settled.ensures.settles in
    let second = between g.D.Desk c.checked.new.desk c.deliver.new.desk in
    let fault = delivered_fault c.deliver.result second
    (record { report = c.in-Ok-checked.report; most = of_page c.fitted_in.result c.in-Ok-checked.report; stores = [] })
    c.deliver.ensures.delivered same in
    let named = subst (λ (names : List (List ℕ)). FailsToJudge g.D.Desk c.load_input.new.desk c.checked.new.desk (task_of settled) bytes
    (get_or names 1 [])) (settled_names asked settled bytes settles) in
    inr (
      c.requires.command,
      check_fails g.D.Desk c.args.desk.now c.load_input.new.desk c.checked.new.desk c.deliver.new.desk asked settled (task_of settled)
          bytes refl (settles_loaded files asked settled bytes loaded settles) loaded
          c.in-Ok.ensures.files_stay c.in-Ok.ensures.said_stays c.in-Ok.ensures.counts c.deliver.ensures.loads_stay
          (named (subst (λ (bs : List ℕ). FailsToJudge g.D.Desk c.load_input.new.desk c.checked.new.desk (task_of settled) bs
          (judged_name settled)) c.as_slice-bytes.ensures (c.in-Ok-checked.ensures.fault fault))),
    )
