-- What is judged of the table that the bytes give is reported of the bytes.
use Rattle.std.proofs.Common.{◌≡◌, inr, refl, subst}
use Rattle.std.proofs.lemmas.Result.{IfOk-weaker}
use Rattle.tl_base.specs.Desk.{Rose}
use Rattle.tl_command.specs.Ask.{asked_by}
use Rattle.tl_lay.specs.declared.task.Task.{Task}
use Rattle.tl_lay.specs.Inputs.{GivesInput}
use Rattle.tl_lay.proofs.Inputs.{of_refused}
use Rattle.tl_program.specs.declared.report.Report.{Report}
use Rattle.tl_program.specs.declared.report.Report.TheVariants as reports
use Rattle.tl_program.specs.Asks.{judged_name}
use Rattle.tl_program.specs.Checks.{IsJudgedIn}
use Rattle.tl_program.specs.ReadFaults.{FailsToJudge, FailsToLoad}
use Rattle.tl_program.specs.Tasks.{task_of}
use Rattle.tl_program.proofs.Checking.{reports_table}
use Rattle.tl_program.proofs.ReadFaults.{given_spells}
use Rattle.tl_program.proofs.check.checked.Goals as goal

pub returns-in-Table-clause-report : goal.returns-in-Table-clause-report
returns-in-Table-clause-report g c =
    let task = task_of (asked_by c.args.ask.now) in
    let name = judged_name (asked_by c.args.ask.now) in
    let files = g.D.Desk.files c.args.desk.now in
    let Fault : Report → Type 0 = λ report. (report ≡ reports.ReadFault) × Rose (g.D.Desk.load_faults c.args.desk.now)
    (g.D.Desk.load_faults c.judged_file.new.desk) in
    reports_table task c.args.bytes.now c.in_ok-given.field-0 c.in-Table.given Fault
    (λ table report. IsJudgedIn task table files name report) c.judged_file.result
    (subst (λ (t : Task). GivesInput t c.args.bytes.now c.in_ok-given.field-0) c.task_of-task.ensures c.in_ok-given.ensures.given)
    c.in-Table.is c.judged_file.ensures.report

pub returns-in-Table-clause-fault : goal.returns-in-Table-clause-fault
returns-in-Table-clause-fault g c =
    let task = task_of (asked_by c.args.ask.now) in
    let name = judged_name (asked_by c.args.ask.now) in
    IfOk-weaker c.judged_file.result
    (λ report. report ≡ reports.ReadFault → FailsToLoad g.D.Desk c.args.desk.now c.judged_file.new.desk name)
    (λ report. report ≡ reports.ReadFault → FailsToJudge g.D.Desk c.args.desk.now c.judged_file.new.desk task c.args.bytes.now name)
    (λ report fails fault. record {
      table = c.in-Table.given.table;
      spells = given_spells task c.args.bytes.now c.in_ok-given.field-0 c.in-Table.given c.in-Table.is
          (subst (λ (t : Task). GivesInput t c.args.bytes.now c.in_ok-given.field-0) c.task_of-task.ensures
          c.in_ok-given.ensures.given);
      fails = fails fault;
    }) c.judged_file.ensures.fault

pub returns-in-Refused-clause-report : goal.returns-in-Refused-clause-report
returns-in-Refused-clause-report g c =
    let task = task_of (asked_by c.args.ask.now) in
    let name = judged_name (asked_by c.args.ask.now) in
    let report = reports.Refused c.in-Refused.refusal in
    inr (of_refused task c.args.bytes.now c.in_ok-given.field-0 c.in-Refused.refusal (λ refusal. report ≡ reports.Refused refusal)
    (λ table. IsJudgedIn task table (g.D.Desk.files c.args.desk.now) name report)
    (subst (λ (t : Task). GivesInput t c.args.bytes.now c.in_ok-given.field-0) c.task_of-task.ensures c.in_ok-given.ensures.given)
    c.in-Refused.is refl)
