-- What was loaded of both files is judged as the files are.
use Rattle.std.proofs.Common.{◌≤◌, ◌+◌, List, ℕ, inr, length, Option, subst}
use Rattle.std.specs.Prelude.{IfNone, IfSome}
use Rattle.tl_base.specs.declared.limits.TheConstants.{MAX_CERTIFICATE_BYTES}
use Rattle.tl_base.specs.Desk.{IsReadFrom, Rose}
use Rattle.tl_command.specs.Ask.{asked_by}
use Rattle.tl_lay.specs.declared.task.Task.{Task}
use Rattle.tl_lay.specs.Checks.{IsChecked}
use Rattle.tl_program.specs.Asks.{judged_name}
use Rattle.tl_program.specs.Checks.{IsJudgedIn}
use Rattle.tl_program.specs.Tasks.{task_of}
use Rattle.tl_program.specs.inner.Steps.{ReportsOn}
use Rattle.tl_program.proofs.Checking.{checked_in, unread_reports}
use Rattle.tl_program.proofs.ReadFaults.{fails_here, unread_fails, verdict_no_fault}
use Rattle.tl_program.proofs.check.checked_at_once.Goals as goal

pub returns-clause-report : goal.returns-clause-report
returns-clause-report g c =
    let task = task_of (asked_by c.args.ask.now) in
    let files = g.D.Desk.files c.args.desk.now in
    inr (subst (λ (n : List ℕ). ReportsOn task (λ table. IsJudgedIn task table files n c.of_verdict.result)
    c.args.bytes.now c.of_verdict.result) c.judged_name.ensures
    (checked_in task c.args.bytes.now files c.judged_name.result.now c.in-Some.text c.in_ok-verdict.verdict
    c.of_verdict.result
    (subst (λ (found : Option (List ℕ)). IfSome found (λ bytes. length bytes ≤ MAX_CERTIFICATE_BYTES + 1))
    c.in-Some.is c.in_ok-text.ensures.short)
    (subst (λ (found : Option (List ℕ)). IfSome found (λ bytes. IfSome files
    (λ held. IsReadFrom held c.judged_name.result.now MAX_CERTIFICATE_BYTES bytes))) c.in-Some.is c.in_ok-text.ensures.read)
    c.of_verdict.ensures
    (subst (λ (t : Task). IsChecked t c.args.bytes.now c.in-Some.text c.in_ok-verdict.verdict) c.task_of-task.ensures
    (subst (λ (text : List ℕ). IsChecked c.task_of-task.result c.args.bytes.now text c.in_ok-verdict.verdict) c.as_slice.ensures
    c.in_ok-verdict.ensures.checked))))

pub returns-clause-fault : goal.returns-clause-fault
returns-clause-fault g c = λ fault.
    absurd (verdict_no_fault c.in_ok-verdict.verdict c.of_verdict.result c.of_verdict.ensures fault)

pub returns-in_default-clause-report : goal.returns-in_default-clause-report
returns-in_default-clause-report g c =
    let task = task_of (asked_by c.args.ask.now) in
    let name = judged_name (asked_by c.args.ask.now) in
    unread_reports (Rose (g.D.Desk.load_faults c.args.desk.now) (g.D.Desk.load_faults c.load.new.desk)) task
    c.args.bytes.now (λ table report. IsJudgedIn task table (g.D.Desk.files c.args.desk.now) name report) c.unread.result
    (subst (λ (found : Option (List ℕ)). IfNone found
    (Rose (g.D.Desk.load_faults c.args.desk.now) (g.D.Desk.load_faults c.load.new.desk)))
    c.in_default.is c.in_ok-text.ensures.none) (rw c.task_of-task.ensures at c.unread.ensures)

pub returns-in_default-clause-fault : goal.returns-in_default-clause-fault
returns-in_default-clause-fault g c =
    let task = task_of (asked_by c.args.ask.now) in
    let name = judged_name (asked_by c.args.ask.now) in
    unread_fails g.D.Desk c.args.desk.now c.load.new.desk task c.args.bytes.now name c.unread.result
    (fails_here g.D.Desk c.args.desk.now c.load.new.desk name
    (subst (λ (n : List ℕ). g.D.Desk.fails_to_load c.args.desk.now n c.load.new.desk) c.judged_name.ensures
    (subst (λ (found : Option (List ℕ)). IfNone found
    (g.D.Desk.fails_to_load c.args.desk.now c.judged_name.result.now c.load.new.desk)) c.in_default.is
    c.in_ok-text.ensures.fails))) (rw c.task_of-task.ensures at c.unread.ensures)
