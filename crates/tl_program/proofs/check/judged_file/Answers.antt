-- What was loaded of the certificate is judged as its file is.
use Rattle.std.proofs.Common.{◌≤◌, ◌+◌, List, ℕ, inr, length, Option, subst}
use Rattle.std.specs.Prelude.{IfNone, IfSome}
use Rattle.tl_base.specs.declared.limits.TheConstants.{MAX_CERTIFICATE_BYTES}
use Rattle.tl_base.specs.Desk.{IsReadFrom}
use Rattle.tl_command.specs.Ask.{asked_by}
use Rattle.tl_lay.specs.declared.task.Task.{Task}
use Rattle.tl_lay.specs.Checks.{IsJudged}
use Rattle.tl_program.specs.Asks.{judged_name}
use Rattle.tl_program.specs.Checks.{IsJudgedIn}
use Rattle.tl_program.specs.Tasks.{task_of}
use Rattle.tl_program.proofs.Checking.{judged_in}
use Rattle.tl_program.proofs.ReadFaults.{fails_here, verdict_no_fault}
use Rattle.tl_program.proofs.check.judged_file.Goals as goal

pub returns-clause-report : goal.returns-clause-report
returns-clause-report g c =
    let task = task_of (asked_by c.args.ask.now) in
    let files = g.D.Desk.files c.args.desk.now in
    inr (subst (λ (n : List ℕ). IsJudgedIn task c.args.given.now.table files n c.of_verdict.result) c.judged_name.ensures
    (judged_in task c.args.given.now.table files c.judged_name.result.now c.in-Some.text c.in_ok-verdict.verdict
    c.of_verdict.result
    (subst (λ (found : Option (List ℕ)). IfSome found (λ bytes. length bytes ≤ MAX_CERTIFICATE_BYTES + 1))
    c.in-Some.is c.in_ok-text.ensures.short)
    (subst (λ (found : Option (List ℕ)). IfSome found (λ bytes. IfSome files
    (λ held. IsReadFrom held c.judged_name.result.now MAX_CERTIFICATE_BYTES bytes))) c.in-Some.is c.in_ok-text.ensures.read)
    c.of_verdict.ensures
    (subst (λ (t : Task). IsJudged t c.args.given.now.table c.in-Some.text c.in_ok-verdict.verdict) c.task_of.ensures
    (subst (λ (text : List ℕ). IsJudged c.task_of.result c.args.given.now.table text c.in_ok-verdict.verdict) c.as_slice.ensures
    c.in_ok-verdict.ensures.judged))))

pub returns-in_default-clause-fault : goal.returns-in_default-clause-fault
returns-in_default-clause-fault g c = λ is.
    let name = judged_name (asked_by c.args.ask.now) in
    fails_here g.D.Desk c.args.desk.now c.load.new.desk name
    (subst (λ (n : List ℕ). g.D.Desk.fails_to_load c.args.desk.now n c.load.new.desk) c.judged_name.ensures
    (subst (λ (found : Option (List ℕ)). IfNone found
    (g.D.Desk.fails_to_load c.args.desk.now c.judged_name.result.now c.load.new.desk)) c.in_default.is
    c.in_ok-text.ensures.fails))

pub returns-clause-fault : goal.returns-clause-fault
returns-clause-fault g c = λ fault.
    absurd (verdict_no_fault c.in_ok-verdict.verdict c.of_verdict.result c.of_verdict.ensures fault)
