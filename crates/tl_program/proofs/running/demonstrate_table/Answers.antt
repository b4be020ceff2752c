-- The numbers of a demonstration are printed.
use Rattle.std.proofs.Common.{refl}
use Rattle.tl_command.specs.Ask.{asked_by}
use Rattle.tl_program.specs.declared.report.Report.TheVariants as reports
use Rattle.tl_program.specs.Change.{between}
use Rattle.tl_program.specs.Deliveries.{reported}
use Rattle.tl_program.proofs.Asking.{demo_of}
use Rattle.tl_program.proofs.Ends.{delivered_ends}
use Rattle.tl_program.proofs.ReadFaults.{delivered_fault, summary_no_fault}
use Rattle.tl_program.proofs.running.demonstrate_table.Goals as goal

pub returns-in-Ok-clause-ends : goal.returns-in-Ok-clause-ends
returns-in-Ok-clause-ends g c = λ words is.
    let change = between g.D.Desk c.args.desk.now c.deliver.new.desk in
    delivered_ends words change c.deliver.result (reported (reports.Summary c.in-Ok.summary))
    (demo_of words change (asked_by c.args.ask.now) (reported (reports.Summary c.in-Ok.summary)) c.requires.command is
    (c.in-Ok.summary, c.in-Ok.ensures, refl)) c.deliver.ensures.delivered

pub returns-in-Ok-clause-read_fault : goal.returns-in-Ok-clause-read_fault
returns-in-Ok-clause-read_fault g c = λ same.
    let change = between g.D.Desk c.args.desk.now c.deliver.new.desk in
    absurd (summary_no_fault c.in-Ok.summary
    (delivered_fault c.deliver.result change (reported (reports.Summary c.in-Ok.summary)) c.deliver.ensures.delivered same))
