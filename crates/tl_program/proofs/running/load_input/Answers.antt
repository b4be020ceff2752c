-- What was loaded is of the file that is read, or the program ends.
use Rattle.std.proofs.Common.{List, ℕ, Option, refl, sym, subst}
use Rattle.std.specs.Prelude.{IfNone, IfSome}
use Rattle.tl_base.specs.declared.limits.TheConstants.{MAX_FILE_BYTES}
use Rattle.tl_base.specs.Desk.{IsReadFrom, Rose}
use Rattle.tl_program.specs.declared.report.Report.TheVariants as reports
use Rattle.tl_program.specs.Change.{between}
use Rattle.tl_program.specs.Deliveries.{reported}
use Rattle.tl_program.proofs.Ends.{unread_ends}
use Rattle.tl_program.proofs.Storing.{delivered_from}
use Rattle.tl_program.proofs.running.load_input.Goals as goal

pub returns-in-Ok-Some-clause-read : goal.returns-in-Ok-Some-clause-read
returns-in-Ok-Some-clause-read g c =
    let files = g.D.Desk.files c.args.desk.now in
    subst (λ (name : List ℕ). IfSome files (λ held. IsReadFrom held name MAX_FILE_BYTES c.in-Ok-Some.bytes)) c.input_name.ensures
    (subst (λ (found : Option (List ℕ)). IfSome found (λ bytes. IfSome files
    (λ held. IsReadFrom held c.input_name.result.now MAX_FILE_BYTES bytes))) c.in-Ok-Some.field-0-is c.in-Ok-Some.ensures.read)

pub returns-in-Ok-None-clause-ends : goal.returns-in-Ok-None-clause-ends
returns-in-Ok-None-clause-ends g c =
    let change = between g.D.Desk c.args.desk.now c.deliver.new.desk in
    let second = between g.D.Desk c.load.new.desk c.deliver.new.desk in
    unread_ends change c.deliver.result
    (subst (Rose change.load_faults) (sym c.deliver.ensures.loads_stay)
    (subst (λ (found : Option (List ℕ)). IfNone found (Rose (g.D.Desk.load_faults c.args.desk.now)
    (g.D.Desk.load_faults c.load.new.desk))) c.in-Ok-None.field-0-is c.in-Ok-None.ensures.none))
    (delivered_from c.deliver.result change second (reported reports.ReadFault) c.load.ensures.files_stay refl
    c.load.ensures.said_stays refl c.load.ensures.writes_stay refl c.deliver.ensures.delivered)
