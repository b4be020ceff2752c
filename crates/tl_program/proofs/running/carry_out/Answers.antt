-- The arguments ask for a command, or for nothing.
use Rattle.std.proofs.Common.{inl, refl, subst, map, string_bytes}
use Rattle.tl_command.specs.declared.command.Command.{Command}
use Rattle.tl_command.specs.Ask.{asked_by}
use Rattle.tl_command.specs.Command.{IsNumberOf}
use Rattle.tl_program.specs.declared.report.Report.TheVariants as reports
use Rattle.tl_program.specs.Change.{between}
use Rattle.tl_program.specs.Messages.{message_of}
use Rattle.tl_program.proofs.Asking.{slim_in_range, task_in_range}
use Rattle.tl_program.proofs.Ends.{printed_ends}
use Rattle.tl_program.proofs.ReadFaults.{fault_of_number, usage_no_fault}
use Rattle.tl_program.proofs.running.carry_out.Goals as goal

pub lay_file-requires-clause-range : goal.lay_file-requires-clause-range
lay_file-requires-clause-range g c = λ lifetimes outlives.
    let asked = asked_by c.in-Some.ask in
    let is = c.in-Some.ensures.ask in
    let of_number = subst (λ (command : Command). IsNumberOf command asked.number) c.in-Lay.is is.in_range in
    task_in_range (map string_bytes c.args.words.now) asked is of_number.least of_number.most

pub narrow_file-requires-clause-range : goal.narrow_file-requires-clause-range
narrow_file-requires-clause-range g c = λ lifetimes outlives.
    slim_in_range (map string_bytes c.args.words.now) (asked_by c.in-Some.ask) c.in-Some.ensures.ask

pub narrow_file-requires-clause-lines : goal.narrow_file-requires-clause-lines
narrow_file-requires-clause-lines g c = λ lifetimes outlives.
    let asked = asked_by c.in-Some.ask in
    (subst (λ (command : Command). IsNumberOf command asked.number) c.in-Narrow.is c.in-Some.ensures.ask.in_range).most

pub tidy_file-requires-clause-range : goal.tidy_file-requires-clause-range
tidy_file-requires-clause-range g c = λ lifetimes outlives.
    let asked = asked_by c.in-Some.ask in
    let is = c.in-Some.ensures.ask in
    let of_number = subst (λ (command : Command). IsNumberOf command asked.number) c.in-Tidy.is is.in_range in
    task_in_range (map string_bytes c.args.words.now) asked is of_number.least of_number.most

pub check_file-requires-clause-range : goal.check_file-requires-clause-range
check_file-requires-clause-range g c = λ lifetimes outlives.
    let asked = asked_by c.in-Some.ask in
    let is = c.in-Some.ensures.ask in
    let of_number = subst (λ (command : Command). IsNumberOf command asked.number) c.in-Check.is is.in_range in
    task_in_range (map string_bytes c.args.words.now) asked is of_number.least of_number.most

pub returns-in_default-clause-ends : goal.returns-in_default-clause-ends
returns-in_default-clause-ends g c =
    let change = between g.D.Desk c.args.desk.now c.print.new.desk in
    printed_ends (map string_bytes c.args.words.now) change c.print.result reports.Usage
    (inl (c.in_default.ensures.none, refl)) c.print.ensures.files_stay
    c.print.ensures.printed

pub returns-in_default-clause-read_fault : goal.returns-in_default-clause-read_fault
returns-in_default-clause-read_fault g c = λ same.
    let change = between g.D.Desk c.args.desk.now c.print.new.desk in
    absurd (usage_no_fault c.print.result change (message_of reports.Usage) c.print.ensures.printed
    (fault_of_number c.print.result same))

pub returns-in-Lay-clause-read_fault : goal.returns-in-Lay-clause-read_fault
returns-in-Lay-clause-read_fault g c = λ same. (
  asked_by c.in-Some.ask,
  c.in-Some.ensures.ask,
  c.lay_file.ensures.read_fault (fault_of_number c.lay_file.result same),
)

pub returns-in-Narrow-clause-read_fault : goal.returns-in-Narrow-clause-read_fault
returns-in-Narrow-clause-read_fault g c = λ same. (
  asked_by c.in-Some.ask,
  c.in-Some.ensures.ask,
  c.narrow_file.ensures.read_fault (fault_of_number c.narrow_file.result same),
)

pub returns-in-Tidy-clause-read_fault : goal.returns-in-Tidy-clause-read_fault
returns-in-Tidy-clause-read_fault g c = λ same. (
  asked_by c.in-Some.ask,
  c.in-Some.ensures.ask,
  c.tidy_file.ensures.read_fault (fault_of_number c.tidy_file.result same),
)

pub returns-in-Check-clause-read_fault : goal.returns-in-Check-clause-read_fault
returns-in-Check-clause-read_fault g c = λ same. (
  asked_by c.in-Some.ask,
  c.in-Some.ensures.ask,
  c.check_file.ensures.read_fault (fault_of_number c.check_file.result same),
)

pub returns-in-Demo-clause-read_fault : goal.returns-in-Demo-clause-read_fault
returns-in-Demo-clause-read_fault g c = λ same. (
  asked_by c.in-Some.ask,
  c.in-Some.ensures.ask,
  c.demonstrate_table.ensures.read_fault (fault_of_number c.demonstrate_table.result same),
)
