-- What the call answers for the bytes of the file is delivered.
use Rattle.std.proofs.Common.{List, ℕ, subst, sym}
use Rattle.std.specs.Prelude.{IfOk}
use Rattle.tl_command.specs.declared.command.Command.TheVariants.{Tidy}
use Rattle.tl_command.specs.Ask.{asked_by}
use Rattle.tl_lay.specs.declared.task.Task.{Task}
use Rattle.tl_lay.specs.Tidied.{IsTidied, IsTidiedAs}
use Rattle.tl_lay.specs.Inputs.{IsTaskInRange}
use Rattle.tl_program.specs.Change.{between}
use Rattle.tl_program.specs.Tasks.{task_of, task_on}
use Rattle.tl_program.proofs.Asking.{comes_of}
use Rattle.tl_program.specs.Asks.{input_name}
use Rattle.tl_program.specs.Settled.{Settles}
use Rattle.tl_program.proofs.FirstFitted.{loaded_settled, settles_loaded}
use Rattle.tl_program.proofs.Loading.{IsLoadedFrom, follows_load, result_ends}
use Rattle.tl_program.proofs.ReadFaults.{result_no_fault}
use Rattle.tl_program.proofs.running.tidy_file.Goals as goal

pub tidy-answer-requires-clause-range : goal.tidy-answer-requires-clause-range
tidy-answer-requires-clause-range g c = λ lifetimes outlives.
    let settled = asked_by c.in-Ok-settled.ask in
    let range = c.in-Ok-settled.ensures.range c.args.ask.now.number c.requires.range in
    subst IsTaskInRange (sym c.task_of-task.ensures)
    (subst (λ (width : ℕ). IsTaskInRange (task_on width settled)) (sym c.in-Ok-settled.ensures.same.1) range)

pub returns-in-Ok-settled-clause-ends : goal.returns-in-Ok-settled-clause-ends
returns-in-Ok-settled-clause-ends g c = λ words is.
    let asked = asked_by c.args.ask.now in
    let settled = asked_by c.in-Ok-settled.ask in
    let bytes = c.in-Ok.bytes in
    let change = between g.D.Desk c.args.desk.now c.deliver_result.new.desk in
    let second = between g.D.Desk c.load_input.new.desk c.deliver_result.new.desk in
    let loaded : IsLoadedFrom change.files (input_name asked) bytes =
    record { short = c.in-Ok.ensures.short; read = c.in-Ok.ensures.read } in
    let settles = subst (λ (bs : List ℕ). Settles bs asked settled) c.as_slice-bytes.ensures c.in-Ok-settled.ensures.settles in
    result_ends words change second c.deliver_result.result settled.number settled (IsTidiedAs (task_of settled)) bytes
    c.tidy-answer.result
    (follows_load g.D.Desk c.args.desk.now c.load_input.new.desk c.deliver_result.new.desk c.in-Ok.ensures.files_stay
    c.in-Ok.ensures.said_stays c.in-Ok.ensures.writes_stay)
    (loaded_settled change.files asked settled bytes settles loaded)
    (λ delivery. comes_of words change Tidy asked settled delivery c.requires.command is
    (settles_loaded change.files asked settled bytes loaded settles))
    (subst (λ (task : Task). IfOk c.tidy-answer.result (IsTidied task bytes)) c.task_of-task.ensures
    (subst (λ (bs : List ℕ). IfOk c.tidy-answer.result (IsTidied c.task_of-task.result bs)) c.as_slice-bytes.ensures
    c.tidy-answer.ensures.tidied)) c.deliver_result.ensures.delivered

pub returns-in-Ok-settled-clause-read_fault : goal.returns-in-Ok-settled-clause-read_fault
returns-in-Ok-settled-clause-read_fault g c = λ same.
    absurd (result_no_fault (asked_by c.in-Ok-settled.ask) c.tidy-answer.result c.deliver_result.result
    (between g.D.Desk c.load_input.new.desk c.deliver_result.new.desk) c.deliver_result.ensures.delivered same)
