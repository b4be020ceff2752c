-- What a run of `lay` that ended with 0, 3 or 4 went by: the table of its file, and the answer that it delivered.
use Rattle.std.proofs.Common.{◌≡◌, inl, inr, ℕ, ◌≤◌, List, sym, ap, ◌∙◌, arith}
use Rattle.tl_base.specs.declared.limits.TheConstants.{MAX_REACH}
use Rattle.tl_base.specs.Desk.{longer}
use Rattle.tl_command.specs.declared.command.Command.TheVariants.{Lay}
use Rattle.tl_command.specs.Ask.{Asked}
use Rattle.tl_table.specs.declared.cell.Table.{Table}
use Rattle.tl_table.specs.Sound.{IsSound}
use Rattle.tl_read.specs.declared.reading.Reading.{Reading}
use Rattle.tl_read.specs.declared.reading.Reading.TheVariants as readings
use Rattle.tl_read.specs.Reading.{IsReading, AreSameReadings, IsSpellableReading}
use Rattle.tl_lay.specs.declared.answer.Answer.{Answer}
use Rattle.tl_lay.specs.Answers.{IsLaidAs}
use Rattle.tl_lay.specs.Budgets.{reach}
use Rattle.tl_program.specs.Asks.{IsAskOf, input_name}
use Rattle.tl_program.specs.Change.{Change, Holds, with_all}
use Rattle.tl_program.specs.Complete.{IsLaidStatus}
use Rattle.tl_program.specs.Deliveries.{Delivery, delivery_of, IsAnswered}
use Rattle.tl_program.specs.Headline.{Ends}
use Rattle.tl_program.specs.Messages.{status_number, status_of, message_of}
use Rattle.tl_program.specs.Reports.{report_of}
use Rattle.tl_program.specs.Tasks.{task_of}
use Rattle.tl_program.proofs.InputRuns.{IsOwnStatus, delivery_status, went_run}

-- no other status than these three is meant
laid_apart : (told n : ℕ) → IsLaidStatus told → told ≡ n → (n ≡ 0 → ⊥) → (n ≡ 3 → ⊥) → (n ≡ 4 → ⊥) → ⊥
laid_apart told n (inl is) same nought three four = nought (sym same ∙ is)
laid_apart told n (inr (inl is)) same nought three four = three (sym same ∙ is)
laid_apart told n (inr (inr is)) same nought three four = four (sym same ∙ is)

pub own_laid : (told : ℕ) → IsLaidStatus told → IsOwnStatus told
own_laid told out = record {
  bad_input = λ same. laid_apart told 5 out same (λ e. omega (arith, e)) (λ e. omega (arith, e)) (λ e. omega (arith, e));
  limit = λ same. laid_apart told 6 out same (λ e. omega (arith, e)) (λ e. omega (arith, e)) (λ e. omega (arith, e));
  read_fault = λ same. laid_apart told 7 out same (λ e. omega (arith, e)) (λ e. omega (arith, e)) (λ e. omega (arith, e));
}

-- the content of the file, the sound table that it is, and the answer that was delivered
pub record LaidRun (asked : Asked) (change : Change) (status : ℕ) : Type 0 where
  pub content : List ℕ
  pub holds : Holds change.files (input_name asked) content
  pub table : Table
  pub read : IsReading (task_of asked).source content (readings.Table table)
  pub only : (other : Reading) → IsReading (task_of asked).source content other → AreSameReadings (readings.Table table) other
  pub sound : IsSound table
  pub spellable : IsSpellableReading (task_of asked).source (readings.Table table)
  pub near : reach (task_of asked) table ≤ MAX_REACH
  pub answer : Answer
  pub laid : IsLaidAs (task_of asked) table answer
  pub told : status ≡ status_number (status_of (report_of answer))
  pub stores : change.files_after ≡ with_all change.files (delivery_of asked answer).stores
  pub prints : change.said_after ≡ longer change.said (message_of (report_of answer))

pub laid_run : (words : List (List ℕ)) (change : Change) (status : ℕ) (asked : Asked) → Ends words change status →
    IsAskOf Lay words asked → IsLaidStatus status → LaidRun asked change status
laid_run words change status asked ends is out =
    let went = went_run words change status Lay asked (reach (task_of asked)) (IsAnswered (IsLaidAs (task_of asked)) asked) ends is (own_laid status out)
    (λ same. laid_apart status 8 out same (λ e. omega (arith, e)) (λ e. omega (arith, e)) (λ e. omega (arith, e)))
    (λ same. laid_apart status 9 out same (λ e. omega (arith, e)) (λ e. omega (arith, e)) (λ e. omega (arith, e)))
    (λ delivery carried. carried) in
    let run = went.run in
    record {
      content = run.content;
      holds = run.holds;
      table = run.table;
      read = run.read;
      only = run.only;
      sound = run.sound;
      spellable = run.spellable;
      near = run.near;
      answer = run.own.answer;
      laid = run.own.is;
      told = went.told ∙ ap delivery_status run.own.so;
      stores = went.stores ∙ ap (λ (d : Delivery). with_all change.files d.stores) run.own.so;
      prints = went.prints ∙ ap (λ (d : Delivery). longer change.said (message_of d.report)) run.own.so;
    }
