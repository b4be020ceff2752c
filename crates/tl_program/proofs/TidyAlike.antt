-- Two runs of `tidy` with status 0 on one table, in whose cells none is nested, store the same page, and print the same.
use Rattle.std.proofs.Common.{◌≡◌, ◌∙◌, inl, inr, ℕ, List, Option, Some, sym, ap, ap₂, subst, arith}
use Rattle.std.specs.List.{slice_get}
use Rattle.std.proofs.lemmas.Option.{same_Some}
use Rattle.tl_base.specs.Desk.{Files, longer}
use Rattle.tl_command.specs.declared.command.Command.TheVariants.{Tidy}
use Rattle.tl_command.specs.Ask.{Asked}
use Rattle.tl_table.specs.declared.cell.Table.{Table}
use Rattle.tl_table.specs.Sound.{IsSound}
use Rattle.tl_table.proofs.SameTables.{same_turned}
use Rattle.tl_narrow.specs.SlimLaws.{MetIsSlimmest}
use Rattle.tl_read.specs.declared.reading.Reading.TheVariants as readings
use Rattle.tl_read.specs.Reading.{IsReading}
use Rattle.tl_lay.specs.declared.answer.Answer.{Answer}
use Rattle.tl_lay.specs.Flat.{HasNoNested}
use Rattle.tl_lay.specs.Tidied.{IsTidiedAs}
use Rattle.tl_lay.proofs.FlatTables.{one_table}
use Rattle.tl_lay.proofs.OneTidyPage.{HasChosenPage, IsUntidy, choice_open, chosen_or_untidy, height_open, one_chosen_page, one_height}
use Rattle.tl_lay.proofs.OneTidyPage.{one_width, too_narrow, width_open}
use Rattle.tl_program.specs.declared.report.Report.{Report}
use Rattle.tl_program.specs.declared.report.Report.TheVariants as reports
use Rattle.tl_program.specs.Alike.{PrintAlike, TidyAlike, but_effort}
use Rattle.tl_program.specs.Asks.{IsAskOf, input_name, page_name}
use Rattle.tl_program.specs.Change.{Change, Holds, with_all}
use Rattle.tl_program.specs.Complete.{ShowsFile}
use Rattle.tl_program.specs.Deliveries.{Delivery, IsAnswered, texts_of}
use Rattle.tl_program.specs.Headline.{Ends}
use Rattle.tl_program.specs.Messages.{message_of, status_number, status_of}
use Rattle.tl_program.specs.Reports.{report_of}
use Rattle.tl_program.specs.Tasks.{format_of, source_of, style_of, task_of}
use Rattle.tl_program.proofs.Asking.{names_asked}
use Rattle.tl_program.proofs.Ends.{same_bytes}
use Rattle.tl_program.proofs.NamedFiles.{page_there}
use Rattle.tl_program.proofs.SlimRuns.{TidyRun, tidy_run}

-- ---- one run

-- no untidy answer has status 0
untidy_apart : {answer : Answer} → IsUntidy answer → status_number (status_of (report_of answer)) ≡ 0 → ⊥
untidy_apart height_open nought = omega (arith, nought)
untidy_apart width_open nought = omega (arith, nought)
untidy_apart choice_open nought = omega (arith, nought)
untidy_apart too_narrow nought = omega (arith, nought)

-- the page of the chosen layout is stored, and its numbers are printed
record StoresChosen (asked : Asked) (change : Change) (table : Table) : Type 0 where
  answer : Answer
  chosen : HasChosenPage (format_of asked) (style_of asked) table asked.number answer
  stored : Holds change.files_after (page_name asked) chosen.page
  prints : change.said_after ≡ longer change.said (message_of (report_of answer))

module _ (law : MetIsSlimmest) (words : List (List ℕ)) (change : Change) (status : ℕ) (asked : Asked) (bytes : List ℕ)
    (table : Table) (flat : HasNoNested table) (ends : Ends words change status) (is : IsAskOf Tidy words asked)
    (nought : status ≡ 0) (shown : ShowsFile change (input_name asked) bytes)
    (read : IsReading (source_of asked) bytes (readings.Table table)) where
  went : TidyRun asked change status
  went = tidy_run words change status asked ends is (inl nought)

  -- the table that was read is the one that the bytes are
  table_read : went.run.table ≡ table
  table_read = sym (one_table table went.run.table flat (same_turned went.run.table table (went.run.only (readings.Table table)
      (subst (λ (content : List ℕ). IsReading (source_of asked) content (readings.Table table))
      (sym (same_bytes change.files shown.0 (input_name asked) went.run.content bytes shown.1 shown.2 went.run.holds)) read))))

  own : IsAnswered (IsTidiedAs (task_of asked)) asked table went.delivery
  own = subst (λ (t : Table). IsAnswered (IsTidiedAs (task_of asked)) asked t went.delivery) table_read went.run.own

  chosen : HasChosenPage (format_of asked) (style_of asked) table asked.number own.answer
  chosen = elim (chosen_or_untidy law (task_of asked) table (subst IsSound table_read went.run.sound) flat own.answer own.is) [
    | inl page ↦ page
    | inr untidy ↦ absurd (untidy_apart untidy
        (sym (ap (λ (d : Delivery). status_number (status_of d.report)) own.so) ∙ sym went.told ∙ nought))
  ]

  stores_chosen : StoresChosen (but_effort asked) change table
  stores_chosen = record {
    answer = own.answer;
    chosen = chosen;
    stored = subst (λ (files : Option Files). Holds files (page_name asked) chosen.page)
        (sym (went.stores ∙ ap (λ (d : Delivery). with_all change.files d.stores) own.so))
        (page_there change.files asked own.answer chosen.page is.is.names (names_asked Tidy words asked is).fewest
        (ap (λ (a : Answer). slice_get (texts_of a) 1) chosen.so ∙ ap Some chosen.there));
    prints = went.prints ∙ ap (λ (d : Delivery). longer change.said (message_of d.report)) own.so;
  }

-- ---- two runs

-- by arguments that ask for the same
module _ (asked : Asked) (before change : Change) (table : Table) (flat : HasNoNested table)
    (first : StoresChosen asked before table) (second : StoresChosen asked change table) where
  -- the numbers are the same
  same_report : report_of first.answer ≡ report_of second.answer
  same_report = ap (λ (a : Answer). report_of a) first.chosen.so
      ∙ ap₂ (λ (height width : ℕ). reports.Tidy height width)
      (one_height (format_of asked) (style_of asked) table asked.number flat first.answer second.answer first.chosen second.chosen)
      (one_width (format_of asked) (style_of asked) table asked.number flat first.answer second.answer first.chosen second.chosen)
      ∙ sym (ap (λ (a : Answer). report_of a) second.chosen.so)

  -- and so is the page
  stored_first : Holds before.files_after (page_name asked) second.chosen.page
  stored_first = subst (λ (page : List ℕ). Holds before.files_after (page_name asked) page)
      (one_chosen_page (format_of asked) (style_of asked) table asked.number flat first.answer second.answer first.chosen
      second.chosen) first.stored

  print_alike : PrintAlike before change
  print_alike = (
    message_of (report_of second.answer),
    first.prints ∙ ap (λ (report : Report). longer before.said (message_of report)) same_report,
    second.prints,
  )

pub tidy_alike : MetIsSlimmest → (words : List (List ℕ)) (change : Change) (status : ℕ) → Ends words change status →
    TidyAlike words change status
tidy_alike law words change status ends = λ earlier before told one other bytes is also same ended begin at_nought nought shown spells.
    let table = spells.0 in
    let flat = spells.2 in
    let read = subst (λ (a : Asked). IsReading (source_of a) bytes (readings.Table table)) (sym same) spells.1 in
    let holds = subst (λ (a : Asked). shown.0 (input_name a) ≡ Some bytes) (sym same) shown.2 in
    let held = subst (λ (files : Files). files (input_name one) ≡ Some bytes)
    (same_Some shown.0 begin.0 (sym shown.1 ∙ begin.2)) holds in
    let first = subst (λ (a : Asked). StoresChosen a before table) same
    (stores_chosen law earlier before told one bytes table flat ended is at_nought (begin.0, begin.1, held) read) in
    let second = stores_chosen law words change status other bytes table flat ends also nought shown spells.1 in
    let stored = stored_first (but_effort other) before change table flat first second in (
      print_alike (but_effort other) before change table flat first second,
      (
        second.chosen.page,
        subst (λ (a : Asked). Holds before.files_after (page_name a) second.chosen.page) (sym same) stored,
        second.stored,
      ),
    )
