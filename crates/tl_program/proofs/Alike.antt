-- What comes of a command on a file is one report, whatever the workers; and two lowest layouts are as high.
use Rattle.std.proofs.Common.{◌≡◌, ◌∙◌, inl, inr, ◌⊎◌, ℕ, ◌≤◌, List, Option, Some, refl, sym, ap, subst, arith}
use Rattle.tl_base.specs.Desk.{Files, longer}
use Rattle.tl_command.specs.declared.command.Command.{Command}
use Rattle.tl_command.specs.declared.command.Command.TheVariants.{Lay, Check}
use Rattle.tl_command.specs.Ask.{Asked}
use Rattle.tl_table.specs.declared.cell.Table.{Table}
use Rattle.tl_table.specs.Least.{IsLeastHeight}
use Rattle.tl_table.specs.Same.{AreSame}
use Rattle.tl_table.specs.Sound.{IsSound}
use Rattle.tl_read.specs.declared.reading.Reading.TheVariants as readings
use Rattle.tl_read.specs.declared.refusal.Refusal.{Refusal}
use Rattle.tl_read.specs.Reading.{IsReading}
use Rattle.tl_lay.specs.declared.answer.Answer.{Answer}
use Rattle.tl_lay.specs.declared.task.Task.{Task}
use Rattle.tl_lay.specs.declared.verdict.Verdict.{Verdict}
use Rattle.tl_lay.specs.Answers.{IsLaidAs, lowest_laid, bounded_laid, narrow_laid}
use Rattle.tl_lay.specs.Budgets.{reach}
use Rattle.tl_lay.specs.Checks.{IsJudged}
use Rattle.tl_lay.specs.Inputs.{IsOfBytes}
use Rattle.tl_lay.proofs.OneAnswer.{also_narrow, as_high, same_bytes_alike}
use Rattle.tl_lay.proofs.OneJudgement.{judged_whatever_workers}
use Rattle.tl_lay.proofs.SameBudgets.{same_reach}
use Rattle.tl_program.specs.declared.report.Report.{Report}
use Rattle.tl_program.specs.declared.report.Report.TheVariants as reports
use Rattle.tl_program.specs.Alike.{but_workers, but_search, but_effort, BeginAlike, PrintAlike, PrintsLowest, ChecksAlike, RefusalsAlike}
use Rattle.tl_program.specs.Alike.{LowestAlike}
use Rattle.tl_program.specs.Asks.{input_name, judged_name}
use Rattle.tl_program.specs.Change.{Change, DoesNotFail, Holds}
use Rattle.tl_program.specs.Checks.{IsChecked}
use Rattle.tl_program.specs.Deliveries.{Delivery, reported, ComesOfInput, IsAnswered}
use Rattle.tl_program.specs.Headline.{Ends, IsCarriedOut}
use Rattle.tl_program.specs.Messages.{status_number, status_of, message_of}
use Rattle.tl_program.specs.Reports.{report_of, verdict_report}
use Rattle.tl_program.specs.Tasks.{task_of}
use Rattle.tl_program.proofs.Ends.{same_bytes, went}
use Rattle.tl_program.proofs.LaidRuns.{LaidRun, laid_run}

-- two contents of one file are the same
one_content : (before after : Option Files) (files : Files) (name one other : List ℕ) → before ≡ Some files → after ≡ Some files →
    Holds before name one → Holds after name other → one ≡ other
one_content before after files name one other is also first second =
    same_bytes before files name one other is (subst (λ (held : Option Files). Holds held name other) also second) first

-- ---- one report

-- what a run that did not fail delivered
abbrev Delivers : Command → Asked → Change → ℕ → Type 0
Delivers command asked change status = (delivery : Delivery) × IsCarriedOut command asked change delivery
    × (status ≡ status_number (status_of delivery.report)) × (change.said_after ≡ longer change.said (message_of delivery.report))

-- two runs with one report return and print the same
told_alike : (command : Command) (one other : Asked) (before change : Change) (told status : ℕ)
    (first : Delivers command one before told) (second : Delivers command other change status) →
    first.0.report ≡ second.0.report → (status ≡ told) × PrintAlike before change
told_alike command one other before change told status first second same = (
  second.2 ∙ ap (λ (r : Report). status_number (status_of r)) (sym same) ∙ sym first.2,
  (message_of first.0.report, first.3, second.3 ∙ ap (λ (r : Report). longer change.said (message_of r)) (sym same)),
)

-- a refusal is what is delivered
abbrev Passes : Delivery → Refusal → Type 0
Passes delivery refusal = delivery ≡ reported (reports.Refused refusal)

-- two runs on the same files, neither of which failed
module _ (before change : Change) (begin : BeginAlike before change) (quiet : DoesNotFail before) (still : DoesNotFail change)
    (first second : Delivery) where
  -- what is asked for is the same, but for what the own parts need: there is one report, if these make one of tables that are the
  -- same
  one_report : (asked : Asked) (One Other : Table → Delivery → Type 0) →
      ((one other : Table) → IsSound other → AreSame one other → One one first → Other other second →
      first.report ≡ second.report) →
      ComesOfInput asked (reach (task_of asked)) One before first →
      ComesOfInput asked (reach (task_of asked)) Other change second → first.report ≡ second.report
  one_report asked One Other own (inl unread) also = absurd (quiet.load unread.rose)
  one_report asked One Other own (inr of) (inl unread) = absurd (still.load unread.rose)
  one_report asked One Other own (inr (bytes, holds, of)) (inr (more, has, also)) =
      same_bytes_alike (task_of asked).source (reach (task_of asked)) (same_reach (task_of asked)) (Passes first) (Passes second)
      (λ table. One table first) (λ table. Other table second) (first.report ≡ second.report)
      (λ refusal is are. ap (λ (d : Delivery). d.report) (is ∙ sym are)) own bytes of
      (subst (IsOfBytes (task_of asked).source (reach (task_of asked)) (Passes second) (λ table. Other table second)) same also)
    where
      same : more ≡ bytes
      same = one_content change.files before.files begin.0 (input_name asked) more bytes begin.2 begin.1 has holds

  -- a check, whatever the workers
  one_check : (one other : Asked) → but_workers one ≡ but_workers other → IsCarriedOut Check one before first →
      IsCarriedOut Check other change second → first.report ≡ second.report
  one_check one other same comes goes =
      one_report (but_workers other) (IsChecked one before.files) (IsChecked other change.files) own
      (subst (λ (a : Asked). ComesOfInput a (reach (task_of a)) (IsChecked one before.files) before first) same comes) goes
    where
      own : (t s : Table) → IsSound s → AreSame t s → IsChecked one before.files t first → IsChecked other change.files s second →
          first.report ≡ second.report
      own t s sound alike checked checks =
          let judged = checked.judged in
          let judges = checks.judged in
          let texts : judges.0 ≡ judged.0 = one_content change.files before.files begin.0 (judged_name other) judges.0 judged.0
          begin.2 begin.1 judges.1 (subst (λ (a : Asked). Holds before.files (judged_name a) judged.0) same judged.1) in
          judged.2.so ∙ ap (λ (v : Verdict). verdict_report v)
          (judged_whatever_workers (task_of one) (task_of other) t s judged.0 judged.2.verdict judges.2.verdict
          (ap (λ (a : Asked). task_of a) same) sound alike judged.2.judged
          (subst (λ (text : List ℕ). IsJudged (task_of other) s text judges.2.verdict) texts judges.2.judged))
          ∙ sym judges.2.so

  -- a layout with such a status, whatever the search and the workers
  one_refusal : (one other : Asked) → but_search one ≡ but_search other → 4 ≤ status_number (status_of first.report) →
      IsCarriedOut Lay one before first → IsCarriedOut Lay other change second → first.report ≡ second.report
  one_refusal one other same large comes goes =
      one_report (but_search other) (IsAnswered (IsLaidAs (task_of one)) one) (IsAnswered (IsLaidAs (task_of other)) other) own
      (subst (λ (a : Asked). ComesOfInput a (reach (task_of a)) (IsAnswered (IsLaidAs (task_of one)) one) before first) same comes)
      goes
    where
      -- the page is too narrow for both
      by_answer : (t s : Table) → AreSame t s → {answer more : Answer} → IsLaidAs (task_of one) t answer →
          IsLaidAs (task_of other) s more → 4 ≤ status_number (status_of (report_of answer)) → report_of answer ≡ report_of more
      by_answer t s alike (lowest_laid is) also large = absurd (omega (arith, large))
      by_answer t s alike (bounded_laid is) also large = absurd (omega (arith, large))
      by_answer t s alike (narrow_laid {least} is) also large =
          let wide = ap (λ (a : Asked). (task_of a).width) same in
          ap (λ (n : ℕ). reports.Narrow least n) wide
          ∙ sym (ap (λ (answer : Answer). report_of answer) (also_narrow (task_of one) (task_of other) t s least
          (ap (λ (a : Asked). (task_of a).style) same) wide alike is.is_least is.narrow also).1)

      own : (t s : Table) → IsSound s → AreSame t s → IsAnswered (IsLaidAs (task_of one)) one t first →
          IsAnswered (IsLaidAs (task_of other)) other s second → first.report ≡ second.report
      own t s sound alike answered answers =
          let is = ap (λ (d : Delivery). d.report) answered.so in
          is ∙ by_answer t s alike answered.is answers.is (subst (λ (r : Report). 4 ≤ status_number (status_of r)) is large)
          ∙ sym (ap (λ (d : Delivery). d.report) answers.so)

-- ---- what does not depend on the workers

pub checks_alike : (words : List (List ℕ)) (change : Change) (status : ℕ) → Ends words change status →
    ChecksAlike words change status
checks_alike words change status ends = λ earlier before told one other is also same ended begin quiet still.
    elim (went earlier before told Check one ended is quiet) [
      | inr nine ↦ inr (inl nine)
      | inl first ↦ elim (went words change status Check other ends also still) [
        | inr nine ↦ inr (inr nine)
        | inl second ↦ inl (told_alike Check one other before change told status first second
            (one_check before change begin quiet still first.0 second.0 one other same first.1 second.1))
      ]
    ]

-- ---- nor on the search

-- the statuses with which no page is stored
no_page_between : (status : ℕ) → (status ≡ 4) ⊎ ((status ≡ 5) ⊎ (status ≡ 6)) → (4 ≤ status) × (status ≤ 6)
no_page_between status (inl is) = (omega (arith, is), omega (arith, is))
no_page_between status (inr (inl is)) = (omega (arith, is), omega (arith, is))
no_page_between status (inr (inr is)) = (omega (arith, is), omega (arith, is))

pub refusals_alike : (words : List (List ℕ)) (change : Change) (status : ℕ) → Ends words change status →
    RefusalsAlike words change status
refusals_alike words change status ends = λ earlier before told one other is also same ended begin quiet still no_page.
    let bounds = no_page_between told no_page in
    elim (went earlier before told Lay one ended is quiet) [
      | inr nine ↦ absurd (omega (arith, bounds.1, nine))
      | inl first ↦ elim (went words change status Lay other ends also still) [
        | inr nine ↦ inr nine
        | inl second ↦ inl (told_alike Lay one other before change told status first second
            (one_refusal before change begin quiet still first.0 second.0 one other same
            (subst (λ (n : ℕ). 4 ≤ n) first.2 bounds.0) first.1 second.1))
      ]
    ]

-- ---- lowest layouts

-- the lowest height, by the status
lowest_told : (task : Task) (table : Table) {answer : Answer} → IsLaidAs task table answer →
    status_number (status_of (report_of answer)) ≡ 0 →
    (height : ℕ) × (taken : ℕ) × (report_of answer ≡ reports.Lowest height taken)
    × IsLeastHeight table task.style task.width height
lowest_told task table (lowest_laid {height} {taken} is) same = (height, taken, refl, is.least)
lowest_told task table (bounded_laid is) same = absurd (omega (arith, same))
lowest_told task table (narrow_laid is) same = absurd (omega (arith, same))

-- a run of `lay` with status 0 prints the least height
record PrintsLeast (asked : Asked) (change : Change) (table : Table) : Type 0 where
  height : ℕ
  prints : PrintsLowest change height
  least : IsLeastHeight table (task_of asked).style (task_of asked).width height

prints_least : (asked : Asked) (change : Change) (status : ℕ) (run : LaidRun asked change status) → status ≡ 0 →
    PrintsLeast asked change run.table
prints_least asked change status run nought =
    let low = lowest_told (task_of asked) run.table run.laid (sym run.told ∙ nought) in
    record {
      height = low.0;
      prints = (low.1, run.prints ∙ ap (λ (report : Report). longer change.said (message_of report)) low.2);
      least = low.3;
    }

pub lowest_alike : (words : List (List ℕ)) (change : Change) (status : ℕ) → Ends words change status →
    LowestAlike words change status
lowest_alike words change status ends = λ earlier before told one other is also same ended begin zero nought.
    let first = laid_run earlier before told one ended is (inl zero) in
    let second = laid_run words change status other ends also (inl nought) in
    by_runs one other before change begin told status same first second (prints_least one before told first zero)
    (prints_least other change status second nought)
  where
    by_runs : (one other : Asked) (before change : Change) → BeginAlike before change → (told status : ℕ) →
        but_effort one ≡ but_effort other → (first : LaidRun one before told) (second : LaidRun other change status) →
        PrintsLeast one before first.table → PrintsLeast other change second.table →
        (height : ℕ) × PrintsLowest before height × PrintsLowest change height
    by_runs one other before change begin told status same first second low high =
        (low.height, low.prints, subst (PrintsLowest change) (sym heights) high.prints) where
          content : second.content ≡ first.content
          content = one_content change.files before.files begin.0 (input_name one) second.content first.content begin.2 begin.1
              (subst (λ (a : Asked). Holds change.files (input_name a) second.content) (sym same) second.holds) first.holds

          tables : AreSame first.table second.table
          tables = first.only (readings.Table second.table)
              (subst (λ (bytes : List ℕ). IsReading (task_of one).source bytes (readings.Table second.table)) content
              (subst (λ (a : Asked). IsReading (task_of a).source second.content (readings.Table second.table)) (sym same)
              second.read))

          heights : low.height ≡ high.height
          heights = as_high first.table second.table (task_of one).style (task_of one).width low.height high.height tables
              low.least (subst (λ (a : Asked). IsLeastHeight second.table (task_of a).style (task_of a).width high.height)
              (sym same) high.least)
