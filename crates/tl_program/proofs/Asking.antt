-- What arguments that ask for a command give: names and a budget within their limits, and no other command.
use Rattle.std.proofs.Common.{◌≡◌, ◌≢◌, ◌∙◌, inl, inr, ℕ, ◌≤◌, List, [], get_or, length, Option, Some, None, refl, ap, sym, subst, arith}
use Rattle.std.specs.Prelude.{IfSome}
use Rattle.std.proofs.lemmas.List.Elements.{All-contains}
use Rattle.std.proofs.lemmas.Option.{slice_get_within, get_or_from_slice_get}
use Rattle.tl_base.specs.declared.limits.TheConstants.{MAX_BUDGET, MAX_PAGE_WIDTH}
use Rattle.tl_base.specs.declared.breaking.Breaking.{Breaking}
use Rattle.tl_command.specs.declared.command.Command.{Command}
use Rattle.tl_command.specs.declared.command.Command.TheVariants.{Lay, Narrow, Tidy, Check, Demo}
use Rattle.tl_command.specs.declared.options.BreakRule.{BreakRule}
use Rattle.tl_command.specs.declared.options.BreakRule.TheVariants as rules
use Rattle.tl_command.specs.declared.options.Choice.{Choice}
use Rattle.tl_command.specs.declared.options.Choice.TheVariants as choices
use Rattle.tl_command.specs.Ask.{Asked, IsAsk, AreNames}
use Rattle.tl_command.specs.Command.{IsCountOf}
use Rattle.tl_command.specs.Options.{IsGiven, IsInRange, IsOptionOf}
use Rattle.tl_command.proofs.AskLemmas.{ask_once}
use Rattle.tl_table.specs.declared.cell.Table.{Table}
use Rattle.tl_read.specs.declared.reading.Reading.{Reading}
use Rattle.tl_read.specs.declared.reading.Reading.TheVariants as readings
use Rattle.tl_lay.specs.declared.answer.Answer.{Answer}
use Rattle.tl_lay.specs.Inputs.{IsOfReading}
use Rattle.tl_program.specs.declared.report.Report.{Report}
use Rattle.tl_program.specs.declared.report.Report.TheVariants as reports
use Rattle.tl_program.specs.Asks.{IsAskOf, fitted_by, fitted_in, input_name, page_name, certificate_name}
use Rattle.tl_lay.specs.Answers.{IsLaidAs}
use Rattle.tl_lay.specs.Budgets.{reach}
use Rattle.tl_lay.specs.Slimmed.{IsSlimmed}
use Rattle.tl_lay.specs.Tidied.{IsTidiedAs}
use Rattle.tl_program.specs.Change.{Change, Holds}
use Rattle.tl_program.specs.Checks.{IsChecked}
use Rattle.tl_program.specs.Headline.{ComesOf, ComesOfAsk, IsCarriedOut}
use Rattle.tl_program.specs.Deliveries.{ComesOfInput, Delivery, IsAnswered, IsUnread, reported}
use Rattle.tl_program.specs.Messages.{of_page}
use Rattle.tl_program.specs.Reports.{report_of}
use Rattle.tl_program.specs.Settled.{IsAskFor, Settles, SettlesBy, SettlesOn, rule_of, widest_page, with_rule}
use Rattle.tl_program.specs.Tasks.{given_or, slim_task, source_of, style_of, task_of, task_on}
use Rattle.tl_fit.proofs.OneFit.{one_fit}
use Rattle.tl_lay.specs.Inputs.{IsTaskInRange}

-- ---- limits

-- there are as many names as the command takes
pub names_asked : (command : Command) (words : List (List ℕ)) (asked : Asked) → IsAskOf command words asked →
    IsCountOf command (length asked.names)
names_asked command words asked is = subst (λ (c : Command). IsCountOf c (length asked.names)) is.by is.is.counted

module _ (words : List (List ℕ)) (asked : Asked) (is : IsAsk words asked) where
  -- an option that is given is within its limits
  in_range : (choice : Choice) → IsGiven asked.options choice → IsInRange choice
  in_range choice given =
      (All-contains (IsOptionOf asked.command) is.options.choices choice is.options.of_command
      ((is.options.given choice).0 given)).in_range

  cuts : IfSome asked.options.budget (λ budget. budget ≤ MAX_BUDGET)
  cuts = by_budget asked.options.budget refl where
    by_budget : (budget : Option ℕ) → asked.options.budget ≡ budget → IfSome budget (λ budget. budget ≤ MAX_BUDGET)
    by_budget None same = tt
    by_budget (Some budget) same = in_range (choices.Budget budget) same

  workers : 1 ≤ given_or 1 asked.options.workers
  workers = by_workers asked.options.workers refl where
    by_workers : (workers : Option ℕ) → asked.options.workers ≡ workers → 1 ≤ given_or 1 workers
    by_workers None same = omega arith
    by_workers (Some workers) same = (in_range (choices.Workers workers) same).some

  -- and so is all that a command on a file asks of its table
  pub task_in_range : 1 ≤ asked.number → asked.number ≤ MAX_PAGE_WIDTH → IsTaskInRange (task_of asked)
  task_in_range some narrow = record { some = some; narrow = narrow; workers = workers; cuts = cuts }

  -- for pages of any width that a page may have
  pub range_on : (width : ℕ) → 1 ≤ width → width ≤ MAX_PAGE_WIDTH → IsTaskInRange (task_on width asked)
  range_on width some narrow = record { some = some; narrow = narrow; workers = workers; cuts = cuts }

  pub slim_in_range : IsTaskInRange (slim_task asked)
  slim_in_range = record { some = omega arith; narrow = omega arith; workers = workers; cuts = cuts }

-- ---- names

-- the file that is read is not the page
pub input_is_no_page : (asked : Asked) → AreNames asked.names → 2 ≤ length asked.names → input_name asked ≢ page_name asked
input_is_no_page asked are two = are.apart 0 1 [] (omega arith) (omega (arith, two))

-- nor the certificate
pub input_is_no_certificate : (asked : Asked) (name : List ℕ) → AreNames asked.names → certificate_name asked ≡ Some name →
    input_name asked ≢ name
input_is_no_certificate asked name are third =
    subst (λ (n : List ℕ). input_name asked ≢ n) (get_or_from_slice_get asked.names 2 name [] third)
    (are.apart 0 2 [] (omega arith) (slice_get_within asked.names 2 name third))

-- the page is not the certificate
pub page_is_no_certificate : (asked : Asked) (name : List ℕ) → AreNames asked.names → certificate_name asked ≡ Some name →
    page_name asked ≢ name
page_is_no_certificate asked name are third =
    subst (λ (n : List ℕ). page_name asked ≢ n) (get_or_from_slice_get asked.names 2 name [] third)
    (are.apart 1 2 [] (omega arith) (slice_get_within asked.names 2 name third))

-- ---- what is asked of the bytes of a file

-- what is so of what is asked for, whatever the rule for words, is so of what is asked of the bytes
pub settled_so : (P : Asked → Type 0) (asked settled : Asked) (bytes : List ℕ) →
    ((rule : BreakRule) → P asked → P (with_rule rule asked)) → Settles bytes asked settled → P asked → P settled
settled_so P asked settled bytes any settles holds = by asked.options.breaking settles
  where
    same : settled ≡ asked → P settled
    same is = subst P (sym is) holds

    by : (rule : Option BreakRule) → SettlesBy rule bytes asked settled → P settled
    by None is = same is
    by (Some rules.Words) is = same is
    by (Some rules.Any) is = same is
    by (Some (rules.Wider most)) is = same is
    by (Some rules.Fit) is = subst P (sym is.2) (any (rule_of is.0) holds)
    by (Some (rules.Fitted most)) is = same is

pub settled_names : (asked settled : Asked) (bytes : List ℕ) → Settles bytes asked settled → settled.names ≡ asked.names
settled_names asked settled bytes settles =
    settled_so (λ (a : Asked). a.names ≡ asked.names) asked settled bytes (λ rule is. is) settles refl

-- the limits are no others
pub settled_range : (asked settled : Asked) (bytes : List ℕ) → Settles bytes asked settled → IsTaskInRange (task_of asked) →
    IsTaskInRange (task_of settled)
settled_range asked settled bytes =
    settled_so (λ (a : Asked). IsTaskInRange (task_of a)) asked settled bytes
    (λ rule is. record { some = is.some; narrow = is.narrow; workers = is.workers; cuts = is.cuts })

-- where the words may break without a look at the file, what is asked for is asked of the bytes
pub settled_plain : (asked settled : Asked) (bytes : List ℕ) → asked.options.breaking ≢ Some rules.Fit →
    Settles bytes asked settled → settled ≡ asked
settled_plain asked settled bytes plain settles = by asked.options.breaking refl settles
  where
    by : (rule : Option BreakRule) → asked.options.breaking ≡ rule → SettlesBy rule bytes asked settled → settled ≡ asked
    by None given is = is
    by (Some rules.Words) given is = is
    by (Some rules.Any) given is = is
    by (Some (rules.Wider most)) given is = is
    by (Some rules.Fit) given is = absurd (plain given)
    by (Some (rules.Fitted most)) given is = is

-- no argument says what is found
pub none_fitted : (words : List (List ℕ)) (asked : Asked) → IsAsk words asked → fitted_in asked ≡ None
none_fitted words asked is = by asked.options.breaking refl
  where
    by : (rule : Option BreakRule) → asked.options.breaking ≡ rule → fitted_by rule ≡ None
    by None given = refl
    by (Some rules.Words) given = refl
    by (Some rules.Any) given = refl
    by (Some (rules.Wider most)) given = refl
    by (Some rules.Fit) given = refl
    by (Some (rules.Fitted most)) given = absurd (in_range words asked is (choices.Breaking (rules.Fitted most)) given)

-- ---- one command alone

-- an unread file is what comes of each command on a file
unread_carried : (command : Command) (asked : Asked) (change : Change) (delivery : Delivery) → command ≢ Demo →
    IsUnread change delivery → IsCarriedOut command asked change delivery
unread_carried Lay asked change delivery file unread = inl unread
unread_carried Narrow asked change delivery file unread = inl unread
unread_carried Tidy asked change delivery file unread = inl unread
unread_carried Check asked change delivery file unread = inl unread
unread_carried Demo asked change delivery file unread = absurd (file refl)

-- what comes of the arguments comes of what they ask for
pub comes_as : (words : List (List ℕ)) (change : Change) (asked : Asked) (delivery : Delivery) → IsAsk words asked →
    ComesOf words change delivery → ComesOfAsk asked change delivery
comes_as words change asked delivery is (inl usage) = absurd (usage.0 asked is)
comes_as words change asked delivery is (inr (other, is_other, comes)) =
    subst (λ (a : Asked). ComesOfAsk a change delivery) (ask_once words other asked is_other is) comes

-- and of the command
pub carried_as : (words : List (List ℕ)) (change : Change) (command : Command) (asked : Asked) (delivery : Delivery) →
    IsAskOf command words asked → ComesOf words change delivery → IsCarriedOut command asked change delivery
carried_as words change command asked delivery is comes =
    subst (λ (c : Command). IsCarriedOut c asked change delivery) is.by (by (comes_as words change asked delivery is.is comes))
  where
    by : ComesOfAsk asked change delivery → IsCarriedOut asked.command asked change delivery
    by (inl demo) = subst (λ (c : Command). IsCarriedOut c asked change delivery) (sym demo.0) demo.1
    by (inr (inl unread)) = unread_carried asked.command asked change delivery unread.0 unread.1
    by (inr (inr (settled, (bytes, holds, settles), carried))) =
        subst (λ (a : Asked). IsCarriedOut asked.command a change delivery)
        (settled_plain asked settled bytes is.plain settles) carried

-- one thing is asked of the bytes
pub one_settled : (asked one other : Asked) (bytes : List ℕ) → Settles bytes asked one → Settles bytes asked other → one ≡ other
one_settled asked one other bytes = by asked.options.breaking
  where
    by : (rule : Option BreakRule) → SettlesBy rule bytes asked one → SettlesBy rule bytes asked other → one ≡ other
    by None first second = first ∙ sym second
    by (Some rules.Words) first second = first ∙ sym second
    by (Some rules.Any) first second = first ∙ sym second
    by (Some (rules.Wider most)) first second = first ∙ sym second
    by (Some rules.Fit) (breaking, fit, is) (also, fits, are) =
        is ∙ ap (λ (b : Breaking). with_rule (rule_of b) asked)
        (one_fit (source_of asked) (style_of asked) (widest_page asked) bytes breaking also fit fits) ∙ sym are
    by (Some (rules.Fitted most)) first second = first ∙ sym second

-- what is asked for without a look at the file is asked of its bytes
settles_itself : (asked : Asked) (bytes : List ℕ) → asked.options.breaking ≢ Some rules.Fit → Settles bytes asked asked
settles_itself asked bytes plain = by asked.options.breaking refl
  where
    by : (rule : Option BreakRule) → asked.options.breaking ≡ rule → SettlesBy rule bytes asked asked
    by None given = refl
    by (Some rules.Words) given = refl
    by (Some rules.Any) given = refl
    by (Some (rules.Wider most)) given = refl
    by (Some rules.Fit) given = absurd (plain given)
    by (Some (rules.Fitted most)) given = refl

pub ask_for : (command : Command) (words : List (List ℕ)) (asked : Asked) (bytes : List ℕ) → IsAskOf command words asked →
    IsAskFor command words bytes asked
ask_for command words asked bytes is = record {
  asked = asked;
  is = is.is;
  by = is.by;
  settles = settles_itself asked bytes is.plain;
}

-- what comes of the arguments comes of what they ask of the bytes that the file holds
pub carried_for : (words : List (List ℕ)) (change : Change) (command : Command) (settled : Asked) (bytes : List ℕ)
    (delivery : Delivery) → IsAskFor command words bytes settled →
    ((one : List ℕ) → Holds change.files (input_name settled) one → one ≡ bytes) → ComesOf words change delivery →
    IsCarriedOut command settled change delivery
carried_for words change command settled bytes delivery is shown comes =
    subst (λ (c : Command). IsCarriedOut c settled change delivery) is.by
    (by (comes_as words change is.asked delivery is.is comes))
  where
    by : ComesOfAsk is.asked change delivery → IsCarriedOut is.asked.command settled change delivery
    by (inl demo) =
        subst (λ (c : Command). IsCarriedOut c settled change delivery) (sym demo.0)
        (settled_so (λ (a : Asked). IsCarriedOut Demo a change delivery) is.asked settled bytes (λ rule so. so) is.settles demo.1)
    by (inr (inl unread)) = unread_carried is.asked.command settled change delivery unread.0 unread.1
    by (inr (inr (other, (one, holds, settles), carried))) =
        let same = shown one (subst (λ (names : List (List ℕ)). Holds change.files (get_or names 0 []) one)
        (sym (settled_names is.asked settled bytes is.settles)) holds) in
        subst (λ (a : Asked). IsCarriedOut is.asked.command a change delivery)
        (one_settled is.asked other settled bytes (subst (λ (bs : List ℕ). Settles bs is.asked other) same settles) is.settles)
        carried

-- what comes of the command, as it is asked of the bytes, comes of the arguments
pub comes_of : (words : List (List ℕ)) (change : Change) (command : Command) (asked settled : Asked) (delivery : Delivery) →
    asked.command ≡ command → IsAsk words asked → SettlesOn change.files asked settled →
    IsCarriedOut command settled change delivery → ComesOf words change delivery
comes_of words change command asked settled delivery by is settles carried =
    inr (asked, is, inr (inr (settled, settles, subst (λ (c : Command). IsCarriedOut c settled change delivery) (sym by) carried)))

-- and so does that its file could not be read
pub unread_of : (words : List (List ℕ)) (change : Change) (asked : Asked) (delivery : Delivery) → asked.command ≢ Demo →
    IsAsk words asked → IsUnread change delivery → ComesOf words change delivery
unread_of words change asked delivery file is unread = inr (asked, is, inr (inl (file, unread)))

-- a demonstration comes of the arguments that ask for it
pub demo_of : (words : List (List ℕ)) (change : Change) (asked : Asked) (delivery : Delivery) → asked.command ≡ Demo →
    IsAsk words asked → IsCarriedOut Demo asked change delivery → ComesOf words change delivery
demo_of words change asked delivery demo is carried = inr (asked, is, inl (demo, carried))

-- ---- no number is found

-- none for a report, whatever it is
of_page-none : (report : Report) → of_page None report ≡ None
of_page-none (reports.Lowest height width) = refl
of_page-none (reports.Bounded height lower width) = refl
of_page-none (reports.Narrow least width) = refl
of_page-none (reports.Slimmest width height) = refl
of_page-none (reports.Between width least) = refl
of_page-none (reports.TooTall height) = refl
of_page-none (reports.Tidy height width) = refl
of_page-none (reports.Wider width least) = refl
of_page-none reports.Unchosen = refl
of_page-none (reports.Refused refusal) = refl
of_page-none (reports.Rejected rejection) = refl
of_page-none (reports.Summary summary) = refl
of_page-none reports.Usage = refl
of_page-none reports.ReadFault = refl

module _ (asked : Asked) (none : fitted_in asked ≡ None) (delivery : Delivery) where
  -- none where something is reported of which no page is
  none_reported : (report : Report) → delivery ≡ reported report → delivery.most ≡ None
  none_reported report same = ap (λ (d : Delivery). d.most) same

  none_on_page : delivery.most ≡ of_page (fitted_in asked) delivery.report → delivery.most ≡ None
  none_on_page same = same ∙ ap (λ (most : Option ℕ). of_page most delivery.report) none ∙ of_page-none delivery.report

  none_answered : (Own : Table → Answer → Type 0) (table : Table) → IsAnswered Own asked table delivery → delivery.most ≡ None
  none_answered Own table own =
      ap (λ (d : Delivery). d.most) own.so ∙ ap (λ (most : Option ℕ). of_page most (report_of own.answer)) none
      ∙ of_page-none (report_of own.answer)

  -- none of a file, where its own part gives none
  none_of_input : (change : Change) (reach : Table → ℕ) (Own : Table → Delivery → Type 0) →
      ((table : Table) → Own table delivery → delivery.most ≡ None) → ComesOfInput asked reach Own change delivery →
      delivery.most ≡ None
  none_of_input change reach Own none_own (inl unread) = none_reported reports.ReadFault unread.so
  none_of_input change reach Own none_own (inr (bytes, holds, of)) = by of.reading of.so
    where
      by : (reading : Reading) → IsOfReading reach (λ refusal. delivery ≡ reported (reports.Refused refusal))
          (λ table. Own table delivery) reading → delivery.most ≡ None
      by (readings.Refused refusal) same = none_reported (reports.Refused refusal) same
      by (readings.Table table) (inl far) = none_reported _ far.1
      by (readings.Table table) (inr own) = none_own table own.1

  -- none of a command for which none was found
  pub none_carried : (command : Command) (change : Change) → IsCarriedOut command asked change delivery → delivery.most ≡ None
  none_carried Lay change comes =
      none_of_input change (reach (task_of asked)) (IsAnswered (IsLaidAs (task_of asked)) asked)
      (none_answered (IsLaidAs (task_of asked))) comes
  none_carried Narrow change comes =
      none_of_input change (reach (slim_task asked)) (IsAnswered (IsSlimmed (slim_task asked) asked.number) asked)
      (none_answered (IsSlimmed (slim_task asked) asked.number)) comes
  none_carried Tidy change comes =
      none_of_input change (reach (task_of asked)) (IsAnswered (IsTidiedAs (task_of asked)) asked)
      (none_answered (IsTidiedAs (task_of asked))) comes
  none_carried Check change comes =
      none_of_input change (reach (task_of asked)) (IsChecked asked change.files) (λ table own. none_on_page own.most) comes
  none_carried Demo change (summary, is, same) = none_reported (reports.Summary summary) same
