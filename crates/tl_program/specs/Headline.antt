-- What the program returns, stores and prints. A file that spells a table gives the lowest page, a page with a lower
-- bound, or a chain of columns that is wider than the page; a certificate is accepted exactly where it is valid.
-- docs/COMMAND.md has the messages.
use Rattle.std.specs.Prelude.{◌≡◌, ◌≢◌, ◌⊎◌, ℕ, List}
use Rattle.tl_base.specs.Desk.{longer, SaysPrefix, Rose}
use Rattle.tl_command.specs.declared.command.Command.{Command}
use Rattle.tl_command.specs.declared.command.Command.TheVariants.{Lay, Narrow, Tidy, Check, Demo}
use Rattle.tl_command.specs.Ask.{Asked, IsAsk, AskForNothing}
use Rattle.tl_lay.specs.declared.summary.Summary.{Summary}
use Rattle.tl_lay.specs.Answers.{IsLaidAs}
use Rattle.tl_lay.specs.Budgets.{reach}
use Rattle.tl_lay.specs.Demonstration.{IsDemonstrated}
use Rattle.tl_lay.specs.Slimmed.{IsSlimmed}
use Rattle.tl_lay.specs.Tidied.{IsTidiedAs}
use Rattle.tl_program.specs.declared.report.Report.TheVariants as reports
use Rattle.tl_program.specs.Change.{Change, StoresSome, FailsToStore, with_all}
use Rattle.tl_program.specs.Checks.{IsChecked}
use Rattle.tl_program.specs.Messages.{status_number, status_of}
use Rattle.tl_program.specs.Deliveries.{Delivery, reported, told, ComesOfInput, IsAnswered, IsUnread}
use Rattle.tl_program.specs.Settled.{SettlesOn}
use Rattle.tl_program.specs.Tasks.{slim_task, task_of}

-- What comes of the command that is asked for. A layout, a search for the narrowest page, or for one that is as low as any and
-- then as narrow: its own part is the answer of the call of tl_lay for the table. A check: its own part is that the certificate is
-- judged. Or the numbers of a demonstration
abbrev pub IsCarriedOut : Command → Asked → Change → Delivery → Type 0
IsCarriedOut Lay asked change delivery = ComesOfInput asked (reach (task_of asked))
    (IsAnswered (IsLaidAs (task_of asked)) asked) change delivery
IsCarriedOut Narrow asked change delivery = ComesOfInput asked (reach (slim_task asked))
    (IsAnswered (IsSlimmed (slim_task asked) asked.number) asked) change delivery
IsCarriedOut Tidy asked change delivery = ComesOfInput asked (reach (task_of asked))
    (IsAnswered (IsTidiedAs (task_of asked)) asked) change delivery
IsCarriedOut Check asked change delivery = ComesOfInput asked (reach (task_of asked)) (IsChecked asked change.files)
    change delivery
IsCarriedOut Demo asked change delivery = (summary : Summary) × IsDemonstrated asked.number summary
    × (delivery ≡ reported (reports.Summary summary))

-- what comes of what is asked for: a demonstration; or the file of a command could not be read; or what is asked of its bytes is
-- carried out
abbrev pub ComesOfAsk : Asked → Change → Delivery → Type 0
ComesOfAsk asked change delivery = ((asked.command ≡ Demo) × IsCarriedOut Demo asked change delivery)
    ⊎ (((asked.command ≢ Demo) × IsUnread change delivery)
    ⊎ ((settled : Asked) × SettlesOn change.files asked settled × IsCarriedOut asked.command settled change delivery))

-- what comes of the arguments: they are invalid, or they ask for something
abbrev pub ComesOf : List (List ℕ) → Change → Delivery → Type 0
ComesOf words change delivery = (AskForNothing words × (delivery ≡ reported reports.Usage))
    ⊎ ((asked : Asked) × IsAsk words asked × ComesOfAsk asked change delivery)

-- how the program ends
pub record Ends (words : List (List ℕ)) (change : Change) (status : ℕ) : Type 0 where
  -- 0 lowest, 2 usage, 3 bounded, 4 narrow, 5 bad input, 6 limit, 7 read fault, 10 rejected: all is stored, and the message
  -- is printed
  pub done : status ≢ 8 → status ≢ 9 → (delivery : Delivery) × ComesOf words change delivery
      × (status ≡ status_number (status_of delivery.report)) × (change.files_after ≡ with_all change.files delivery.stores)
      × (change.said_after ≡ longer change.said (told delivery))
  -- 8: a file could not be stored, and nothing is printed; or all is stored, and the message could not be printed
  pub write_fault : status ≡ 8 → Rose change.write_faults change.write_faults_after
      × (delivery : Delivery) × ComesOf words change delivery
      × ((FailsToStore change.files change.files_after delivery.stores × (change.said_after ≡ change.said))
      ⊎ ((change.files_after ≡ with_all change.files delivery.stores)
      × SaysPrefix change.said change.said_after (told delivery)))
  -- 9: out of memory. What was stored before stands, and nothing is printed
  pub memory : status ≡ 9 → (change.said_after ≡ change.said) × ((change.files_after ≡ change.files)
      ⊎ ((delivery : Delivery) × ComesOf words change delivery
      × StoresSome change.files change.files_after delivery.stores))
