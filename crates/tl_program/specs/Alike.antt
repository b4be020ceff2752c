-- What does not depend on how many workers there are, and what not on the search either: two runs on the same files, by arguments
-- that differ in nothing else.
use Rattle.std.specs.Prelude.{◌≡◌, ◌⊎◌, ℕ, List, Option, None, Some}
use Rattle.tl_base.specs.Desk.{Files, longer}
use Rattle.tl_command.specs.declared.command.Command.TheVariants.{Lay, Tidy, Check}
use Rattle.tl_base.specs.declared.search.Search.{Search}
use Rattle.tl_command.specs.Ask.{Asked}
use Rattle.tl_table.specs.declared.cell.Table.{Table}
use Rattle.tl_read.specs.declared.reading.Reading.TheVariants as readings
use Rattle.tl_read.specs.declared.source.Source.{Source}
use Rattle.tl_read.specs.Reading.{IsReading}
use Rattle.tl_lay.specs.Flat.{HasNoNested}
use Rattle.tl_program.specs.declared.report.Report.TheVariants as reports
use Rattle.tl_program.specs.Asks.{IsAskOf, input_name, page_name}
use Rattle.tl_program.specs.Change.{Change, DoesNotFail, Holds}
use Rattle.tl_program.specs.Complete.{ShowsFile}
use Rattle.tl_program.specs.Headline.{Ends}
use Rattle.tl_program.specs.Messages.{message_of}
use Rattle.tl_program.specs.Tasks.{source_of}

-- what is asked for, with these options of effort in the place of its own: a budget, a search and workers
abbrev pub with_effort : Option ℕ → Option Search → Option ℕ → Asked → Asked
with_effort budget search workers asked = record {
  command = asked.command;
  number = asked.number;
  names = asked.names;
  options = record {
    style = asked.options.style;
    breaking = asked.options.breaking;
    budget = budget;
    search = search;
    workers = workers;
    csv = asked.options.csv;
    head = asked.options.head;
    least = asked.options.least;
    align = asked.options.align;
    trim = asked.options.trim;
    html = asked.options.html;
  };
}

-- what is asked for, but for the workers
abbrev pub but_workers : Asked → Asked
but_workers asked = with_effort asked.options.budget asked.options.search None asked

-- what is asked for, but for the workers and the search
abbrev pub but_search : Asked → Asked
but_search asked = with_effort asked.options.budget None None asked

-- what is asked for, but for the workers, the search and the budget
abbrev pub but_effort : Asked → Asked
but_effort asked = with_effort None None None asked

-- both begin with the same files
abbrev pub BeginAlike : Change → Change → Type 0
BeginAlike before change = (files : Files) × (before.files ≡ Some files) × (change.files ≡ Some files)

-- both print the same
abbrev pub PrintAlike : Change → Change → Type 0
PrintAlike before change = (text : List ℕ) × (before.said_after ≡ longer before.said text)
    × (change.said_after ≡ longer change.said text)

-- a check returns and prints the same, unless the desk fails or memory runs out
abbrev pub ChecksAlike : List (List ℕ) → Change → ℕ → Type 0
ChecksAlike words change status = (earlier : List (List ℕ)) (before : Change) (told : ℕ) (one other : Asked) →
    IsAskOf Check earlier one → IsAskOf Check words other → but_workers one ≡ but_workers other → Ends earlier before told →
    BeginAlike before change → DoesNotFail before → DoesNotFail change →
    ((status ≡ told) × PrintAlike before change) ⊎ ((told ≡ 9) ⊎ (status ≡ 9))

-- where no page is stored, for its width or as the file is refused, a layout prints the same, and returns the same
abbrev pub RefusalsAlike : List (List ℕ) → Change → ℕ → Type 0
RefusalsAlike words change status = (earlier : List (List ℕ)) (before : Change) (told : ℕ) (one other : Asked) →
    IsAskOf Lay earlier one → IsAskOf Lay words other → but_search one ≡ but_search other → Ends earlier before told →
    BeginAlike before change → DoesNotFail before → DoesNotFail change →
    (told ≡ 4) ⊎ ((told ≡ 5) ⊎ (told ≡ 6)) → ((status ≡ told) × PrintAlike before change) ⊎ (status ≡ 9)

-- the message says that a page of this height is the lowest
abbrev pub PrintsLowest : Change → ℕ → Type 0
PrintsLowest change height = (width : ℕ) × (change.said_after ≡ longer change.said (message_of (reports.Lowest height width)))

-- two layouts that are the lowest are as high, whatever search, budget and workers each had
abbrev pub LowestAlike : List (List ℕ) → Change → ℕ → Type 0
LowestAlike words change status = (earlier : List (List ℕ)) (before : Change) (told : ℕ) (one other : Asked) →
    IsAskOf Lay earlier one → IsAskOf Lay words other → but_effort one ≡ but_effort other → Ends earlier before told →
    BeginAlike before change → told ≡ 0 → status ≡ 0 → (height : ℕ) × PrintsLowest before height × PrintsLowest change height

-- the bytes are those of a table in whose cells none is nested
abbrev pub SpellsFlat : Source → List ℕ → Type 0
SpellsFlat source bytes = (table : Table) × IsReading source bytes (readings.Table table) × HasNoNested table

-- of a table in whose cells none is nested, two runs of `tidy` that end with 0 store the same page, and print the same,
-- whatever search, budget and workers each had
abbrev pub TidyAlike : List (List ℕ) → Change → ℕ → Type 0
TidyAlike words change status = (earlier : List (List ℕ)) (before : Change) (told : ℕ) (one other : Asked) (bytes : List ℕ) →
    IsAskOf Tidy earlier one → IsAskOf Tidy words other → but_effort one ≡ but_effort other → Ends earlier before told →
    BeginAlike before change → told ≡ 0 → status ≡ 0 → ShowsFile change (input_name other) bytes →
    SpellsFlat (source_of other) bytes → PrintAlike before change
    × ((page : List ℕ) × Holds before.files_after (page_name one) page × Holds change.files_after (page_name other) page)
