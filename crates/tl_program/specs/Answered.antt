-- What a command stores and prints, in one clause of `run` for each: the answer of the call for the bytes of its file. What the
-- answer says of the table is said below the desk: by `Lays` that no page is lower, by `Narrows` that none is narrower, by `Tidies`
-- both.
use Rattle.std.specs.Prelude.{◌≡◌, ◌≢◌, ℕ, List, Option, Some, None, get_or}
use Rattle.std.specs.List.{slice_get}
use Rattle.tl_base.specs.Desk.{Files}
use Rattle.tl_command.specs.declared.command.Command.{Command}
use Rattle.tl_command.specs.declared.command.Command.TheVariants.{Lay, Narrow, Tidy}
use Rattle.tl_command.specs.Ask.{Asked, IsAsk}
use Rattle.tl_lay.specs.declared.answer.Answer.{Answer}
use Rattle.tl_lay.specs.Lowest.{Lays}
use Rattle.tl_lay.specs.Narrowest.{Narrows}
use Rattle.tl_lay.specs.Tidiest.{Tidies}
use Rattle.tl_program.specs.Asks.{input_name}
use Rattle.tl_program.specs.Change.{Change, Holds}
use Rattle.tl_program.specs.Complete.{ShowsFile}
use Rattle.tl_program.specs.Deliveries.{Prints, delivery_of, texts_of}
use Rattle.tl_program.specs.Messages.{status_number, status_of}
use Rattle.tl_program.specs.Reports.{report_of}
use Rattle.tl_program.specs.Settled.{Settles}
use Rattle.tl_program.specs.Tasks.{slim_task, task_of}

-- the file of this name holds the text, or is as it was where there is none
abbrev pub IsLeftWith : Change → List ℕ → Option (List ℕ) → Type 0
IsLeftWith change name (Some text) = Holds change.files_after name text
IsLeftWith change name None = (files after : Files) → change.files ≡ Some files → change.files_after ≡ Some after →
    after name ≡ files name

-- the answer is delivered: each text of it, the page and the certificates, is stored under the name at its place; its numbers are
-- printed; and the status is its own
pub record Delivers (asked : Asked) (change : Change) (status : ℕ) (answer : Answer) : Type 0 where
  pub files : (place : ℕ) (name : List ℕ) → slice_get asked.names place ≡ Some name →
      IsLeftWith change name (get_or (texts_of answer) place None)
  pub prints : Prints change (delivery_of asked answer)
  pub told : status ≡ status_number (status_of (report_of answer))

-- the files could be read and written, and memory was enough
pub record IsDone (status : ℕ) : Type 0 where
  pub read : status ≢ 7
  pub written : status ≢ 8
  pub memory : status ≢ 9

-- where the command is asked for, and its file has these bytes, an answer that says so much of them is delivered: of what is
-- asked of these bytes, with `fit` the greatest number of columns up to which words stay whole
abbrev pub Answers : Command → (Asked → List ℕ → Answer → Type 0) → List (List ℕ) → Change → ℕ → Type 0
Answers command Says words change status = IsDone status → (asked : Asked) (bytes : List ℕ) → IsAsk words asked →
    asked.command ≡ command → ShowsFile change (input_name asked) bytes →
    (settled : Asked) × Settles bytes asked settled × (answer : Answer) × Says settled bytes answer
    × Delivers settled change status answer

-- `lay`: at 0 the page that is stored is the lowest, at 3 none is below the bound that is printed, at 4 none fits
abbrev pub LaysFile : List (List ℕ) → Change → ℕ → Type 0
LaysFile = Answers Lay (λ asked. Lays (task_of asked))

-- `narrow`: at 0 the page that is stored is the narrowest in so few lines, at 3 it lies between the widths that are printed, at 12
-- there is none
abbrev pub NarrowsFile : List (List ℕ) → Change → ℕ → Type 0
NarrowsFile = Answers Narrow (λ asked. Narrows (slim_task asked) asked.number)

-- `tidy`: at 0 the page that is stored is the lowest, and the narrowest that is as low, at 3 the budget left something open, at 4
-- none fits
abbrev pub TidiesFile : List (List ℕ) → Change → ℕ → Type 0
TidiesFile = Answers Tidy (λ asked. Tidies (task_of asked))
