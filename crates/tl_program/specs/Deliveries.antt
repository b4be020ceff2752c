-- What becomes of a command: what is reported, and what is stored for it, in order.
use Rattle.std.specs.Prelude.{◌≡◌, ◌⊎◌, ℕ, List, [], ◌∷◌, Option, Some, None}
use Rattle.tl_base.specs.Desk.{Files, Rose, longer}
use Rattle.tl_command.specs.Ask.{Asked}
use Rattle.tl_table.specs.declared.cell.Table.{Table}
use Rattle.tl_read.specs.declared.refusal.Refusal.{Refusal}
use Rattle.tl_read.specs.declared.source.Source.{Source}
use Rattle.tl_lay.specs.declared.answer.Answer.{Answer}
use Rattle.tl_lay.specs.declared.answer.Answer.TheVariants as answers
use Rattle.tl_lay.specs.declared.answer.Evidence.{Evidence}
use Rattle.tl_lay.specs.Inputs.{IsOfBytes}
use Rattle.tl_program.specs.declared.report.Report.{Report}
use Rattle.tl_program.specs.declared.report.Report.TheVariants as reports
use Rattle.tl_program.specs.Asks.{fitted_in, input_name}
use Rattle.tl_program.specs.Change.{Change, Holds, Stored}
use Rattle.tl_program.specs.Messages.{message_with, of_page}
use Rattle.tl_program.specs.Reports.{report_of}
use Rattle.tl_program.specs.Tasks.{task_of}

-- what is reported, the number of columns above which words may break where that was found for a page, and the files that are
-- stored, in order
pub record Delivery : Type 0 where
  pub report : Report
  pub most : Option ℕ
  pub stores : List Stored

-- the message of a delivery
abbrev pub told : Delivery → List ℕ
told delivery = message_with delivery.most delivery.report

-- it is printed
abbrev pub Prints : Change → Delivery → Type 0
Prints change delivery = change.said_after ≡ longer change.said (told delivery)

-- ---- of an answer

-- what is known of the narrowest page: the page, and the certificates
abbrev pub evidence_texts : Evidence → List (Option (List ℕ))
evidence_texts evidence = evidence.page ∷ evidence.kept ∷ evidence.less ∷ evidence.spent ∷ []

-- the texts of an answer in the order of the names: none under that of the file that is read, the page, and the certificates
abbrev pub texts_of : Answer → List (Option (List ℕ))
texts_of (answers.Lowest height width page text) = None ∷ Some page ∷ text ∷ []
texts_of (answers.Bounded height lower width page text) = None ∷ Some page ∷ text ∷ []
texts_of (answers.Narrow least width text) = None ∷ None ∷ text ∷ []
texts_of (answers.Slimmest width height evidence) = None ∷ evidence_texts evidence
texts_of (answers.Between width least evidence) = None ∷ evidence_texts evidence
texts_of (answers.TooTall height evidence) = None ∷ evidence_texts evidence
texts_of (answers.Tidy height width evidence) = None ∷ evidence_texts evidence
texts_of (answers.Wider width least evidence) = None ∷ evidence_texts evidence
texts_of (answers.Unchosen evidence) = None ∷ evidence_texts evidence
texts_of (answers.Refused refusal) = None ∷ []

-- texts under names: each that is there under the name at its place
abbrev pub files_of : List (List ℕ) → List (Option (List ℕ)) → List Stored
files_of [] texts = []
files_of (name ∷ names) [] = []
files_of (name ∷ names) (None ∷ texts) = files_of names texts
files_of (name ∷ names) (Some text ∷ texts) = record { name = name; bytes = text } ∷ files_of names texts

-- the answer is reported, and its texts are stored under the names
abbrev pub delivery_of : Asked → Answer → Delivery
delivery_of asked answer = record {
  report = report_of answer;
  most = of_page (fitted_in asked) (report_of answer);
  stores = files_of asked.names (texts_of answer);
}

-- ---- of a file

-- what is reported where nothing is stored
abbrev pub reported : Report → Delivery
reported report = record { report = report; most = None; stores = [] }

-- a file could not be read
pub record IsUnread (change : Change) (delivery : Delivery) : Type 0 where
  pub rose : Rose change.load_faults change.load_faults_after
  pub so : delivery ≡ reported reports.ReadFault

-- what comes of the file of this name, which holds some bytes
abbrev pub IsOfFile : Source → (Table → ℕ) → (Refusal → Type 0) → (Table → Type 0) → Option Files → List ℕ → Type 0
IsOfFile source reach Refuses Own files name =
    (bytes : List ℕ) × Holds files name bytes × IsOfBytes source reach Refuses Own bytes

-- What comes of a command that reads a file, whose searches for a table may make `reach` cuts together, and whose own part is
-- `Own`: a file could not be read; or its bytes, or the reach of its table, are refused, and that is reported; or the own part
-- holds of its table
abbrev pub ComesOfInput : Asked → (Table → ℕ) → (Table → Delivery → Type 0) → Change → Delivery → Type 0
ComesOfInput asked reach Own change delivery = IsUnread change delivery
    ⊎ IsOfFile (task_of asked).source reach (λ refusal. delivery ≡ reported (reports.Refused refusal))
    (λ table. Own table delivery) change.files (input_name asked)

-- the table has an answer of which the own part of a call holds, and the delivery is that of the answer
pub record IsAnswered (Own : Table → Answer → Type 0) (asked : Asked) (table : Table) (delivery : Delivery) : Type 0 where
  pub answer : Answer
  pub is : Own table answer
  pub so : delivery ≡ delivery_of asked answer
