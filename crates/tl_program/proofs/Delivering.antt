-- What a run on a file has delivered: the answer of the call for the bytes of the file.
use Rattle.std.proofs.Common.{◌≡◌, ◌≢◌, inl, inr, ℕ, zero, suc, List, [], ◌∷◌, get_or, Option, Some, None, refl, sym, ap, subst, ◌∙◌}
use Rattle.std.specs.List.{AllPairs, slice_get}
use Rattle.std.proofs.lemmas.Option.{get_or_from_slice_get}
use Rattle.tl_base.specs.declared.limits.TheConstants.{MAX_PAGE_WIDTH}
use Rattle.tl_base.specs.Desk.{Files}
use Rattle.tl_command.specs.declared.command.Command.{Command}
use Rattle.tl_command.specs.declared.command.Command.TheVariants.{Lay, Narrow, Tidy, Demo}
use Rattle.tl_command.specs.Ask.{Asked, IsAsk}
use Rattle.tl_command.specs.Command.{IsNumberOf}
use Rattle.tl_table.specs.declared.cell.Table.{Table}
use Rattle.tl_read.specs.declared.reading.Reading.{Reading}
use Rattle.tl_read.specs.declared.reading.Reading.TheVariants as readings
use Rattle.tl_read.specs.declared.source.Source.{Source}
use Rattle.tl_lay.specs.declared.answer.Answer.{Answer}
use Rattle.tl_lay.specs.declared.answer.Answer.TheVariants as answers
use Rattle.tl_lay.specs.Answers as below
use Rattle.tl_lay.specs.Answers.{IsLaidAs}
use Rattle.tl_lay.specs.Budgets.{reach}
use Rattle.tl_lay.specs.Inputs.{IsOfBytes, IsOfReading}
use Rattle.tl_lay.specs.Laws.{LaidIsLowest, NarrowedIsNarrowest, TidiedIsTidiest}
use Rattle.tl_lay.specs.Slimmed.{IsSlimmed}
use Rattle.tl_lay.specs.Tidied.{IsTidiedAs}
use Rattle.tl_program.specs.declared.report.Report.TheVariants as reports
use Rattle.tl_program.specs.Answered.{Answers, Delivers, IsLeftWith, LaysFile, NarrowsFile, TidiesFile}
use Rattle.tl_program.specs.Asks.{input_name}
use Rattle.tl_program.specs.Change.{Change, Holds, with_all}
use Rattle.tl_program.specs.Deliveries.{ComesOfInput, Delivery, IsAnswered, Prints, delivery_of, files_of, reported, texts_of}
use Rattle.tl_program.specs.Headline.{ComesOfAsk, Ends, IsCarriedOut}
use Rattle.tl_program.specs.Messages.{status_number, status_of}
use Rattle.tl_program.specs.Settled.{Settles}
use Rattle.tl_program.specs.Tasks.{slim_task, task_of, task_on}
use Rattle.tl_program.proofs.Asking.{comes_as, settled_names, settled_range, task_in_range}
use Rattle.tl_program.proofs.Ends.{same_bytes}
use Rattle.tl_program.proofs.Loading.{none_named}
use Rattle.tl_program.proofs.NamedFiles.{left_as_it_was, no_file_named, text_there}

-- ---- the files

-- a text that is got is at its place
got_text : (texts : List (Option (List ℕ))) (place : ℕ) (text : List ℕ) → get_or texts place None ≡ Some text →
    slice_get texts place ≡ Some (Some text)
got_text [] place text e = absurd cc
got_text (one ∷ texts) zero text e = ap Some e
got_text (one ∷ texts) (suc place) text e = got_text texts place text e

-- the file of each name holds the text at its place, or is as it was
module _ (change : Change) (names : List (List ℕ)) (texts : List (Option (List ℕ)))
    (apart : AllPairs (λ one other. one ≢ other) names)
    (stores : change.files_after ≡ with_all change.files (files_of names texts)) where
  left_with : (place : ℕ) (name : List ℕ) → slice_get names place ≡ Some name → (text : Option (List ℕ)) →
      get_or texts place None ≡ text → IsLeftWith change name text
  left_with place name named (Some text) is = subst (λ (files : Option Files). Holds files name text) (sym stores)
      (text_there names texts change.files place name text apart named (got_text texts place text is))
  left_with place name named None is = λ files after before behind.
      left_as_it_was (files_of names texts) files after name (no_file_named names texts place name apart named none)
      (sym (ap (λ held. with_all held (files_of names texts)) before) ∙ sym stores ∙ behind) where
        none : (text : List ℕ) → slice_get texts place ≡ Some (Some text) → ⊥
        none text there = never (sym is ∙ get_or_from_slice_get texts place (Some text) None there) where
          never : None ≡ Some text → ⊥
          never e = absurd cc

-- ---- the answer

-- what was delivered of bytes is delivered of an answer
answer_of_bytes : (source : Source) (reach : Table → ℕ) (Own : Table → Answer → Type 0) (asked : Asked) (delivery : Delivery)
    (bytes : List ℕ) → IsOfBytes source reach (λ refusal. delivery ≡ reported (reports.Refused refusal))
    (λ table. IsAnswered Own asked table delivery) bytes →
    (answer : Answer) × IsOfBytes source reach (λ refusal. answer ≡ answers.Refused refusal) (λ table. Own table answer) bytes
    × (delivery ≡ delivery_of asked answer)
answer_of_bytes source reach Own asked delivery bytes of =
    let found = by_reading of.reading of.so in (
      found.0,
      record {
        reading = of.reading;
        read = of.read;
        only = of.only;
        sound = of.sound;
        spellable = of.spellable;
        so = found.1;
      },
      found.2,
    )
  where
    refused : (refusal : _) → delivery ≡ reported (reports.Refused refusal) → delivery ≡ delivery_of asked (answers.Refused refusal)
    refused refusal same = same ∙ sym (ap (λ (stores : _). record { report = reports.Refused refusal; most = None; stores = stores })
        (none_named asked.names))

    by_reading : (reading : Reading) → IsOfReading reach (λ refusal. delivery ≡ reported (reports.Refused refusal))
        (λ table. IsAnswered Own asked table delivery) reading →
        (answer : Answer) × IsOfReading reach (λ refusal. answer ≡ answers.Refused refusal) (λ table. Own table answer) reading
        × (delivery ≡ delivery_of asked answer)
    by_reading (readings.Refused refusal) same = (answers.Refused refusal, refl, refused refusal same)
    by_reading (readings.Table table) (inl far) = (answers.Refused _, inl (far.0, refl), refused _ far.1)
    by_reading (readings.Table table) (inr own) = (own.1.answer, inr (own.0, own.1.is), own.1.so)

-- ---- the run

module _ (command : Command) (file : command ≢ Demo) (most : Asked → ℕ) (Own : Asked → Table → Answer → Type 0) (Says : Asked → List ℕ → Answer → Type 0)
    (carried : (asked : Asked) (change : Change) (delivery : Delivery) → IsCarriedOut command asked change delivery →
    ComesOfInput asked (reach (task_on (most asked) asked)) (IsAnswered (Own asked) asked) change delivery)
    (says : (words : List (List ℕ)) (asked settled : Asked) → IsAsk words asked → asked.command ≡ command →
    (bytes : List ℕ) (answer : Answer) → Settles bytes asked settled →
    below.IsAnswered (task_on (most settled) settled) (Own settled) bytes answer → Says settled bytes answer) where
  pub answers_of : (words : List (List ℕ)) (change : Change) (status : ℕ) → Ends words change status →
      Answers command Says words change status
  answers_of words change status ends = λ done asked bytes is by shown.
      let went = ends.done done.written done.memory in
      by_ask asked bytes is by shown done.read went.0 went.2 went.3 went.4 (comes_as words change asked went.0 is went.1) where
        by_input : (asked settled : Asked) (bytes : List ℕ) → IsAsk words asked → asked.command ≡ command →
            Settles bytes asked settled → settled.names ≡ asked.names →
            (shown : (files : Files) × (change.files ≡ Some files) × (files (input_name settled) ≡ Some bytes)) → status ≢ 7 →
            (delivery : Delivery) → status ≡ status_number (status_of delivery.report) →
            change.files_after ≡ with_all change.files delivery.stores → Prints change delivery →
            ComesOfInput settled (reach (task_on (most settled) settled)) (IsAnswered (Own settled) settled) change delivery →
            (answer : Answer) × Says settled bytes answer × Delivers settled change status answer
        by_input asked settled bytes is by settles names shown read delivery told stores prints (inl unread) =
            absurd (read (told ∙ ap (λ (d : Delivery). status_number (status_of d.report)) unread.so))
        by_input asked settled bytes is by settles names shown read delivery told stores prints (inr (content, holds, of)) =
            let found = answer_of_bytes (task_on (most settled) settled).source (reach (task_on (most settled) settled))
            (Own settled) settled delivery bytes
            (subst (IsOfBytes (task_on (most settled) settled).source (reach (task_on (most settled) settled))
            (λ refusal. delivery ≡ reported (reports.Refused refusal)) (λ table. IsAnswered (Own settled) settled table delivery))
            (same_bytes change.files shown.0 (input_name settled) content bytes shown.1 shown.2 holds) of) in (
              found.0,
              says words asked settled is by bytes found.0 settles found.1,
              record {
                files = λ place name named. left_with change settled.names (texts_of found.0)
                    (subst (AllPairs (λ one other. one ≢ other)) (sym names) is.names.apart)
                    (stores ∙ ap (λ (d : Delivery). with_all change.files d.stores) found.2) place name named
                    (get_or (texts_of found.0) place None) refl;
                prints = subst (Prints change) found.2 prints;
                told = told ∙ ap (λ (d : Delivery). status_number (status_of d.report)) found.2;
              },
            )

        by_ask : (asked : Asked) (bytes : List ℕ) → IsAsk words asked → asked.command ≡ command →
            (shown : (files : Files) × (change.files ≡ Some files) × (files (input_name asked) ≡ Some bytes)) → status ≢ 7 →
            (delivery : Delivery) → status ≡ status_number (status_of delivery.report) →
            change.files_after ≡ with_all change.files delivery.stores → Prints change delivery →
            ComesOfAsk asked change delivery →
            (settled : Asked) × Settles bytes asked settled × (answer : Answer) × Says settled bytes answer
            × Delivers settled change status answer
        by_ask asked bytes is by shown read delivery told stores prints (inl demo) = absurd (file (sym by ∙ demo.0))
        by_ask asked bytes is by shown read delivery told stores prints (inr (inl unread)) =
            absurd (read (told ∙ ap (λ (d : Delivery). status_number (status_of d.report)) unread.1.so))
        by_ask asked bytes is by shown read delivery told stores prints (inr (inr (settled, (content, holds, settles), comes))) =
            let settles_bytes = subst (λ (bs : List ℕ). Settles bs asked settled)
            (same_bytes change.files shown.0 (input_name asked) content bytes shown.1 shown.2 holds) settles in
            let names = settled_names asked settled bytes settles_bytes in
            let found = by_input asked settled bytes is by settles_bytes names
            (shown.0, shown.1, subst (λ (ns : List (List ℕ)). shown.0 (get_or ns 0 []) ≡ Some bytes) (sym names) shown.2)
            read delivery told stores prints
            (carried settled change delivery (subst (λ (c : Command). IsCarriedOut c settled change delivery) by comes)) in
            (settled, settles_bytes, found.0, found.1, found.2)

pub lays_file : LaidIsLowest → (words : List (List ℕ)) (change : Change) (status : ℕ) → Ends words change status →
    LaysFile words change status
lays_file law = answers_of Lay (λ e. absurd cc) (λ asked. asked.number) (λ asked. IsLaidAs (task_of asked)) _ (λ asked change delivery comes. comes)
    (λ words asked settled is by bytes answer settles. law (task_of settled) bytes answer)

pub narrows_file : NarrowedIsNarrowest → (words : List (List ℕ)) (change : Change) (status : ℕ) → Ends words change status →
    NarrowsFile words change status
narrows_file law = answers_of Narrow (λ e. absurd cc) (λ asked. MAX_PAGE_WIDTH) (λ asked. IsSlimmed (slim_task asked) asked.number) _
    (λ asked change delivery comes. comes)
    (λ words asked settled is by bytes answer settles. law (slim_task settled) settled.number bytes answer)

pub tidies_file : TidiedIsTidiest → (words : List (List ℕ)) (change : Change) (status : ℕ) → Ends words change status →
    TidiesFile words change status
tidies_file law = answers_of Tidy (λ e. absurd cc) (λ asked. asked.number) (λ asked. IsTidiedAs (task_of asked)) _
    (λ asked change delivery comes. comes) (λ words asked settled is by bytes answer settles. law (task_of settled) bytes answer
    (let of_number = subst (λ (command : Command). IsNumberOf command asked.number) by is.in_range in
    settled_range asked settled bytes settles (task_in_range words asked is of_number.least of_number.most)))
