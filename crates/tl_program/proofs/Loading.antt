-- How a command on a file ends: by what its bytes come to.
use Rattle.std.proofs.Common.{◌≡◌, inl, inr, ℕ, ◌+◌, ◌≤◌, List, [], ◌∷◌, length, Option, None, refl, sym, ◌∙◌, ap, subst}
use Rattle.std.specs.Prelude.{IfOk, IfSome, Result, Ok, Err}
use Rattle.std.specs.declared.alloc.AllocError.{AllocError}
use Rattle.tl_base.specs.declared.desk.Desk.{Ghosts}
use Rattle.tl_base.specs.declared.limits.TheConstants.{MAX_FILE_BYTES}
use Rattle.tl_base.specs.Desk.{Files, IsReadFrom}
use Rattle.tl_command.specs.Ask.{Asked}
use Rattle.tl_table.specs.declared.cell.Table.{Table}
use Rattle.tl_read.specs.declared.refusal.Refusal.{Refusal}
use Rattle.tl_read.specs.declared.source.Source.{Source}
use Rattle.tl_lay.specs.declared.answer.Answer.{Answer}
use Rattle.tl_lay.specs.declared.answer.Answer.TheVariants as answers
use Rattle.tl_lay.specs.Budgets.{reach}
use Rattle.tl_lay.specs.Answers as below
use Rattle.tl_lay.specs.Inputs.{IsOfBytes}
use Rattle.tl_lay.proofs.Inputs.{of_bytes_mapped, of_content}
use Rattle.tl_program.specs.declared.report.Report.TheVariants as reports
use Rattle.tl_program.specs.declared.status.Status.{Status}
use Rattle.tl_program.specs.Asks.{input_name}
use Rattle.tl_program.specs.Change.{Change, Stored, between}
use Rattle.tl_program.specs.Deliveries.{ComesOfInput, Delivery, IsAnswered, IsOfFile, delivery_of, files_of, reported}
use Rattle.tl_program.specs.Headline.{ComesOf, Ends}
use Rattle.tl_program.specs.Messages.{status_number}
use Rattle.tl_program.specs.Tasks.{task_on}
use Rattle.tl_program.specs.inner.Printing.{IsDelivered}
use Rattle.tl_program.specs.inner.Steps.{DeliversResult, RunsOut}
use Rattle.tl_program.proofs.Contents.{content_of}
use Rattle.tl_program.proofs.Ends.{delivered_ends, ends_memory}
use Rattle.tl_program.proofs.Storing.{delivered_from}

-- ---- the bytes of a file

-- the bytes were loaded from the file of this name
pub record IsLoadedFrom (files : Option Files) (name bytes : List ℕ) : Type 0 where
  pub short : length bytes ≤ MAX_FILE_BYTES + 1
  pub read : IfSome files (λ held. IsReadFrom held name MAX_FILE_BYTES bytes)

-- what comes of bytes that were loaded comes of the file
pub of_loaded : (source : Source) (reach : Table → ℕ) (Refuses : Refusal → Type 0) (Own : Table → Type 0) (files : Option Files)
    (name bytes : List ℕ) → IsLoadedFrom files name bytes → IsOfBytes source reach Refuses Own bytes →
    IsOfFile source reach Refuses Own files name
of_loaded source reach Refuses Own files name bytes loaded of =
    let content = content_of MAX_FILE_BYTES files name bytes loaded.short loaded.read in
    (content.0, content.1, of_content source reach Refuses Own content.0 bytes content.2 of)

-- ---- after the load

-- the second change begins where the file has been loaded, and ends where the first does
pub record Follows (change second : Change) : Type 0 where
  pub files : second.files ≡ change.files
  pub files_after : second.files_after ≡ change.files_after
  pub said : second.said ≡ change.said
  pub said_after : second.said_after ≡ change.said_after
  pub writes : second.write_faults ≡ change.write_faults
  pub writes_after : second.write_faults_after ≡ change.write_faults_after

-- so it is after a load, which changes no file and prints nothing
pub follows_load : {Desk : Type 0} (shown : Ghosts Desk) (before loaded after : Desk) → shown.files loaded ≡ shown.files before →
    shown.said loaded ≡ shown.said before → shown.write_faults loaded ≡ shown.write_faults before →
    Follows (between shown before after) (between shown loaded after)
follows_load shown before loaded after files said writes = record {
  files = files;
  files_after = refl;
  said = said;
  said_after = refl;
  writes = writes;
  writes_after = refl;
}

module _ (words : List (List ℕ)) (change second : Change) (status : Status) (follows : Follows change second) where
  -- what is delivered after the load ends the program
  pub delivery_ends : (delivery : Delivery) → ComesOf words change delivery → IsDelivered status second delivery →
      Ends words change (status_number status)
  delivery_ends delivery comes delivered = delivered_ends words change status delivery comes
      (delivered_from status change second delivery follows.files follows.files_after follows.said follows.said_after
      follows.writes follows.writes_after delivered)

  -- and so does want of memory
  pub memory_ends : RunsOut status second → Ends words change (status_number status)
  memory_ends (memory, files, said) = subst (λ (s : Status). Ends words change (status_number s)) (sym memory)
      (ends_memory words change (sym follows.said_after ∙ said ∙ follows.said)
      (inl (sym follows.files_after ∙ files ∙ follows.files)))

-- ---- an answer

-- no file is stored of no text
pub none_named : (names : List (List ℕ)) → files_of names (None ∷ []) ≡ []
none_named [] = refl
none_named (name ∷ []) = refl
none_named (name ∷ other ∷ names) = refl

-- what a call answers is what comes of the bytes, where it is delivered
answered_bytes : (source : Source) (reach : Table → ℕ) (Own : Table → Answer → Type 0) (asked : Asked) (bytes : List ℕ)
    (answer : Answer) →
    IsOfBytes source reach (λ refusal. answer ≡ answers.Refused refusal) (λ table. Own table answer) bytes →
    IsOfBytes source reach (λ refusal. delivery_of asked answer ≡ reported (reports.Refused refusal))
    (λ table. IsAnswered Own asked table (delivery_of asked answer)) bytes
answered_bytes source reach Own asked bytes answer = of_bytes_mapped source reach
    (λ refusal. answer ≡ answers.Refused refusal) (λ refusal. delivery_of asked answer ≡ reported (reports.Refused refusal))
    (λ table. Own table answer) (λ table. IsAnswered Own asked table (delivery_of asked answer))
    (λ refusal same. ap (delivery_of asked) same
    ∙ ap (λ (stores : List Stored). record { report = reports.Refused refusal; most = None; stores = stores }) (none_named asked.names))
    (λ table is. record { answer = answer; is = is; so = refl }) bytes

-- what a call returned for the bytes of a file ends the program
pub result_ends : (words : List (List ℕ)) (change second : Change) (status : Status) (width : ℕ) (asked : Asked)
    (Own : Table → Answer → Type 0) (bytes : List ℕ) (result : Result Answer AllocError) → Follows change second →
    IsLoadedFrom change.files (input_name asked) bytes →
    ((delivery : Delivery) → ComesOfInput asked (reach (task_on width asked)) (IsAnswered Own asked) change delivery →
    ComesOf words change delivery) → IfOk result (below.IsAnswered (task_on width asked) Own bytes) →
    DeliversResult asked result status second → Ends words change (status_number status)
result_ends words change second status width asked Own bytes (Err error) follows loaded comes is out =
    memory_ends words change second status follows out
result_ends words change second status width asked Own bytes (Ok answer) follows loaded comes is (inr out) =
    memory_ends words change second status follows out
result_ends words change second status width asked Own bytes (Ok answer) follows loaded comes is (inl delivered) =
    delivery_ends words change second status follows (delivery_of asked answer)
    (comes (delivery_of asked answer) (inr (of_loaded (task_on width asked).source (reach (task_on width asked))
    (λ refusal. delivery_of asked answer ≡ reported (reports.Refused refusal))
    (λ table. IsAnswered Own asked table (delivery_of asked answer)) change.files (input_name asked) bytes loaded
    (answered_bytes (task_on width asked).source (reach (task_on width asked)) Own asked bytes answer is)))) delivered
