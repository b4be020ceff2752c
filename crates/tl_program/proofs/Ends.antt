-- How a run ends, from what was stored and printed; and that it is complete.
use Rattle.std.proofs.Common.{◌≡◌, ◌≢◌, ◌⊎◌, inl, inr, ℕ, List, []}
use Rattle.std.proofs.Common.{Option, Some, refl, sym, ◌∙◌, ap, subst, arith}
use Rattle.std.specs.Prelude.{Bool, true, false, ◌==◌, if◌then◌else◌, bytes_eq}
use Rattle.std.proofs.lemmas.Bool.Decides.{eqb_tells}
use Rattle.std.proofs.lemmas.Bool.{false_from_ne_true}
use Rattle.std.proofs.lemmas.Slice.Eq.{bytes_eq-Decides}
use Rattle.tl_base.specs.Desk.{Files, Rose, SaysPrefix, longer}
use Rattle.tl_base.proofs.Options.{Some-same}
use Rattle.tl_command.specs.declared.command.Command.{Command}
use Rattle.tl_command.specs.Ask.{Asked}
use Rattle.tl_table.specs.declared.cell.Table.{Table}
use Rattle.tl_table.specs.Same.{AreSame}
use Rattle.tl_read.specs.declared.reading.Reading.TheVariants as readings
use Rattle.tl_read.specs.declared.refusal.Refusal.{Refusal}
use Rattle.tl_read.specs.declared.refusal.Refusal.TheVariants as refusals
use Rattle.tl_program.specs.declared.report.Report.{Report}
use Rattle.tl_program.specs.declared.report.Report.TheVariants as reports
use Rattle.tl_program.specs.declared.status.Status.{Status}
use Rattle.tl_program.specs.declared.status.Status.TheVariants as statuses
use Rattle.tl_lay.specs.Budgets.{reach}
use Rattle.tl_program.specs.Asks.{IsAskOf, input_name}
use Rattle.tl_program.specs.Change.{Change, Holds, StoresSome, FailsToStore, DoesNotFail, with_all}
use Rattle.tl_program.specs.Complete.{ShowsFile, SpellsTable}
use Rattle.tl_program.specs.Headline.{ComesOf, IsCarriedOut, Ends}
use Rattle.tl_lay.specs.Inputs.{IsOfBytes}
use Rattle.tl_program.specs.Messages.{status_number, status_of, message_of, message_with}
use Rattle.tl_program.specs.Deliveries.{ComesOfInput, Delivery, reported, told}
use Rattle.tl_program.specs.Tasks.{task_on}
use Rattle.tl_read.specs.Reading.{IsReading}
use Rattle.tl_program.specs.inner.Printing.{IsPrinted, IsDelivered}
use Rattle.tl_program.specs.inner.Steps.{EndsUnread}
use Rattle.tl_lay.proofs.SameBudgets.{same_reach}
use Rattle.tl_program.specs.Settled.{IsAskFor}
use Rattle.tl_program.proofs.Asking.{carried_as, carried_for, none_carried, none_fitted}
use Rattle.tl_lay.proofs.Inputs.{own_of, refusal_of}
use Rattle.tl_program.proofs.Storing.{some_all}

-- ---- how the program ends

module _ (words : List (List ℕ)) (change : Change) where
  -- a status that is neither of two
  ends_done : (status : Status) (delivery : Delivery) → ComesOf words change delivery → status ≡ status_of delivery.report →
      change.files_after ≡ with_all change.files delivery.stores →
      change.said_after ≡ longer change.said (told delivery) →
      (status_number status ≡ 8 → ⊥) → (status_number status ≡ 9 → ⊥) → Ends words change (status_number status)
  ends_done status delivery becomes is stored printed fault memory = record {
    done = λ a b. (delivery, becomes, ap status_number is, stored, printed);
    write_fault = λ same. absurd (fault same);
    memory = λ same. absurd (memory same);
  }

  pub ends_fault : (delivery : Delivery) → ComesOf words change delivery → Rose change.write_faults change.write_faults_after →
      ((FailsToStore change.files change.files_after delivery.stores × (change.said_after ≡ change.said))
      ⊎ ((change.files_after ≡ with_all change.files delivery.stores) ×
      SaysPrefix change.said change.said_after (told delivery))) →
      Ends words change 8
  ends_fault delivery becomes rose stands = record {
    done = λ a b. absurd (a refl);
    write_fault = λ same. (rose, delivery, becomes, stands);
    memory = λ same. absurd (omega (arith, same));
  }

  pub ends_memory : (change.said_after ≡ change.said) → ((change.files_after ≡ change.files)
      ⊎ ((delivery : Delivery) × ComesOf words change delivery × StoresSome change.files change.files_after delivery.stores)) →
      Ends words change 9
  ends_memory said stands = record {
    done = λ a b. absurd (b refl);
    write_fault = λ same. absurd (omega (arith, same));
    memory = λ same. (said, stands);
  }

  -- no report has the status of a fault
  report_fault : (report : Report) → status_number (status_of report) ≡ 8 → ⊥
  report_fault (reports.Lowest height width) e = omega (arith, e)
  report_fault (reports.Bounded height lower width) e = omega (arith, e)
  report_fault (reports.Narrow least width) e = omega (arith, e)
  report_fault (reports.Slimmest width height) e = omega (arith, e)
  report_fault (reports.Between width least) e = omega (arith, e)
  report_fault (reports.TooTall height) e = omega (arith, e)
  report_fault (reports.Tidy height width) e = omega (arith, e)
  report_fault (reports.Wider width least) e = omega (arith, e)
  report_fault reports.Unchosen e = omega (arith, e)
  report_fault (reports.Refused (refusals.BadInput fault place)) e = omega (arith, e)
  report_fault (reports.Refused (refusals.Overlap table row column)) e = omega (arith, e)
  report_fault (reports.Refused (refusals.Limit limit number)) e = omega (arith, e)
  report_fault (reports.Refused (refusals.BadRecord fault place)) e = omega (arith, e)
  report_fault (reports.Rejected rejection) e = omega (arith, e)
  report_fault (reports.Summary summary) e = by_test (summary.lower == summary.height) e where
    by_test : (closed : Bool) → status_number (if closed then statuses.Lowest else statuses.Bounded) ≡ 8 → ⊥
    by_test true e = omega (arith, e)
    by_test false e = omega (arith, e)
  report_fault reports.Usage e = omega (arith, e)
  report_fault reports.ReadFault e = omega (arith, e)

  report_memory : (report : Report) → status_number (status_of report) ≡ 9 → ⊥
  report_memory (reports.Lowest height width) e = omega (arith, e)
  report_memory (reports.Bounded height lower width) e = omega (arith, e)
  report_memory (reports.Narrow least width) e = omega (arith, e)
  report_memory (reports.Slimmest width height) e = omega (arith, e)
  report_memory (reports.Between width least) e = omega (arith, e)
  report_memory (reports.TooTall height) e = omega (arith, e)
  report_memory (reports.Tidy height width) e = omega (arith, e)
  report_memory (reports.Wider width least) e = omega (arith, e)
  report_memory reports.Unchosen e = omega (arith, e)
  report_memory (reports.Refused (refusals.BadInput fault place)) e = omega (arith, e)
  report_memory (reports.Refused (refusals.Overlap table row column)) e = omega (arith, e)
  report_memory (reports.Refused (refusals.Limit limit number)) e = omega (arith, e)
  report_memory (reports.Refused (refusals.BadRecord fault place)) e = omega (arith, e)
  report_memory (reports.Rejected rejection) e = omega (arith, e)
  report_memory (reports.Summary summary) e = by_test (summary.lower == summary.height) e where
    by_test : (closed : Bool) → status_number (if closed then statuses.Lowest else statuses.Bounded) ≡ 9 → ⊥
    by_test true e = omega (arith, e)
    by_test false e = omega (arith, e)
  report_memory reports.Usage e = omega (arith, e)
  report_memory reports.ReadFault e = omega (arith, e)

  -- what is delivered ends the program
  pub delivered_ends : (result : Status) (delivery : Delivery) → ComesOf words change delivery →
      IsDelivered result change delivery →
      Ends words change (status_number result)
  delivered_ends result delivery becomes (inl is) =
      ends_done result delivery becomes is.0 is.1 is.2
      (λ e. report_fault delivery.report (sym (ap status_number is.0) ∙ e))
      (λ e. report_memory delivery.report (sym (ap status_number is.0) ∙ e))
  delivered_ends result delivery becomes (inr (inl is)) =
      subst (λ (s : Status). Ends words change (status_number s)) (sym is.0) (ends_fault delivery becomes is.1 is.2)
  delivered_ends result delivery becomes (inr (inr is)) =
      subst (λ (s : Status). Ends words change (status_number s)) (sym is.0) (ends_memory is.1 (inr (delivery, becomes, is.2)))

  -- a message alone ends it
  pub printed_ends : (result : Status) (report : Report) → let delivery : Delivery = reported report in
      ComesOf words change delivery → change.files_after ≡ change.files →
      IsPrinted (status_of report) result change (message_of report) →
      Ends words change (status_number result)
  printed_ends result report becomes stay printed = delivered_ends result (reported report) becomes
      (delivered printed) where
        delivered : IsPrinted (status_of report) result change (message_of report) →
            IsDelivered result change (reported report)
        delivered (inl is) = inl (is.0, stay, is.1)
        delivered (inr (inl is)) = inr (inl (is.0, is.1, inr (stay, is.2)))
        delivered (inr (inr is)) = inr (inr (is.0, is.1, some_all change.files change.files_after [] stay))

-- a file that could not be read ends the program, whatever was asked for of it
pub unread_ends : (change : Change) (status : Status) → Rose change.load_faults change.load_faults_after →
    IsDelivered status change (reported reports.ReadFault) → EndsUnread change status
unread_ends change status rose delivered words comes = delivered_ends words change status (reported reports.ReadFault)
    (comes (reported reports.ReadFault) (record { rose = rose; so = refl })) delivered

-- and so does want of memory, before anything is stored
pub memory_unread : (change : Change) → change.files_after ≡ change.files → change.said_after ≡ change.said →
    EndsUnread change statuses.Memory
memory_unread change files said words comes = ends_memory words change said (inl files)

-- ---- completeness

-- two names that differ are told apart
pub other_bytes : (name other : List ℕ) → other ≢ name → bytes_eq name other ≡ false
other_bytes name other apart = false_from_ne_true (bytes_eq name other)
    (λ same. apart (sym ((bytes_eq-Decides name other).0 same)))

-- a name has one content
pub same_bytes : (files : Option Files) (held : Files) (name one bytes : List ℕ) → files ≡ Some held → held name ≡ Some bytes →
    Holds files name one → one ≡ bytes
same_bytes files held name one bytes are has holds =
    let is_held : held name ≡ Some one = subst (λ (f : Option Files). Holds f name one) are holds in
    Some-same (sym is_held ∙ has)

-- the message where no number is found of words
pub plain_told : (words : List (List ℕ)) (command : Command) (asked : Asked) (delivery : Delivery) (change : Change) →
    IsAskOf command words asked → IsCarriedOut command asked change delivery →
    longer change.said (told delivery) ≡ longer change.said (message_of delivery.report)
plain_told words command asked delivery change is carried =
    ap (λ (most : Option ℕ). longer change.said (message_with most delivery.report))
    (none_carried asked (none_fitted words asked is.is) delivery command change carried)

-- what a run which did not fail delivered
pub went : (words : List (List ℕ)) (change : Change) (status : ℕ) (command : Command) (asked : Asked) → Ends words change status →
    IsAskOf command words asked → DoesNotFail change →
    ((delivery : Delivery) × IsCarriedOut command asked change delivery × (status ≡ status_number (status_of delivery.report))
    × (change.said_after ≡ longer change.said (message_of delivery.report))) ⊎ (status ≡ 9)
went words change status command asked ends is quiet = elim (eqb_tells status 9) [
  | inl nine ↦ inr nine.1
  | inr other ↦ elim (eqb_tells status 8) [
    | inl eight ↦ absurd (quiet.write (ends.write_fault eight.1).0)
    | inr another ↦
        let done = ends.done another.1 other.1 in
        let carried = carried_as words change command asked done.0 is done.1 in
        inl (done.0, carried, done.2, done.4 ∙ plain_told words command asked done.0 change is carried)
  ]
]

-- and what it delivered of what is asked of the bytes of the file
pub went_for : (words : List (List ℕ)) (change : Change) (status : ℕ) (command : Command) (asked : Asked) (bytes : List ℕ) →
    Ends words change status → IsAskFor command words bytes asked → ShowsFile change (input_name asked) bytes →
    DoesNotFail change →
    ((delivery : Delivery) × IsCarriedOut command asked change delivery × (status ≡ status_number (status_of delivery.report)))
    ⊎ (status ≡ 9)
went_for words change status command asked bytes ends is shown quiet = elim (eqb_tells status 9) [
  | inl nine ↦ inr nine.1
  | inr other ↦ elim (eqb_tells status 8) [
    | inl eight ↦ absurd (quiet.write (ends.write_fault eight.1).0)
    | inr another ↦
        let done = ends.done another.1 other.1 in
        inl (
          done.0,
          carried_for words change command asked bytes done.0 is
              (λ one holds. same_bytes change.files shown.0 (input_name asked) one bytes shown.1 shown.2 holds) done.1,
          done.2,
        )
  ]
]

-- what comes of a file that spells a table within the reach, or that is refused
module _ (width : ℕ) (asked : Asked) (Own : Table → Delivery → Type 0) (change : Change) (delivery : Delivery)
    (comes : ComesOfInput asked (reach (task_on width asked)) Own change delivery) (bytes : List ℕ)
    (shown : ShowsFile change (input_name asked) bytes)
    (quiet : DoesNotFail change) where
  abbrev passed : Refusal → Type 0
  passed refusal = delivery ≡ reported (reports.Refused refusal)

  -- what comes of the bytes that the file holds
  of_bytes : IsOfBytes (task_on width asked).source (reach (task_on width asked)) passed (λ table. Own table delivery) bytes
  of_bytes = elim comes [
    | inl unread ↦ absurd (quiet.load unread.rose)
    | inr of ↦ subst (IsOfBytes (task_on width asked).source (reach (task_on width asked)) passed (λ table. Own table delivery))
        (same_bytes change.files shown.0 (input_name asked) of.0 bytes shown.1 shown.2 of.1) of.2
  ]

  pub own_input : (table : Table) → SpellsTable (task_on width asked) bytes table →
      (found : Table) × AreSame found table × Own found delivery
  own_input table spells = own_of (task_on width asked).source (reach (task_on width asked)) passed (λ t. Own t delivery) bytes table of_bytes
      spells.read (same_reach (task_on width asked)) spells.within

  pub refused_input : (refusal : Refusal) → IsReading (task_on width asked).source bytes (readings.Refused refusal) → passed refusal
  refused_input refusal =
      refusal_of (task_on width asked).source (reach (task_on width asked)) passed (λ t. Own t delivery) bytes refusal of_bytes
