-- A check accepts each certificate that a command has stored, whatever it is stored for; so those of `narrow` and of `tidy`.
use Rattle.std.proofs.Common.{◌≡◌, inl, inr, ℕ, zero, suc, ◌+◌, ◌-◌, ◌≤◌, List, [], ◌∷◌, Contains, Option, Some, None}
use Rattle.std.proofs.Common.{refl, sym, ap, subst, ◌∙◌, arith}
use Rattle.std.specs.Prelude.{◌⊎◌, Bool, true, false}
use Rattle.std.specs.List.{AllByRecursion, slice_get}
use Rattle.std.proofs.lemmas.Option.{MatchOption-at_some, get_or_from_slice_get, same_Some, slice_get_within}
use Rattle.tl_base.specs.declared.limits.TheConstants.{MAX_PAGE_WIDTH}
use Rattle.tl_cert.specs.declared.certificate.Certificate.{Certificate}
use Rattle.tl_cert.specs.Faults.{IsTextOf}
use Rattle.tl_cert.proofs.OneText.{one_certificate}
use Rattle.tl_command.specs.declared.command.Command.{Command}
use Rattle.tl_command.specs.declared.command.Command.TheVariants.{Narrow, Tidy}
use Rattle.tl_command.specs.Ask.{AreNames, Asked}
use Rattle.tl_table.specs.declared.cell.Table.{Table}
use Rattle.tl_narrow.specs.declared.slim.Slim.{Slim}
use Rattle.tl_narrow.specs.Slims.{IsKept, IsLess, IsSlim, IsSpentBetween, trial_between}
use Rattle.tl_lay.specs.declared.answer.Answer.{Answer}
use Rattle.tl_lay.specs.declared.answer.Evidence.{Evidence}
use Rattle.tl_lay.specs.declared.task.Task.{Task}
use Rattle.tl_lay.specs.declared.tidiest.Ending.{Ending}
use Rattle.tl_lay.specs.declared.tidiest.Ending.TheVariants as endings
use Rattle.tl_lay.specs.Answers.{IsTextWanted}
use Rattle.tl_lay.specs.Budgets.{budget_in, reach}
use Rattle.tl_lay.specs.Slimmed.{IsEvidence, IsSlimmed}
use Rattle.tl_lay.specs.Tidied.{IsTidiedAs, tidy_answer}
use Rattle.tl_lay.proofs.NarrowestPages.{IsSlimAnswer, between, is_slim_answer, last_within, met, past}
use Rattle.tl_program.specs.Accepts.{AcceptsSlim, AcceptsStored, AcceptsTidy}
use Rattle.tl_program.specs.Asks.{judged_name}
use Rattle.tl_program.specs.Change.{Change, Stored, with_all}
use Rattle.tl_program.specs.Complete.{IsLaidStatus, IsSlimStatus}
use Rattle.tl_program.specs.Deliveries.{ComesOfInput, Delivery, IsAnswered, evidence_texts, files_of, texts_of}
use Rattle.tl_program.specs.Headline.{Ends, IsCarriedOut}
use Rattle.tl_program.specs.Tasks.{slim_task, task_of, task_on}
use Rattle.tl_program.proofs.Accepting.{IsValidSomewhere, accepted, by_laid}
use Rattle.tl_program.proofs.InputRuns.{IsOwnStatus, input_run}
use Rattle.tl_program.proofs.LaidRuns.{own_laid}
use Rattle.tl_program.proofs.NamedFiles.{StandsAt, stands_at}
use Rattle.tl_program.proofs.SlimRuns.{own_slim}

-- ---- texts of certificates

-- a text is that of one certificate
that_certificate : (certified : Bool) (one : Option Certificate) (text : List ℕ) (certificate : Certificate) →
    IsTextWanted certified one (Some text) → IsTextOf text certificate → one ≡ Some certificate
that_certificate certified None text certificate is text_is = absurd cc
that_certificate true (Some one) text certificate is text_is = ap Some (one_certificate text one certificate
    (subst (λ (t : List ℕ). IsTextOf t one) (sym (same_Some _ _ is.0)) is.1) text_is)
that_certificate false (Some one) text certificate is text_is = let none = is.0 in absurd cc

-- where there is a text, the certificate that it is that of is valid
abbrev IsOfValid : Task → Table → Option (List ℕ) → Type 0
IsOfValid task table found = (text : List ℕ) (certificate : Certificate) → found ≡ Some text → IsTextOf text certificate →
    IsValidSomewhere task table certificate

-- so it is where the certificate that the text was made of is valid
of_valid : (task : Task) (table : Table) (one : Option Certificate) (found : Option (List ℕ)) →
    ((certificate : Certificate) → one ≡ Some certificate → IsValidSomewhere task table certificate) →
    IsTextWanted task.certified one found → IsOfValid task table found
of_valid task table one found valid is = λ text certificate there text_is. valid certificate
    (that_certificate task.certified one text certificate (subst (IsTextWanted task.certified one) there is) text_is)

-- the texts of an answer: none under the first name, that of a page, and behind it those of valid certificates
record AreOfValid (task : Task) (table : Table) (texts : List (Option (List ℕ))) : Type 0 where
  page : Option (List ℕ)
  certificates : List (Option (List ℕ))
  are : texts ≡ None ∷ page ∷ certificates
  each : AllByRecursion (IsOfValid task table) certificates

-- each certificate that a search for the narrowest page tells is valid, and so the texts of what is known of that page are such
module _ (task : Task) (table : Table) (height : ℕ) (slim : Slim) (evidence : Evidence)
    (tells : IsSlim table task.style height task.width (budget_in task table) slim)
    (is : IsEvidence task table height slim evidence) where
  -- that of the page that was found
  kept_valid : (certificate : Certificate) → slim.kept ≡ Some certificate → IsValidSomewhere task table certificate
  kept_valid certificate same = let kept = MatchOption-at_some (slim.width ≡ 0)
      (IsKept table task.style height task.width (budget_in task table) slim.width) certificate same tells.between.kept in
      record { page = slim.width; within = tells.between.width_within; valid = kept.shown.valid }

  -- that of a page that is too narrow
  less_valid : (certificate : Certificate) → slim.less ≡ Some certificate → IsValidSomewhere task table certificate
  less_valid certificate same = let less = MatchOption-at_some (slim.least ≡ 1)
      (IsLess table task.style height task.width (budget_in task table) slim.least) certificate same tells.between.less in
      let most = tells.between.least_within in
      record { page = slim.least - 1; within = omega (arith, most); valid = less.shown.valid }

  -- and that of a page that could not be decided
  spent_valid : (certificate : Certificate) → slim.spent ≡ Some certificate → IsValidSomewhere task table certificate
  spent_valid certificate same = let spent = MatchOption-at_some ((slim.width ≡ slim.least) ⊎ (slim.least ≡ task.width + 1))
      (IsSpentBetween table task.style height task.width (budget_in task table) slim.least slim.width) certificate same
      tells.spent in
      record {
        page = trial_between task.width slim.least slim.width;
        within = last_within task.width slim tells.between.width_within tells.between.ordered;
        valid = spent.shown.valid;
      }

  -- so all three are
  evidence_valid : (answer : Answer) → texts_of answer ≡ None ∷ evidence_texts evidence → AreOfValid task table (texts_of answer)
  evidence_valid answer are = record {
    page = evidence.page;
    certificates = evidence.kept ∷ evidence.less ∷ evidence.spent ∷ [];
    are = are;
    each = (
      of_valid task table slim.kept evidence.kept kept_valid is.kept,
      (
        of_valid task table slim.less evidence.less less_valid is.less,
        (of_valid task table slim.spent evidence.spent spent_valid is.spent, tt),
      ),
    );
  }

-- ---- under a name

-- what holds of each item holds of the one at a place
each_at : {X : Type 0} (P : X → Type 0) (xs : List X) → AllByRecursion P xs → (place : ℕ) (x : X) →
    slice_get xs place ≡ Some x → P x
each_at P [] all place x is = absurd cc
each_at P (first ∷ xs) all zero x is = subst P (same_Some first x is) all.0
each_at P (first ∷ xs) all (suc place) x is = each_at P xs all.1 place x is

-- a text that is stored under a name behind the page's is that of a valid certificate
valid_at : (task : Task) (table : Table) (texts : List (Option (List ℕ))) (names : List (List ℕ)) (one : Stored) (place : ℕ)
    (certificate : Certificate) (has : AreOfValid task table texts) → AreNames names → 2 ≤ place →
    slice_get names place ≡ Some one.name → StandsAt names (None ∷ has.page ∷ has.certificates) one →
    IsTextOf one.bytes certificate → IsValidSomewhere task table certificate
valid_at task table texts names one place certificate has are behind named stands text_is =
    by_place stands.place stands.named stands.is where
      by_place : (at : ℕ) → slice_get names at ≡ Some one.name →
          slice_get (None ∷ has.page ∷ has.certificates) at ≡ Some (Some one.bytes) → IsValidSomewhere task table certificate
      by_place zero same is = absurd cc
      by_place (suc zero) same is = absurd (are.apart 1 place [] (omega (arith, behind))
          (slice_get_within names place one.name named)
          (get_or_from_slice_get names 1 one.name [] same ∙ sym (get_or_from_slice_get names place one.name [] named)))
      by_place (suc (suc at)) same is =
          each_at (IsOfValid task table) has.certificates has.each at (Some one.bytes) is one.bytes certificate refl text_is

-- ---- the check

-- for a command whose answers, on pages of up to so many columns, have such texts
module _ (command : Command) (most : Asked → ℕ) (IsMeant : ℕ → Type 0) (Own : Asked → Table → Answer → Type 0)
    (own_status : (told : ℕ) → IsMeant told → IsOwnStatus told)
    (carried : (asked : Asked) (change : Change) (delivery : Delivery) → IsCarriedOut command asked change delivery →
    ComesOfInput asked (reach (task_on (most asked) asked)) (IsAnswered (Own asked) asked) change delivery)
    (has_texts : (asked : Asked) (table : Table) (answer : Answer) → Own asked table answer →
    AreOfValid (task_on (most asked) asked) table (texts_of answer)) where
  -- a check of one that is stored accepts it
  accepts_stored : (words : List (List ℕ)) (change : Change) (status : ℕ) → Ends words change status →
      AcceptsStored command (λ (asked : Asked). task_on (most asked) asked) IsMeant words change status
  accepts_stored words change status ends = λ earlier before asked checked delivery certificate text files is_asked is_check same
      delivers there text_is left found quiet.
      let run = input_run asked (reach (task_on (most asked) asked)) (IsAnswered (Own asked) asked) before delivery
      (own_status _ delivers.so) (carried asked before delivery delivers.comes) in
      let has = has_texts asked run.table run.own.answer run.own.is in
      let rest : List (Option (List ℕ)) = has.page ∷ has.certificates in
      let one : Stored = record { name = judged_name checked; bytes = text } in
      let stores : delivery.stores ≡ files_of asked.names (None ∷ rest) =
      ap (λ (d : Delivery). d.stores) run.own.so ∙ ap (files_of asked.names) has.are in
      let stands = stands_at asked.names (None ∷ rest) one (subst (λ stores. Contains stores one) stores there) in
      accepted words change status ends most before.files asked checked certificate text files is_asked.is.names is_check same
      run.content run.table run.holds run.read run.near rest
      (sym (delivers.stores ∙ ap (with_all before.files) stores) ∙ left) stands text_is
      (valid_at (task_on (most asked) asked) run.table (texts_of run.own.answer) asked.names one same.place certificate has
      is_asked.is.names same.past_page same.named stands text_is) found quiet

-- ---- the commands

-- what is known of the narrowest page gives the texts, whatever is answered with it
slim_texts : {task : Task} {height : ℕ} {slim : Slim} {evidence : Evidence} {answer : Answer} →
    IsSlimAnswer task height slim evidence answer → texts_of answer ≡ None ∷ evidence_texts evidence
slim_texts (met same) = refl
slim_texts (between apart few) = refl
slim_texts (past apart more) = refl

-- so it is for `tidy`
tidy_texts : (ending : Ending) (evidence : Evidence) → texts_of (tidy_answer ending evidence) ≡ None ∷ evidence_texts evidence
tidy_texts (endings.Tidy height width) evidence = refl
tidy_texts (endings.Wider width least) evidence = refl
tidy_texts endings.Unchosen evidence = refl

-- a check accepts each certificate that `narrow` has stored
pub accepts_slim : (words : List (List ℕ)) (change : Change) (status : ℕ) → Ends words change status →
    AcceptsSlim words change status
accepts_slim = accepts_stored Narrow (λ asked. MAX_PAGE_WIDTH) IsSlimStatus (λ asked. IsSlimmed (slim_task asked) asked.number)
    own_slim (λ asked change delivery comes. comes)
    (λ asked table answer own. evidence_valid (slim_task asked) table asked.number own.slim own.evidence own.found.tells
    own.is_evidence answer
    (ap texts_of own.so ∙ slim_texts (is_slim_answer (slim_task asked) asked.number own.slim own.evidence)))

-- the texts of a page that was trimmed, or those of a layout
tidy_valid : (asked : Asked) (table : Table) (answer : Answer) → IsTidiedAs (task_of asked) table answer →
    AreOfValid (task_of asked) table (texts_of answer)
tidy_valid asked table answer (inl own) = evidence_valid (task_of asked) table own.height own.told own.evidence own.tells
    own.is_evidence answer (ap texts_of own.so ∙ tidy_texts own.ending own.evidence)
tidy_valid asked table answer (inr early) =
    let wrote = by_laid (task_of asked) table early.0 in
    record {
      page = wrote.page;
      certificates = wrote.text ∷ [];
      are = wrote.are;
      each = (
        of_valid (task_of asked) table (Some wrote.certificate) wrote.text (λ certificate same.
            subst (IsValidSomewhere (task_of asked) table) (same_Some _ _ same)
            (record { page = asked.number; within = omega arith; valid = wrote.valid })) wrote.is_text,
        tt,
      );
    }

-- and each that `tidy` has
pub accepts_tidy : (words : List (List ℕ)) (change : Change) (status : ℕ) → Ends words change status →
    AcceptsTidy words change status
accepts_tidy = accepts_stored Tidy (λ asked. asked.number) IsLaidStatus (λ asked. IsTidiedAs (task_of asked)) own_laid
    (λ asked change delivery comes. comes) tidy_valid
