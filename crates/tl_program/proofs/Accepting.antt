-- A check accepts the text of a certificate that a command has stored: one proof for each command, and `lay`.
use Rattle.std.proofs.Common.{◌≡◌, ◌≢◌, ◌⊎◌, inl, inr, ℕ, ◌*◌, ◌≤◌, List, [], ◌∷◌, get_or, Option, Some, None}
use Rattle.std.proofs.Common.{refl, sym, ap, subst, ◌∙◌, arith}
use Rattle.std.specs.Prelude.{Bool, true, is_some}
use Rattle.std.specs.List.{AllPairs}
use Rattle.std.proofs.lemmas.Nat.{mul-le}
use Rattle.tl_base.specs.declared.limits.TheConstants.{MAX_REACH}
use Rattle.tl_base.specs.Desk.{Files}
use Rattle.tl_cert.specs.declared.certificate.Certificate.{Certificate}
use Rattle.tl_cert.specs.declared.certificate.Claim.{Claim}
use Rattle.tl_cert.specs.declared.certificate.Claim.TheVariants as claims
use Rattle.tl_cert.specs.Faults.{IsTextOf}
use Rattle.tl_cert.specs.Text.{cert_text}
use Rattle.tl_command.specs.declared.command.Command.TheVariants.{Check}
use Rattle.tl_command.specs.Ask.{AreNames, Asked}
use Rattle.tl_table.specs.declared.cell.Table.{Table}
use Rattle.tl_table.specs.Sound.{nested_in_table}
use Rattle.tl_form.specs.Valid.{IsValid}
use Rattle.tl_read.specs.declared.reading.Reading.TheVariants as readings
use Rattle.tl_read.specs.Reading.{IsReading}
use Rattle.tl_lay.specs.declared.answer.Answer.{Answer}
use Rattle.tl_lay.specs.declared.answer.Answer.TheVariants as answers
use Rattle.tl_lay.specs.declared.task.Task.{Task}
use Rattle.tl_lay.specs.Answers.{Certifies, IsLaidAs, IsTextWanted, lowest_laid, bounded_laid, narrow_laid}
use Rattle.tl_lay.specs.Budgets.{budget_in, reach, searches}
use Rattle.tl_lay.specs.Checks.{IsValidIn}
use Rattle.tl_program.specs.Accepts.{AsksForStored}
use Rattle.tl_program.specs.Asks.{IsAskOf, input_name, judged_name}
use Rattle.tl_program.specs.Change.{Change, DoesNotFail, Holds, with_all}
use Rattle.tl_program.specs.Complete.{SpellsTable, claim_status, AcceptsLaid}
use Rattle.tl_program.specs.Deliveries.{files_of, texts_of}
use Rattle.tl_program.specs.Headline.{Ends}
use Rattle.tl_program.specs.Messages.{status_number, status_of}
use Rattle.tl_program.specs.Reports.{report_of}
use Rattle.tl_program.specs.Tasks.{task_of, task_on}
use Rattle.tl_program.proofs.Asking.{ask_for}
use Rattle.tl_program.proofs.Checked.{accepted_so}
use Rattle.tl_program.proofs.LaidRuns.{laid_run}
use Rattle.tl_program.proofs.NamedFiles.{HasOtherNames, StandsAt, first_apart, holds_through, named_otherwise, text_there}

-- ---- the check

-- a certificate of the table that is valid on a page that is no wider than the one that is asked for
pub record IsValidSomewhere (task : Task) (table : Table) (certificate : Certificate) : Type 0 where
  pub page : ℕ
  pub within : page ≤ task.width
  pub valid : IsValid table task.style page (budget_in task table) certificate

-- on a narrower page there are no more searches
fewer_searches : (table : Table) (narrow wide : ℕ) → narrow ≤ wide → searches table narrow ≤ searches table wide
fewer_searches table narrow wide le =
    omega (arith, mul-le (nested_in_table table) narrow (nested_in_table table) wide (omega arith) le)

-- a run on pages of up to so many columns has read the table and stored texts, none of them under the first name, and a check is
-- of one of them, which is that of such a certificate
module _ (words : List (List ℕ)) (change : Change) (status : ℕ) (ends : Ends words change status) (most : Asked → ℕ)
    (before : Option Files) (asked checked : Asked) (certificate : Certificate) (text : List ℕ) (files : Files)
    (names : AreNames asked.names) (is_check : IsAskOf Check words checked)
    (same : AsksForStored before (λ (a : Asked). task_on (most a) a) asked checked certificate) (content : List ℕ) (table : Table)
    (holds : Holds before (input_name asked) content) (read : IsReading (task_of asked).source content (readings.Table table))
    (near : reach (task_on (most asked) asked) table ≤ MAX_REACH) (rest : List (Option (List ℕ)))
    (after : with_all before (files_of asked.names (None ∷ rest)) ≡ Some files)
    (stands : StandsAt asked.names (None ∷ rest) (record { name = judged_name checked; bytes = text }))
    (text_is : IsTextOf text certificate) (valid : IsValidSomewhere (task_on (most asked) asked) table certificate)
    (found : change.files ≡ Some files) (quiet : DoesNotFail change) where
  -- the budget is the same
  budgets : budget_in (task_on (most asked) asked) table ≡ budget_in (task_of checked) table
  budgets = same.budget content table holds read

  -- the page of the check is the one that the certificate names
  page_is : valid.page ≡ checked.number
  page_is = let wide = valid.valid.2.claim.wide in let of = valid.valid.1.wide in sym of ∙ sym wide ∙ same.width

  -- so the certificate is valid for what the check asks of the table
  valid_in : IsValidIn (task_of checked) table certificate
  valid_in =
      subst (λ (budget : ℕ). IsValid table (task_of checked).style checked.number budget certificate) budgets
      (subst (λ (width : ℕ). IsValid table (task_of checked).style width (budget_in (task_on (most asked) asked) table) certificate)
      page_is (subst (λ style. IsValid table style valid.page (budget_in (task_on (most asked) asked) table) certificate) same.style
      valid.valid))

  -- its text is there, and the file that was read as well
  text_stored : files (judged_name checked) ≡ Some text
  text_stored = subst (λ held. Holds held (judged_name checked) text) after
      (text_there asked.names (None ∷ rest) before stands.place (judged_name checked) text names.apart stands.named stands.is)

  input_stays : files (input_name asked) ≡ Some content
  input_stays = subst (λ held. Holds held (input_name asked) content) after
      (holds_through (files_of asked.names (None ∷ rest)) before (input_name asked) content (others asked.names names.apart) holds)
    where
      others : (all : List (List ℕ)) → AllPairs (λ one other. one ≢ other) all →
          HasOtherNames (get_or all 0 []) (files_of all (None ∷ rest))
      others [] apart = tt
      others (name ∷ all) apart = named_otherwise name all rest (first_apart name all apart)

  -- which spells the table, within the reach
  spells : SpellsTable (task_of checked) content table
  spells = record {
    read = subst (λ source. IsReading source content (readings.Table table)) same.source read;
    within = let fewer = fewer_searches table checked.number (most asked)
        (subst (λ (n : ℕ). n ≤ most asked) page_is valid.within) in
        let reached = subst (λ (budget : ℕ). searches table (most asked) * budget ≤ MAX_REACH) budgets near in
        let budget = budget_in (task_of checked) table in
        omega (
          arith,
          reached,
          mul-le (searches table checked.number) budget (searches table (most asked)) budget fewer (omega arith),
        );
  }

  -- so the check has the status of the claim
  pub accepted : (status ≡ status_number (claim_status certificate.claim)) ⊎ (status ≡ 9)
  accepted = accepted_so words change status ends checked content text table certificate
      (ask_for Check words checked content is_check)
      (files, found, ap files (sym same.input) ∙ input_stays) (files, found, text_stored) quiet spells text_is valid_in

-- ---- `lay`

-- the texts of an answer of `lay`: none, that of a page, and that of a certificate which is valid, and has the status of the answer
pub record HasWritten (task : Task) (table : Table) (answer : Answer) : Type 0 where
  pub certificate : Certificate
  pub valid : IsValidIn task table certificate
  pub claimed : status_number (status_of (report_of answer)) ≡ status_number (claim_status certificate.claim)
  pub page : Option (List ℕ)
  pub text : Option (List ℕ)
  pub are : texts_of answer ≡ None ∷ page ∷ text ∷ []
  pub is_text : IsTextWanted task.certified (Some certificate) text

module _ (task : Task) (table : Table) where
  -- by the claim
  has_written : (answer : Answer) (claim : Claim) (page text : Option (List ℕ)) (certificate : Certificate) →
      Certifies table task.style task.width (budget_in task table) claim certificate →
      IsTextWanted task.certified (Some certificate) text → texts_of answer ≡ None ∷ page ∷ text ∷ [] →
      status_number (status_of (report_of answer)) ≡ status_number (claim_status claim) → HasWritten task table answer
  has_written answer claim page text certificate certifies is_text are so = record {
    certificate = certificate;
    valid = certifies.valid;
    claimed = so ∙ sym (ap (λ (c : Claim). status_number (claim_status c)) certifies.claimed);
    page = page;
    text = text;
    are = are;
    is_text = is_text;
  }

  -- what was laid out
  pub by_laid : {answer : Answer} → IsLaidAs task table answer → HasWritten task table answer
  by_laid (lowest_laid {height} {taken} {page} {text} is) =
      let by = is.written in
      has_written (answers.Lowest height taken page text) (claims.Lowest height) (Some page) text by.certificate by.certifies
      by.is_text refl refl
  by_laid (bounded_laid {height} {lower} {taken} {page} {text} is) =
      let by = is.written in
      has_written (answers.Bounded height lower taken page text) (claims.Bounded height lower) (Some page) text by.certificate
      by.certifies by.is_text refl refl
  by_laid (narrow_laid {least} {text} is) = has_written (answers.Narrow least task.width text) (claims.Narrow least) None text
      is.certificate is.certifies is.is_text refl refl

-- a check of the certificate that `lay` has stored has the status of that run
pub accepts_laid : (words : List (List ℕ)) (change : Change) (status : ℕ) → Ends words change status →
    AcceptsLaid words change status
accepts_laid words change status ends = λ earlier before told laid checked is_lay is_check same ended out files quiet.
    let run = laid_run earlier before told laid ended is_lay out in
    let wrote = by_laid (task_of laid) run.table run.laid in
    let certified : (task_of laid).certified ≡ true = ap is_some same.certificate in
    let is = subst (λ (test : Bool). IsTextWanted test (Some wrote.certificate) wrote.text) certified wrote.is_text in
    elim (accepted words change status ends (λ asked. asked.number) before.files laid checked wrote.certificate
    (cert_text wrote.certificate) files.0 is_lay.is.names is_check (record {
      width = wrote.valid.2.claim.wide ∙ wrote.valid.1.wide ∙ same.width;
      input = same.input;
      place = 2;
      past_page = omega arith;
      named = same.certificate;
      style = same.style;
      source = same.source;
      budget = same.budget;
    }) run.content run.table run.holds run.read run.near (wrote.page ∷ wrote.text ∷ [])
    (sym (run.stores ∙ ap (λ texts. with_all before.files (files_of laid.names texts)) wrote.are) ∙ files.1)
    (record { place = 2; named = same.certificate; is = ap Some is.0 }) is.1
    (record { page = laid.number; within = omega arith; valid = wrote.valid }) files.2 quiet) [
      | inl so ↦ inl (so ∙ sym (run.told ∙ wrote.claimed))
      | inr nine ↦ inr nine
    ]
