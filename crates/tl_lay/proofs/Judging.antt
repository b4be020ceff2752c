-- What the text of a certificate is found to be: what a valid one shows, and why another is rejected.
use Rattle.std.proofs.Common.{◌≡◌, inl, inr, ℕ, ◌-◌, ◌<◌, ◌≤◌, List, [], ◌∷◌, length, get_or, take, Option, None, Some}
use Rattle.std.proofs.Common.{refl, sym, ap, subst, ◌∙◌, arith}
use Rattle.std.specs.Prelude.{IfOk, IsSomeAnd, Result, Ok, Err, alloc_error}
use Rattle.std.specs.declared.alloc.AllocError.{AllocError}
use Rattle.std.specs.List.{All, AllByRecursion, Any, last_or, slice_get}
use Rattle.std.proofs.lemmas.Option.{get_or_from_slice_get}
use Rattle.std.proofs.lemmas.Bool.{cases_lt}
use Rattle.std.proofs.lemmas.List.{take_all}
use Rattle.tl_base.specs.Returned.{IsMemoryOr}
use Rattle.tl_base.specs.declared.limits.TheConstants.{MAX_PAGE_WIDTH, MAX_BUDGET}
use Rattle.tl_base.proofs.Options.{Some-same}
use Rattle.tl_cert.specs.declared.certificate.Certificate.{Certificate}
use Rattle.tl_cert.specs.declared.certificate.Claim.{Claim}
use Rattle.tl_cert.specs.declared.certificate.Claim.TheVariants as claims
use Rattle.tl_cert.specs.declared.error.CertError.{CertError}
use Rattle.tl_cert.specs.declared.error.CertError.TheVariants as texts
use Rattle.tl_cert.specs.declared.section.Section.{Section}
use Rattle.tl_cert.specs.Faults.{IsTextOf, IsNoText}
use Rattle.tl_cert.specs.Text.{IsWritable, HasProof, IsSectionShaped, IsNarrow}
use Rattle.tl_cert.proofs.OneText.{one_certificate}
use Rattle.tl_table.specs.declared.cell.Table.{Table}
use Rattle.tl_form.specs.ClosedLaws.{IsClosedSection, IsWideDocument, BudgetCloses}
use Rattle.tl_form.specs.Expected.{Document, own_number, least_of}
use Rattle.tl_table.specs.Least.{IsLeastWidth}
use Rattle.tl_form.specs.OpenLaws.{IsSpent, OpenSpends}
use Rattle.tl_form.specs.Problems.{IsCountAll}
use Rattle.tl_table.specs.Sound.{IsSound}
use Rattle.tl_form.specs.Valid.{IsShown, HasNumbers, EndsWith}
use Rattle.tl_form.specs.ValidLaws.{LowestIsLeast, BoundedIsBetween, NarrowIsTooWide, IsBetween}
use Rattle.tl_table.proofs.LinkLemmas.{IsLeastWidth-unique}
use Rattle.tl_form.proofs.CountsExist.{counts}
use Rattle.tl_verify.specs.declared.reject.Reject.{Reject}
use Rattle.tl_verify.specs.declared.reject.Reject.TheVariants as steps
use Rattle.tl_verify.specs.Verdicts.{IsRefusedAs}
use Rattle.tl_lay.specs.declared.rejection.Rejection.{Rejection}
use Rattle.tl_lay.specs.declared.task.Task.{Task}
use Rattle.tl_lay.specs.declared.verdict.Verdict.{Verdict}
use Rattle.tl_lay.specs.declared.verdict.Verdict.TheVariants as verdicts
use Rattle.tl_narrow.specs.Slimmest.{IsBelowCounts}
use Rattle.tl_lay.specs.Budgets.{budget_in}
use Rattle.tl_lay.specs.Checks.{IsValidIn, columns_shown, IsShownAs, lowest_shown, bounded_shown, narrow_shown, IsJudged}
use Rattle.tl_lay.specs.Rejections.{text_rejection, step_rejection}
use Rattle.tl_lay.specs.inner.Claims.{HasFewColumns, verdict_of}
use Rattle.tl_lay.specs.inner.Steps.{IsReadAs}
use Rattle.tl_narrow.proofs.Certifying.{own_least, last_found, last_of, last_is}

-- ---- few columns

-- the last of some sections is one of them
last_all : (P : Section → Type 0) (sections : List Section) → AllByRecursion P sections → (section : Section) →
    last_or None sections ≡ Some section → P section
last_all P [] all section is = absurd (none is) where
  none : None ≡ Some section → ⊥
  none e = absurd cc
last_all P (x ∷ []) all section is = subst P (Some-same is) all.0
last_all P (x ∷ (y ∷ xs)) all section is = last_all P (y ∷ xs) all.1 section is

-- the item at the last place is the last
pub last_got : (sections : List Section) (section : Section) → slice_get sections (length sections - 1) ≡ Some section →
    last_or None sections ≡ Some section
last_got [] section is = absurd (none is) where
  none : None ≡ Some section → ⊥
  none e = absurd cc
last_got (x ∷ xs) section is =
    last_found (x ∷ xs) section (omega arith) ∙ ap Some (get_or_from_slice_get (x ∷ xs) (length (x ∷ xs) - 1) section section is)

-- the last section of a certificate that has a text has few columns
pub few_of_last : (certificate : Certificate) → IsWritable certificate → HasFewColumns (last_or None certificate.sections)
few_of_last certificate can = by_last (last_or None certificate.sections) refl where
  shaped : (claim : Claim) → HasProof claim certificate → AllByRecursion IsSectionShaped certificate.sections
  shaped (claims.Lowest height) has = has.sections
  shaped (claims.Bounded height lower) has = has.sections
  shaped (claims.Narrow least) has = subst (AllByRecursion IsSectionShaped) (sym has.no_section) tt

  by_last : (last : Option Section) → last_or None certificate.sections ≡ last → HasFewColumns last
  by_last None is = tt
  by_last (Some section) is = (last_all IsSectionShaped certificate.sections (shaped certificate.claim can.0) section is).widths

-- ---- what a valid certificate shows

module _ (task : Task) (table : Table) (certificate : Certificate) (sound : IsSound table) (narrow : task.width ≤ MAX_PAGE_WIDTH)
    (cuts : budget_in task table ≤ MAX_BUDGET) (valid : IsValidIn task table certificate)
    (lowest_law : LowestIsLeast) (bounded_law : BoundedIsBetween) (narrow_law : NarrowIsTooWide) (closes_law : BudgetCloses)
    (spends_law : OpenSpends) where
  abbrev document : Document
  document = valid.0

  abbrev sections : List Section
  sections = certificate.sections

  -- the page is wide enough where that is claimed
  wide_page : (IsNarrow certificate.claim → ⊥) → (least : ℕ) → IsLeastWidth table task.style least → least ≤ task.width
  wide_page wide least is = elim (cases_lt task.width least) [
    | inl less ↦ absurd (wide (valid.2.claim.kind.1 (narrower less)))
    | inr more ↦ more
  ] where
    same : least ≡ least_of document (own_number document)
    same = IsLeastWidth-unique table task.style least (least_of document (own_number document)) is
        (own_least table task.style task.width document valid.1)

    narrower : task.width < least → document.page < least_of document (own_number document)
    narrower less = omega (arith, less, same, valid.1.wide)

  by_bounds : (height lower : ℕ) → certificate.claim ≡ claims.Bounded height lower → 0 < length sections →
      IsBetween table task.style task.width height lower →
      Any (IsSpent (budget_in task table)) sections × IsBelowCounts table task.style task.width (budget_in task table)
  by_bounds height lower is some between = (spent, (counted.0, counted.1, below counted.0 counted.1)) where
    counted : (most : ℕ) × IsCountAll table task.style task.width most
    counted = counts task.style task.width sound.depth table sound.sound height between.attained.0 between.attained.1

    shown : IsShown document (budget_in task table) certificate (claims.Bounded height lower)
    shown = subst (IsShown document (budget_in task table) certificate) is valid.2.shown

    last : Section
    last = last_of sections some

    numbers : HasNumbers (claims.Bounded height lower) last
    numbers = subst (λ (found : Option Section). IsSomeAnd found (HasNumbers (claims.Bounded height lower)))
        (last_is sections some).found shown.1

    wide_document : IsWideDocument table task.style task.width document
    wide_document = record {
      sound = sound;
      of = valid.1;
      narrow = narrow;
      wide = wide_page (λ is_narrow. subst IsNarrow is is_narrow);
    }

    opened : (get_or sections (length sections - 1) last).lower < (get_or sections (length sections - 1) last).height
    opened = subst (λ (s : Section). s.lower < s.height) (sym ((last_is sections some).at last))
        (omega (arith, numbers.0, numbers.1, numbers.2))

    spent : Any (IsSpent (budget_in task table)) sections
    spent = subst (Any (IsSpent (budget_in task table))) (take_all (length sections) sections (omega arith))
        (spends_law table task.style task.width (budget_in task table) (length sections) document sections wide_document
        (omega arith)
        shown.0.good (length sections - 1) last (omega (arith, some)) opened)

    below : (most : ℕ) → IsCountAll table task.style task.width most → budget_in task table < most
    below most is_most = elim (cases_lt (budget_in task table) most) [
      | inl less ↦ less
      | inr more ↦ absurd (closed (closes_law table task.style task.width (budget_in task table) most
          (length sections) document sections wide_document is_most more (omega (arith, cuts)) (omega arith) shown.0.good))
    ] where
      closed : All IsClosedSection (take (length sections) sections) → ⊥
      closed all =
          let same : (get_or sections (length sections - 1) last).lower ≡ (get_or sections (length sections - 1) last).height =
          (subst (All IsClosedSection) (take_all (length sections) sections (omega arith)) all) (length sections - 1) last
          (omega (arith, some)) in
          omega (arith, same, opened)

  -- a claim of a bound rests on a section
  some_section : (height lower : ℕ) → certificate.claim ≡ claims.Bounded height lower → 0 < length sections
  some_section height lower is =
      by_sections sections (subst (IsShown document (budget_in task table) certificate) is valid.2.shown).1 where
        by_sections : (all : List Section) → EndsWith (claims.Bounded height lower) all → 0 < length all
        by_sections [] ends = absurd ends
        by_sections (section ∷ all) ends = omega arith

  by_claim : (claim : Claim) → certificate.claim ≡ claim →
      IsShownAs task table certificate (verdict_of task.width claim (columns_shown task certificate))
  by_claim (claims.Lowest height) is = lowest_shown (record {
    claimed = is;
    least = lowest_law table task.style task.width (budget_in task table) certificate height sound valid is;
  })
  by_claim (claims.Bounded height lower) is =
      let between = bounded_law table task.style task.width (budget_in task table) certificate height lower sound valid is in
      let both = by_bounds height lower is (some_section height lower is) between.1 in
      bounded_shown (record { claimed = is; apart = between.0; between = between.1; spent = both.0; below = both.1 })
  by_claim (claims.Narrow least) is =
      let too = narrow_law table task.style task.width (budget_in task table) certificate least sound valid is in
      narrow_shown (record { claimed = is; narrow = too.0; each = too.1 })

  pub accepted : (text : List ℕ) (verdict : Verdict) → IsTextOf text certificate →
      verdict ≡ verdict_of task.width certificate.claim (columns_shown task certificate) → IsJudged task table text verdict
  accepted text verdict text_is told = inl (record {
    certificate = certificate;
    text_is = text_is;
    valid = valid;
    shows = subst (IsShownAs task table certificate) (sym told) (by_claim certificate.claim refl);
  })

-- ---- what is rejected

-- a result that tells why, where there is a reason
abbrev pub Tells : Option Rejection → Result Verdict AllocError → Type 0
Tells rejection result = IfOk result (λ verdict. (found : Rejection) × (rejection ≡ Some found) ×
    (verdict ≡ verdicts.Rejected found))

none_some : (found : Rejection) → None ≡ Some found → ⊥
none_some found e = absurd cc

-- bytes that are no certificate's
pub text_rejected : (task : Task) (table : Table) (error : CertError) (result : Result Verdict AllocError)
    (rejection : Option Rejection) → rejection ≡ text_rejection error → Tells rejection result →
    IfOk result (λ verdict. (text : List ℕ) → IsReadAs text (Err error) → IsJudged task table text verdict)
text_rejected task table error (Err failed) rejection is tells = tt
text_rejected task table error (Ok verdict) rejection is tells = λ text read. inr (record {
  rejection = tells.0;
  told = tells.2;
  reason = inl (error, refused text read.err, sym is ∙ tells.1);
  never = λ certificate text_is valid. no_memory (read.each_ok certificate text_is);
}) where
  no_memory : error ≡ texts.Memory alloc_error → ⊥
  no_memory same = none_some tells.0 (sym (is ∙ ap text_rejection same) ∙ tells.1)

  refused : (text : List ℕ) → IsMemoryOr (texts.Memory alloc_error) (IsNoText text) error → IsNoText text error
  refused text (inl same) = absurd (no_memory same)
  refused text (inr cause) = cause

-- a certificate that is not valid
pub step_rejected : (task : Task) (table : Table) (certificate : Certificate) (reject : Reject) (result : Result Verdict AllocError)
    (rejection : Option Rejection) → rejection ≡ step_rejection reject → Tells rejection result →
    IsMemoryOr (steps.Memory alloc_error) (IsRefusedAs table task.style task.width (budget_in task table) certificate) reject →
    (IsValidIn task table certificate → reject ≡ steps.Memory alloc_error) →
    IfOk result (λ verdict. (text : List ℕ) → IsReadAs text (Ok certificate) → IsJudged task table text verdict)
step_rejected task table certificate reject (Err failed) rejection is tells why never = tt
step_rejected task table certificate reject (Ok verdict) rejection is tells why never = λ text read. inr (record {
  rejection = tells.0;
  told = tells.2;
  reason = inr (certificate, reject, read.ok, refused why, sym is ∙ tells.1);
  never = λ other other_is valid.
      no_memory (never (subst (IsValidIn task table) (one_certificate text other certificate other_is read.ok) valid));
}) where
  no_memory : reject ≡ steps.Memory alloc_error → ⊥
  no_memory same = none_some tells.0 (sym (is ∙ ap step_rejection same) ∙ tells.1)

  refused : IsMemoryOr (steps.Memory alloc_error) (IsRefusedAs table task.style task.width (budget_in task table) certificate)
      reject →
      IsRefusedAs table task.style task.width (budget_in task table) certificate reject
  refused (inl same) = absurd (no_memory same)
  refused (inr cause) = cause

-- what was found of the text that was read
pub judged_text : (task : Task) (table : Table) (text : List ℕ) (read : Result Certificate CertError)
    (result : Result Verdict AllocError) → IsReadAs text read →
    IfOk result (λ verdict. (text : List ℕ) → IsReadAs text read → IsJudged task table text verdict) →
    IfOk result (IsJudged task table text)
judged_text task table text read (Err failed) is judged = tt
judged_text task table text read (Ok verdict) is judged = judged text is

-- a certificate that was read can be written
pub written : (text : List ℕ) (read : Result Certificate CertError) → IfOk read (IsTextOf text) → IfOk read IsWritable
written text (Err error) is = tt
written text (Ok certificate) is = is.writable
