-- What a valid certificate proves of the table.
use Rattle.std.proofs.Common.{◌≡◌, ◌∙◌, ℕ, suc, ◌+◌, ◌≤◌, inl, List, [], ◌∷◌, length, get_or, take, None, Some, sym, ap}
use Rattle.std.proofs.Common.{subst, arith}
use Rattle.std.specs.List.{last_or}
use Rattle.std.specs.Option.{IsSomeAnd}
use Rattle.std.proofs.lemmas.List.{take_all, length-take}
use Rattle.std.proofs.lemmas.List.Elements.{All-get_or}
use Rattle.tl_base.specs.declared.style.Style.{Style}
use Rattle.tl_base.proofs.Decreasing.{last_or-take}
use Rattle.tl_cert.specs.declared.certificate.Certificate.{Certificate}
use Rattle.tl_cert.specs.declared.certificate.Claim.{Claim}
use Rattle.tl_cert.specs.declared.certificate.Claim.TheVariants.{Lowest, Bounded, Narrow}
use Rattle.tl_cert.specs.declared.section.Section.{Section}
use Rattle.tl_cert.specs.Text.{IsNarrow}
use Rattle.tl_table.specs.declared.cell.Table.{Table, out-Table}
use Rattle.tl_table.specs.Chains.{IsChain}
use Rattle.tl_form.specs.Expected.{Document, IsDocumentOf, IsTableOf, own_number, next_due, placed_width, due_after}
use Rattle.tl_table.specs.Layouts.{Fits}
use Rattle.tl_table.specs.Laws.{NoPageIsNarrowerThanAChain}
use Rattle.tl_form.specs.ProblemLaws.{LayoutsAreByLow, LayoutsByHighFit}
use Rattle.tl_table.specs.Sound.{IsSound}
use Rattle.tl_form.specs.Valid.{AreWhole, AreTooWide, IsShown, HasNumbers, EndsWith}
use Rattle.tl_form.specs.ValidLaws.{IsBetween, LowestIsLeast, BoundedIsBetween, NarrowIsTooWide}
use Rattle.tl_form.proofs.DueLaws.{due_after-more, due_next, last_is_own, may_be_due}
use Rattle.tl_form.proofs.Truth.{Fits-wider, IsTrue, all_true}

-- the last section is one of the document's own table on the whole page
pub record IsOwnLast (document : Document) (sections : List Section) : Type 0 where
  pub n : ℕ
  pub last : n + 1 ≡ length sections
  pub of : (d : Section) → (get_or sections n d).table ≡ own_number document
  pub whole : (d : Section) → (get_or sections n d).width ≡ document.page

pub own_last : (document : Document) (budget : ℕ) (sections : List Section) → own_number document ≤ document.last →
    AreWhole document budget sections → IsOwnLast document sections
own_last document budget [] some whole = absurd (nothing whole.none)
  where
    nothing : {X : Type 0} {x : X} → Some x ≡ None → ⊥
    nothing equal = cc
own_last document budget (first ∷ sections) some whole = record {
  n = length sections;
  last = omega arith;
  of = λ d. last_is_own document (last d).table (placed_width document.style (last d)) (nothing_due d);
  whole = λ d. (may_be_due document (take (length sections) all) _ some (whole.good (length sections) d (omega arith)).due).whole
      (last_is_own document (last d).table (placed_width document.style (last d)) (nothing_due d));
} where
  all : List Section
  all = first ∷ sections

  last : Section → Section
  last d = get_or (first ∷ sections) (length sections) d

  nothing_due : (d : Section) → next_due document (last d).table (placed_width document.style (last d)) ≡ None
  nothing_due d =
      ap (λ due. due_next document due (last d)) (sym (whole.good (length sections) d (omega arith)).due)
      ∙ sym (due_after-more document (first ∷ sections) (length sections) d (omega arith))
      ∙ ap (due_after document) (take_all (length sections + 1) (first ∷ sections) (omega arith))
      ∙ whole.none

-- the numbers of the last section
pub ends : (claim : Claim) (sections : List Section) (n : ℕ) (d : Section) → n + 1 ≡ length sections → EndsWith claim sections →
    HasNumbers claim (get_or sections n d)
ends claim sections n d last with_numbers =
    subst (λ o. IsSomeAnd o (HasNumbers claim))
    (ap (last_or None) (sym (take_all (suc n) sections (omega (arith, last)))) ∙ last_or-take None sections n d
    (omega (arith, last))) with_numbers

module _ (below : LayoutsAreByLow) (above : LayoutsByHighFit) (table : Table) (style : Style) (page budget : ℕ)
    (sound : IsSound table)
    (document : Document) (of : IsDocumentOf table style page document) where
  sound_document : IsSound document.table
  sound_document = subst IsSound (sym of.same) sound

  some_number : own_number document ≤ document.last
  some_number = omega (arith, of.numbers)

  pub between : (sections : List Section) (claim : Claim) (d : Section) → AreWhole document budget sections →
      EndsWith claim sections →
      (section : Section) × HasNumbers claim section × IsBetween table style page section.height section.lower
  between sections claim d whole with_numbers =
      let own = own_last document budget sections some_number whole in
      let section = get_or sections own.n d in
      let all = all_true below above document sound_document budget sections (length sections) (omega arith) whole.good in
      let told : IsTrue document section = subst (IsTrue document)
      (ap (λ xs. get_or xs own.n d) (take_all (length sections) sections (omega arith)))
      (All-get_or (IsTrue document) (take (length sections) sections) own.n d
      (omega (arith, own.last, length-take (length sections) sections)) all) in
      let named : IsTableOf document section.table table = record {
        among = inl of.same;
        numbered = ap (λ t. (out-Table t).number) (sym of.same) ∙ sym
            (own.of d);
      } in
      let found = told.found table named in (
        section,
        ends claim sections own.n d own.last with_numbers,
        record {
          attained = (
            found.0,
            subst (λ s. Fits table s page section.height found.0) of.drawn
                (Fits-wider document.style table (placed_width document.style section) page section.height found.0
                (omega (arith, told.within, own.whole d, of.wide)) found.1),
          );
          never_less = λ other layout fits. told.lower table named other layout
              (subst (λ w. Fits table document.style w other layout) (sym (own.whole d ∙ of.wide))
              (subst (λ s. Fits table s page other layout) (sym of.drawn) fits));
        },
      )

-- ---- for a certificate

pub shown_by_sections : (document : Document) (budget : ℕ) (certificate : Certificate) (claim : Claim) →
    IsShown document budget certificate claim →
    (IsNarrow claim → ⊥) → AreWhole document budget certificate.sections × EndsWith claim certificate.sections
shown_by_sections document budget certificate (Lowest height) shown other = shown
shown_by_sections document budget certificate (Bounded height lower) shown other = shown
shown_by_sections document budget certificate (Narrow least) shown other = absurd (other tt)

pub no_section : Section
no_section = record { table = 0; width = 0; height = 0; lower = 0; widths = []; trace = []; log = [] }

pub lowest_is_least : LayoutsAreByLow → LayoutsByHighFit → LowestIsLeast
lowest_is_least below above table style page budget certificate height sound valid claim =
    let document = valid.0 in
    let shown = shown_by_sections document budget certificate (Lowest height)
    (subst (IsShown document budget certificate) claim valid.2.shown) (λ narrow. narrow) in
    let proved = between below above table style page budget sound document valid.1 certificate.sections (Lowest height)
    no_section shown.0 shown.1 in
    record {
      attained = (proved.2.attained.0, subst (λ h. Fits table style page h proved.2.attained.0) proved.1.0 proved.2.attained.1);
      least = λ other layout fits. omega (arith, proved.2.never_less other layout fits, proved.1.1);
    }

pub bounded_is_between : LayoutsAreByLow → LayoutsByHighFit → BoundedIsBetween
bounded_is_between below above table style page budget certificate height lower sound valid claim =
    let document = valid.0 in
    let shown = shown_by_sections document budget certificate (Bounded height lower)
    (subst (IsShown document budget certificate) claim valid.2.shown) (λ narrow. narrow) in
    let proved = between below above table style page budget sound document valid.1 certificate.sections (Bounded height lower)
    no_section shown.0 shown.1 in (
      proved.1.2,
      record {
        attained = (proved.2.attained.0, subst (λ h. Fits table style page h proved.2.attained.0) proved.1.0 proved.2.attained.1);
        never_less = λ other layout fits. omega (arith, proved.2.never_less other layout fits, proved.1.1);
      },
    )

pub narrow_is_too_wide : NoPageIsNarrowerThanAChain → NarrowIsTooWide
narrow_is_too_wide chains table style page budget certificate least sound valid claim =
    let document = valid.0 in
    let shown : AreTooWide document certificate.chains least = subst (IsShown document budget certificate) claim valid.2.shown in
    let weighed : IsChain table style certificate.chains least =
    subst (λ t. IsChain t style certificate.chains least) valid.1.same
    (subst (λ s. IsChain document.table s certificate.chains least) valid.1.drawn shown.weighed) in (
      omega (arith, shown.wider, valid.1.wide),
      λ width height layout fits. chains table style certificate.chains least width
          height layout sound weighed fits,
    )
