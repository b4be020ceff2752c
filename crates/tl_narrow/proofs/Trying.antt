-- What a trial leaves: the sections of a search, with the claim of the last, and where that is open, a budget below the counts
-- of this page and of each wider one.
use Rattle.std.proofs.Common.{◌≡◌, inl, inr, ℕ, ◌-◌, ◌<◌, ◌≤◌, List, length, get_or, take, subst, arith}
use Rattle.std.specs.List.{All, Any}
use Rattle.std.proofs.lemmas.List.{take_all}
use Rattle.std.proofs.lemmas.Bool.{cases_lt}
use Rattle.tl_base.specs.declared.limits.TheConstants.{MAX_BUDGET, MAX_PAGE_WIDTH}
use Rattle.tl_base.specs.declared.style.Style.{Style}
use Rattle.tl_problem.specs.Problem.{ProblemModel}
use Rattle.tl_cert.specs.declared.certificate.Certificate.{Certificate}
use Rattle.tl_cert.specs.declared.certificate.Claim.TheVariants as claims
use Rattle.tl_cert.specs.declared.section.Section.{Section}
use Rattle.tl_table.specs.declared.cell.Table.{Table}
use Rattle.tl_table.specs.Least.{IsLeastWidth}
use Rattle.tl_table.specs.Sound.{IsSound}
use Rattle.tl_form.specs.ClosedLaws.{BudgetCloses, IsClosedSection, IsWideDocument}
use Rattle.tl_form.specs.CountLaws.{AllCountsRise, CountsExist}
use Rattle.tl_form.specs.OpenLaws.{IsSpent, OpenSpends}
use Rattle.tl_form.specs.Problems.{IsCountAll}
use Rattle.tl_form.specs.Valid.{AreGoodBelow, IsValid}
use Rattle.tl_form.specs.ValidLaws.{BoundedIsBetween}
use Rattle.tl_form.proofs.Truth.{Fits-wider}
use Rattle.tl_solve.specs.declared.outcome.Outcome.{Outcome}
use Rattle.tl_nested.specs.Searched.{AreSectionsOf, AreWritable}
use Rattle.tl_narrow.specs.Certified.{certificate_of, claim_of}
use Rattle.tl_narrow.specs.Slimmest.{IsBelowCounts}
use Rattle.tl_narrow.specs.inner.Trials.{IsTrial}
use Rattle.tl_narrow.proofs.Certifying.{claim_is_wide, first_of, open_last, valid, writable}

module _ (given : ProblemModel → Outcome → Type 0) (table : Table) (style : Style) (page budget : ℕ) (sections : List Section)
    (are : AreSectionsOf given table style page budget sections) (can : AreWritable sections)
    (wide : (least : ℕ) → IsLeastWidth table style least → least ≤ page)
    (sound : IsSound table) (some : 1 ≤ page) (narrow : page ≤ MAX_PAGE_WIDTH) (cuts : budget ≤ MAX_BUDGET)
    (bounded_law : BoundedIsBetween) (closes_law : BudgetCloses) (spends_law : OpenSpends) (counts_law : CountsExist)
    (rise_law : AllCountsRise) where
  abbrev cert : Certificate
  cert = certificate_of page style budget sections

  is_valid : IsValid table style page budget cert
  is_valid = valid given table style page budget sections are can wide

  wide_document : IsWideDocument table style page are.document
  wide_document = record { sound = sound; of = are.of; narrow = narrow; wide = wide }

  good : AreGoodBelow are.document budget sections (length sections)
  good = λ i d within. (are.each i d within).good

  module _ (height lower : ℕ) (is : claim_of sections ≡ claims.Bounded height lower) where
    abbrev end : Section
    end = first_of sections can.some

    opened : (get_or sections (length sections - 1) end).lower < (get_or sections (length sections - 1) end).height
    opened = open_last given table style page budget sections are can wide height lower is end

    spent : Any (IsSpent budget) sections
    spent = subst (Any (IsSpent budget)) (take_all (length sections) sections (omega arith))
        (spends_law table style page budget (length sections) are.document sections wide_document (omega arith) good
        (length sections - 1) end (omega (arith, can.some)) opened)

    closed : All IsClosedSection (take (length sections) sections) → ⊥
    closed all =
        let same : (get_or sections (length sections - 1) end).lower ≡ (get_or sections (length sections - 1) end).height =
        (subst (All IsClosedSection) (take_all (length sections) sections (omega arith)) all) (length sections - 1) end
        (omega (arith, can.some)) in
        omega (arith, same, opened)

    below : (most : ℕ) → IsCountAll table style page most → budget < most
    below most counted = elim (cases_lt budget most) [
      | inl less ↦ less
      | inr more ↦ absurd (closed (closes_law table style page budget most (length sections) are.document sections wide_document
          counted more (omega (arith, cuts)) (omega arith) good))
    ]

    below_wider : (wider : ℕ) → page ≤ wider → IsBelowCounts table style wider budget
    below_wider wider more =
        let between = bounded_law table style page budget cert height lower sound is_valid is in
        let layout = between.1.attained.0 in
        let fits = between.1.attained.1 in
        let few = counts_law table style page height layout sound fits in
        let many = counts_law table style wider height layout sound
        (Fits-wider style table page wider height layout more fits) in
        (many.0, many.1, omega (arith, below few.0 few.1, rise_law table style page wider few.0 many.0 more few.1 many.1))

  pub is_trial : IsTrial table style page budget cert
  is_trial = record {
    valid = is_valid;
    writable = writable given table style page budget sections are can wide some narrow cuts;
    wide = claim_is_wide sections;
    gap = λ height lower is. record { spent = spent height lower is; below = below_wider height lower is };
  }
