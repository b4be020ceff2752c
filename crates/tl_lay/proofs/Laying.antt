-- What is answered by the certificate of the sections that a search gave.
use Rattle.std.proofs.Common.{◌≡◌, inl, inr, ℕ, zero, suc, ◌-◌, ◌<◌, ◌≤◌}
use Rattle.std.proofs.Common.{List, length, get_or, take, Option, Some}
use Rattle.std.proofs.Common.{refl, sym, subst, arith}
use Rattle.std.specs.List.{All, Any}
use Rattle.std.proofs.lemmas.List.{take_all}
use Rattle.std.proofs.lemmas.Bool.{cases_lt}
use Rattle.tl_base.specs.declared.limits.TheConstants.{MAX_PAGE_WIDTH, MAX_BUDGET, MAX_COLUMNS}
use Rattle.tl_base.specs.declared.style.Style.{Style}
use Rattle.tl_cert.specs.declared.certificate.Certificate.{Certificate}
use Rattle.tl_cert.specs.declared.certificate.Claim.{Claim}
use Rattle.tl_cert.specs.declared.certificate.Claim.TheVariants as claims
use Rattle.tl_cert.specs.declared.section.Section.{Section}
use Rattle.tl_cert.specs.Text.{IsNarrow}
use Rattle.tl_table.specs.declared.cell.Table.{Table}
use Rattle.tl_table.specs.declared.layout.Layout.{Layout, out-Layout}
use Rattle.tl_form.proofs.CountsExist.{counts}
use Rattle.tl_form.specs.ClosedLaws.{IsClosedSection, IsWideDocument, BudgetCloses}
use Rattle.tl_form.specs.OpenLaws.{IsSpent, OpenSpends}
use Rattle.tl_table.specs.Layouts.{Fits, FitsWithin, total_width}
use Rattle.tl_form.specs.Named.{IsNamed}
use Rattle.tl_form.specs.Problems.{IsCountAll}
use Rattle.tl_table.specs.Sound.{IsSound, IsSoundWithin}
use Rattle.tl_form.specs.ValidLaws.{LowestIsLeast, BoundedIsBetween, HasHeight}
use Rattle.tl_table.specs.Least.{IsLeastWidth}
use Rattle.tl_form.specs.Valid.{AreGoodBelow, IsValid}
use Rattle.tl_nested.specs.Searched.{AreSectionsOf, AreWritable}
use Rattle.tl_lay.specs.declared.task.Task.{Task}
use Rattle.tl_lay.specs.Answers.{IsPageFile, IsTextWanted, IsOutcomeOf, IsWritten, IsLaidAs, lowest_laid}
use Rattle.tl_lay.specs.Budgets.{budget_in}
use Rattle.tl_lay.specs.Answers.{bounded_laid}
use Rattle.tl_narrow.specs.Certified.{claim_of, certificate_of}
use Rattle.tl_narrow.proofs.Certifying.{claim_is_wide, first_of, open_last, valid}
use Rattle.tl_lay.specs.inner.Claims.{answer_of}

-- ---- the fit

-- a layout that fits has few columns
pub few_columns : (table : Table) (style : Style) (page height : ℕ) (layout : Layout) → IsSound table →
    Fits table style page height layout →
    length (out-Layout layout).widths ≤ MAX_COLUMNS
few_columns table style page height layout sound fits = by_depth sound.depth fits.0 sound.sound fits.1 where
  by_depth : (deep fit : ℕ) → IsSoundWithin deep table → FitsWithin fit style table page height layout →
      length (out-Layout layout).widths ≤ MAX_COLUMNS
  by_depth zero fit is laid = absurd is
  by_depth (suc deep) zero is laid = absurd laid
  by_depth (suc deep) (suc fit) is laid = omega (arith, laid.columns, is.few_columns)

-- ---- what is answered

abbrev pub sections_of : Task → Table → List Section → Type 0
sections_of task table sections = AreSectionsOf (IsOutcomeOf task.search task.workers (budget_in task table)) table task.style task.width
    (budget_in task table) sections

module _ (task : Task) (table : Table) (sections : List Section) (are : sections_of task table sections)
    (can : AreWritable sections)
    (wide : (least : ℕ) → IsLeastWidth table task.style least → least ≤ task.width)
    (sound : IsSound table) (narrow : task.width ≤ MAX_PAGE_WIDTH) (cuts : budget_in task table ≤ MAX_BUDGET)
    (layout : Layout) (taken : ℕ) (page : List ℕ) (text : Option (List ℕ))
    (named : IsNamed table task.style (certificate_of task.width task.style (budget_in task table) sections) layout)
    (fits : (height : ℕ) → HasHeight (claim_of sections) height → Fits table task.style task.width height layout)
    (takes : taken ≡ total_width task.style (out-Layout layout))
    (is_page : IsPageFile task.format task.style table layout page)
    (is_text : IsTextWanted task.certified (Some (certificate_of task.width task.style (budget_in task table) sections)) text)
    (lowest_law : LowestIsLeast) (bounded_law : BoundedIsBetween) (closes_law : BudgetCloses) (spends_law : OpenSpends) where
  abbrev cert : Certificate
  cert = certificate_of task.width task.style (budget_in task table) sections

  is_valid : IsValid table task.style task.width (budget_in task table) cert
  is_valid = valid (IsOutcomeOf task.search task.workers (budget_in task table)) table task.style task.width (budget_in task table)
      sections are can wide

  abbrev laid : (claim : Claim) (height : ℕ) → claim_of sections ≡ claim → HasHeight claim height →
      IsWritten task table task.width (budget_in task table) claim height taken page text
  laid claim height is high = record {
    certificate = cert;
    certifies = record { claimed = is; valid = is_valid };
    searched = are;
    layout = layout;
    named = named;
    is_page = record {
      fits = fits height (subst (λ (c : Claim). HasHeight c height) (sym is) high);
      wide = takes;
      is_page =
          is_page;
    };
    is_text = is_text;
  }

  wide_document : IsWideDocument table task.style task.width are.document
  wide_document = record { sound = sound; of = are.of; narrow = narrow; wide = wide }

  good : AreGoodBelow are.document (budget_in task table) sections (length sections)
  good = λ i d within. (are.each i d within).good

  by_claim : (claim : Claim) → claim_of sections ≡ claim → IsLaidAs task table (answer_of task.width claim taken page text)
  by_claim (claims.Lowest height) is = lowest_laid (record {
    written = laid (claims.Lowest height) height is refl;
    least = lowest_law table task.style task.width (budget_in task table) cert height sound is_valid is;
  })
  by_claim (claims.Narrow least) is = absurd (claim_is_wide sections (subst IsNarrow (sym is) tt))
  by_claim (claims.Bounded height lower) is =
      let between = bounded_law table task.style task.width (budget_in task table) cert height lower sound is_valid is in
      bounded_laid (record {
        apart = between.0;
        written = laid (claims.Bounded height lower) height is refl;
        spent = spent;
        between = between.1;
        below =
            let most = counts task.style task.width sound.depth table sound.sound height
            between.1.attained.0 between.1.attained.1 in
            (most.0, most.1, below most.0 most.1);
      }) where
        last : ℕ
        last = length sections - 1

        opened : (d : Section) → (get_or sections (length sections - 1) d).lower <
            (get_or sections (length sections - 1) d).height
        opened = open_last (IsOutcomeOf task.search task.workers (budget_in task table)) table task.style task.width
            (budget_in task table) sections are can wide height lower is

        spent : Any (IsSpent (budget_in task table)) sections
        spent = subst (Any (IsSpent (budget_in task table))) (take_all (length sections) sections (omega arith))
            (spends_law table task.style task.width (budget_in task table) (length sections) are.document sections wide_document
            (omega arith) good
            (length sections - 1) (first_of sections can.some) (omega (arith, can.some)) (opened (first_of sections can.some)))

        below : (most : ℕ) → IsCountAll table task.style task.width most → budget_in task table < most
        below most counted = elim (cases_lt (budget_in task table) most) [
          | inl less ↦ less
          | inr more ↦ absurd (closed (closes_law table task.style task.width (budget_in task table) most
              (length sections) are.document sections wide_document
              counted more (omega (arith, cuts)) (omega arith) good))
        ] where
          closed : All IsClosedSection (take (length sections) sections) → ⊥
          closed all =
              let d = first_of sections can.some in
              let same : (get_or sections (length sections - 1) d).lower ≡ (get_or sections (length sections - 1) d).height =
              (subst (All IsClosedSection) (take_all (length sections) sections (omega arith)) all) (length sections - 1) d
              (omega (arith, can.some)) in
              omega (arith, same, opened d)

  pub answered : IsLaidAs task table (answer_of task.width (claim_of sections) taken page text)
  answered = by_claim (claim_of sections) refl
