-- What the search that is named tells of the narrowest page, and the page of a certificate that claims so few lines.
use Rattle.std.proofs.Common.{◌≡◌, ◌≢◌, ◌⊎◌, inl, inr, ℕ, ◌+◌, ◌-◌, ◌/◌, ◌≤◌, List, Option, Some, None, refl, subst, sym, ◌∙◌, arith}
use Rattle.std.specs.Prelude.{Bool, true, false, ◌==◌, if◌then◌else◌, IfOk, IfSome, Result, Ok, Err}
use Rattle.std.proofs.lemmas.Bool.{cases_order}
use Rattle.std.proofs.lemmas.Bool.Decides.{eqb_tells}
use Rattle.std.specs.declared.alloc.AllocError.{AllocError}
use Rattle.tl_base.specs.declared.style.Style.{Style}
use Rattle.tl_base.specs.declared.search.Search.{Search}
use Rattle.tl_cert.specs.declared.certificate.Certificate.{Certificate}
use Rattle.tl_cert.specs.declared.certificate.Claim.{Claim}
use Rattle.tl_cert.specs.declared.certificate.Claim.TheVariants.{Lowest, Bounded, Narrow}
use Rattle.tl_table.specs.declared.cell.Table.{Table}
use Rattle.tl_table.specs.declared.layout.Layout.{Layout}
use Rattle.tl_table.specs.Layouts.{Fits}
use Rattle.tl_table.specs.Least.{IsLeastWidth}
use Rattle.tl_form.specs.Named.{IsNamed}
use Rattle.tl_form.specs.Valid.{IsValid}
use Rattle.tl_form.specs.ValidLaws.{HasHeight}
use Rattle.tl_nested.specs.Searched.{AreSectionsOf}
use Rattle.tl_narrow.specs.declared.slim.Slim.{Slim}
use Rattle.tl_narrow.specs.Slimmest.{ClaimsLow}
use Rattle.tl_narrow.specs.Slims.{AreSearched, IsLowCertificate, IsSlim, trial_between}
use Rattle.tl_narrow.specs.Trials.{IsBisection, IsReached, at_first, first_least, high_tried, low_tried}
use Rattle.tl_lay.specs.declared.task.Task.{Task}
use Rattle.tl_lay.specs.Answers.{IsOutcomeOf, IsPageFile}
use Rattle.tl_lay.specs.Budgets.{budget_in}
use Rattle.tl_lay.specs.Slimmed.{IsSlimIn, IsSlimPage}
use Rattle.tl_narrow.proofs.Certifying.{own_least}

-- a certificate is valid on the page and for the budget that it names
pub valid_named : (table : Table) (style : Style) (width budget : ℕ) (certificate : Certificate) →
    IsValid table style width budget certificate → IsValid table style certificate.width certificate.budget certificate
valid_named table style width budget certificate valid =
    subst (λ (page : ℕ). IsValid table style page certificate.budget certificate) (sym (valid.2.claim.wide ∙ valid.1.wide))
    (subst (λ (cuts : ℕ). IsValid table style width cuts certificate) (sym valid.2.claim.cuts) valid)

-- and a layout that fits the one fits the other
pub fits_on : (table : Table) (style : Style) (width budget height : ℕ) (certificate : Certificate) (layout : Layout) →
    IsValid table style width budget certificate → Fits table style certificate.width height layout →
    Fits table style width height layout
fits_on table style width budget height certificate layout valid =
    subst (λ (page : ℕ). Fits table style page height layout) (valid.2.claim.wide ∙ valid.1.wide)

-- the height that is claimed
pub claimed_low : (height : ℕ) (claim : Claim) → ClaimsLow height claim → (lines : ℕ) × (lines ≤ height) × HasHeight claim lines
claimed_low height (Lowest lowest) low = (lowest, low, refl)
claimed_low height (Bounded found lower) low = (found, low, refl)
claimed_low height (Narrow least) low = absurd low

-- the page of the layout is the page of the certificate
pub drawn_low : (task : Task) (table : Table) (height width lines : ℕ) (certificate : Certificate) (layout : Layout)
    (result : Result (List ℕ) AllocError) → lines ≤ height → IsNamed table task.style certificate layout →
    Fits table task.style width lines layout → IfOk result (IsPageFile task.format task.style table layout) →
    IfOk result (IsSlimPage task table height width certificate)
drawn_low task table height width lines certificate layout (Ok page) low named fits is_page = record {
  lines = lines;
  low = low;
  layout = layout;
  named = named;
  fits = fits;
  is_page = is_page;
}
drawn_low task table height width lines certificate layout (Err error) low named fits is_page = tt

-- what the search that is named tells, of the budget of each search for the table
module _ (task : Task) (table : Table) (height budget : ℕ) (handed : Option Certificate) where
  -- the sections of the certificate are those of a search of this kind, with this budget, on a page of so many columns
  abbrev Searched : Search → ℕ → ℕ → Certificate → Type 0
  Searched search cuts width certificate =
      AreSectionsOf (IsOutcomeOf search task.workers cuts) table task.style width cuts certificate.sections

  -- the trials that are due, by such searches
  abbrev Ordered : Search → ℕ → Slim → Type 0
  Ordered search cuts slim = (own : ℕ) → IsLeastWidth table task.style own → IsBisection (Searched search cuts) table task.style
      height task.width cuts handed own slim.least slim.width

  pub slim_by : (search : Search) (result : Result Slim AllocError) → search ≡ task.search → budget ≡ budget_in task table →
      IfOk result (IsSlim table task.style height task.width budget) →
      IfOk result (AreSearched (Searched search budget) task.width handed) → IfOk result (Ordered search budget) →
      IfOk result (IsSlimIn task table height handed)
  slim_by search (Ok slim) named cuts tells by order = record {
    tells = subst (λ (b : ℕ). IsSlim table task.style height task.width b slim) cuts tells;
    by = subst (λ (s : Search). AreSearched (Searched s (budget_in task table)) task.width handed slim) named
        (subst (λ (b : ℕ). AreSearched (Searched search b) task.width handed slim) cuts by);
    order = subst (λ (s : Search). Ordered s (budget_in task table) slim) named
        (subst (λ (b : ℕ). Ordered search b slim) cuts order);
  }
  slim_by search (Err error) named cuts tells by order = tt

-- ---- a page that was handed in

-- the middle of two widths that differ is no less than 1
half : (a b : ℕ) → 1 ≤ a → 1 ≤ b → b ≢ a → 1 ≤ (a + b - 1) / 2
half a b first second apart = elim (cases_order a b) [
  | inl same ↦ absurd (apart (sym same))
  | inr differ ↦ elim differ [
    | inl less ↦ omega (arith, first, second, less)
    | inr more ↦ omega (arith, first, second, more)
  ]
]

-- a search that begins with a page has one at each time
reached_some : (searched : ℕ → Certificate → Type 0) (table : Table) (style : Style) (height most budget begun_least
    begun_width least width : ℕ) → 1 ≤ begun_least → 1 ≤ begun_width →
    IsReached searched table style height most budget begun_least begun_width least width → (1 ≤ least) × (1 ≤ width)
reached_some searched table style height most budget begun_least begun_width least width low wide at_first = (low, wide)
reached_some searched table style height most budget begun_least begun_width least width low wide
    (low_tried {least = before} {width = now} trial reached tried claims) =
    let both = reached_some searched table style height most budget begun_least begun_width before now low wide reached in
    (both.0, by_test both.0 both.1 tried.apart (eqb_tells now 0)) where
      by_test : 1 ≤ before → 1 ≤ now → now ≢ before → ((now == 0) ≡ true) × (now ≡ 0) ⊎ ((now == 0) ≡ false) × (now ≢ 0) →
          1 ≤ trial_between most before now
      by_test some there apart (inl none) = absurd (omega (arith, none.1, there))
      by_test some there apart (inr other) =
          subst (λ (test : Bool). 1 ≤ (if test then most else (before + now - 1) / 2)) (sym other.0)
          (half before now some there apart)
reached_some searched table style height most budget begun_least begun_width least width low wide
    (high_tried {least = before} {width = now} trial reached tried claims) =
    let both = reached_some searched table style height most budget begun_least begun_width before now low wide reached in
    (omega arith, both.1)

-- so a page was found, where one was handed in
pub handed_found : (task : Task) (table : Table) (height budget : ℕ) (handed : Option Certificate)
    (searched : ℕ → Certificate → Type 0) (result : Result Slim AllocError) → 1 ≤ task.width →
    IfSome handed (IsLowCertificate table task.style height task.width budget) →
    IfOk result (λ slim. (own : ℕ) → IsLeastWidth table task.style own → IsBisection searched table task.style height task.width
    budget handed own slim.least slim.width) → IfOk result (λ slim. IfSome handed (λ _. slim.width ≢ 0))
handed_found task table height budget handed searched (Err error) some low order = tt
handed_found task table height budget None searched (Ok slim) some low order = tt
handed_found task table height budget (Some certificate) searched (Ok slim) some low order =
    let own = own_least table task.style task.width low.valid.0 low.valid.1 in
    let reached = reached_some searched table task.style height task.width budget (first_least task.width _) task.width slim.least
    slim.width (least_some task.width _) some (order _ own) in
    λ none. omega (arith, reached.1, none)
  where
    least_some : (most own : ℕ) → 1 ≤ first_least most own
    least_some most own = omega arith
