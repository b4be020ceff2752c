-- The certificate of the narrowest page that is as low as any stays one of a page that is so low, where its own table is laid out
-- by a tight placement that is no higher.
use Rattle.std.proofs.Common.{◌≡◌, ◌∙◌, inl, inr, ℕ, ◌+◌, ◌-◌, ◌<◌, ◌≤◌, List, length, get_or, take, Option, Some, refl, sym, ap, subst, arith}
use Rattle.std.specs.Prelude.{IsSome, MatchOption}
use Rattle.std.proofs.lemmas.Bool.{cases_lt}
use Rattle.std.specs.List.{All}
use Rattle.tl_nested.proofs.Written.{spaced_within}
use Rattle.tl_base.specs.declared.limits.TheConstants.{MAX_BUDGET, MAX_PAGE_WIDTH}
use Rattle.tl_base.specs.declared.style.Style.{Style}
use Rattle.tl_base.specs.Style.{gap_of, edges_of}
use Rattle.tl_base.proofs.SizeLaws.{sum-total}
use Rattle.tl_base.proofs.Sums.{sum-within}
use Rattle.tl_problem.specs.declared.placed.Placed.{Placed}
use Rattle.tl_problem.specs.Problem.{ProblemModel, total_height, total_width}
use Rattle.tl_problem.specs.Layouts.{WithinPage}
use Rattle.tl_problem.specs.Tight.{IsTight}
use Rattle.tl_cert.specs.declared.certificate.Certificate.{Certificate}
use Rattle.tl_cert.specs.declared.certificate.Claim.{Claim}
use Rattle.tl_cert.specs.declared.certificate.Claim.TheVariants as claims
use Rattle.tl_cert.specs.declared.section.Section.{Section}
use Rattle.tl_cert.specs.Text.{IsNarrow}
use Rattle.tl_table.specs.declared.cell.Table.{Table, out-Table}
use Rattle.tl_table.specs.declared.layout.Layout.{Layout}
use Rattle.tl_table.specs.Layouts.{Fits}
use Rattle.tl_table.specs.Least.{IsLeastHeight, IsLeastWidth}
use Rattle.tl_table.specs.Sound.{IsSound}
use Rattle.tl_table.proofs.LinkLemmas.{IsLeastWidth-unique}
use Rattle.tl_form.specs.declared.laid.Laid.{Laid}
use Rattle.tl_form.specs.Expected.{Document, IsDocumentOf, IsTableOf, least_of, own_number}
use Rattle.tl_form.specs.Nested.{AreInnerSteps, IsProblemFor}
use Rattle.tl_form.specs.Problems.{IsProblemOf}
use Rattle.tl_form.specs.Valid.{AreWhole, EndsWith, HasNumbers, HasPlacement, IsProblemAt, IsShown, IsValid}
use Rattle.tl_form.proofs.NamedSteps.{by_low, by_high, is_some_by}
use Rattle.tl_form.proofs.Placing.{for_one}
use Rattle.tl_form.proofs.Truth.{Fits-wider, IsTrue, all_true, high_is_above}
use Rattle.tl_form.proofs.ValidLaws.{IsOwnLast, between, ends, no_section, own_last, shown_by_sections}
use Rattle.tl_narrow.specs.Slimmest.{ClaimsLow}
use Rattle.tl_narrow.specs.Slims.{IsLowCertificate}
use Rattle.tl_tidy.specs.Classes.{HoldsLow}
use Rattle.tl_tidy.proofs.WalkLaws.{placement-holds}
use Rattle.tl_lay.specs.Tidied.{IsOwnProblem, laid_with, with_last}
use Rattle.tl_narrow.proofs.Certifying.{own_least}
use Rattle.tl_narrow.proofs.Beginning.{low_is_wide}
use Rattle.tl_lay.proofs.LastWidths.{ends_kept, whole_changed, writable_with}

-- the section with the numbers of a claim of few lines is as low
numbers_low : (height : ℕ) (claim : Claim) (section : Section) → ClaimsLow height claim → HasNumbers claim section →
    section.height ≤ height
numbers_low height (claims.Lowest lowest) section low has = omega (arith, low, has.0)
numbers_low height (claims.Bounded found lower) section low has = omega (arith, low, has.0)
numbers_low height (claims.Narrow least) section low has = absurd low

-- sections with the numbers of one claim are as high
one_height : (claim : Claim) (one other : Section) → (IsNarrow claim → ⊥) → HasNumbers claim one → HasNumbers claim other →
    one.height ≡ other.height
one_height (claims.Lowest lowest) one other wide is are = is.0 ∙ sym are.0
one_height (claims.Bounded found lower) one other wide is are = is.0 ∙ sym are.0
one_height (claims.Narrow least) one other wide is are = absurd is

shown_with : (document : Document) (budget : ℕ) (c : Certificate) (widths : List ℕ) (claim : Claim) → (IsNarrow claim → ⊥) →
    AreWhole document budget (with_last c.sections widths) → EndsWith claim (with_last c.sections widths) →
    IsShown document budget (laid_with c widths) claim
shown_with document budget c widths (claims.Lowest height) wide whole with_numbers = (whole, with_numbers)
shown_with document budget c widths (claims.Bounded height lower) wide whole with_numbers = (whole, with_numbers)
shown_with document budget c widths (claims.Narrow least) wide whole with_numbers = absurd (wide tt)

-- a section of the table was laid out on the sections before, or never can be
abbrev pub IsLaidOn : Table → Style → Section → List Section → Laid → Type 0
IsLaidOn table style section before laid = IsProblemFor table style section.width before laid.problem
    × HasPlacement section laid.problem laid.placed

abbrev pub IsNeverLaid : Table → Style → Section → List Section → Type 0
IsNeverLaid table style section before = (problem : ProblemModel) (placed : Placed) →
    IsProblemFor table style section.width before problem → HasPlacement section problem placed → ⊥

module _ (table : Table) (style : Style) (height width budget : ℕ) (sound : IsSound table) (c : Certificate)
    (low : IsLowCertificate table style height width budget c) where
  abbrev pub document : Document
  document = low.valid.0

  pub of : IsDocumentOf table style width document
  of = low.valid.1

  pub sound_document : IsSound document.table
  sound_document = subst IsSound (sym of.same) sound

  pub wide : IsNarrow c.claim → ⊥
  wide = low_is_wide height c.claim low.low

  pub shown : AreWhole document budget c.sections × EndsWith c.claim c.sections
  shown = shown_by_sections document budget c c.claim low.valid.2.shown wide

  some_number : own_number document ≤ document.last
  some_number = omega (arith, of.numbers)

  own_there : IsOwnLast document c.sections
  own_there = own_last document budget c.sections some_number shown.0

  abbrev pub n : ℕ
  n = length c.sections - 1

  pub last : n + 1 ≡ length c.sections
  last = omega (arith, own_there.last)

  at : own_there.n ≡ n
  at = omega (arith, own_there.last)

  own_table : (d : Section) → (get_or c.sections n d).table ≡ own_number document
  own_table d = subst (λ (k : ℕ). (get_or c.sections k d).table ≡ own_number document) at (own_there.of d)

  pub own_width : (d : Section) → (get_or c.sections n d).width ≡ width
  own_width d = subst (λ (k : ℕ). (get_or c.sections k d).width ≡ width) at (own_there.whole d ∙ of.wide)

  pub section_low : (d : Section) → (get_or c.sections n d).height ≤ height
  section_low d = numbers_low height c.claim (get_or c.sections n d) low.low (ends c.claim c.sections n d last shown.1)

  pub own_named : (d : Section) → IsTableOf document (get_or c.sections n d).table table
  own_named d = record {
    among = inl of.same;
    numbered = ap (λ (t : Table). (out-Table t).number) (sym of.same) ∙ sym (own_table d);
  }

  -- the page is as wide as some layout needs
  pub page_wide : (least : ℕ) → IsLeastWidth table style least → least ≤ width
  page_wide least is = elim (cases_lt width least) [
    | inl less ↦ absurd (wide (low.valid.2.claim.kind.1 (narrower less)))
    | inr more ↦ more
  ] where
    same : least ≡ least_of document (own_number document)
    same = IsLeastWidth-unique table style least (least_of document (own_number document)) is
        (own_least table style width document of)

    narrower : width < least → document.page < least_of document (own_number document)
    narrower less = omega (arith, less, same, of.wide)

  -- the last section has a placement on its problem
  pub laid_there : (d : Section) → (problem : ProblemModel) × (placed : Placed)
      × IsProblemFor table style (get_or c.sections n d).width (take n c.sections) problem
      × HasPlacement (get_or c.sections n d) problem placed
  laid_there d =
      let good = shown.0.good n d (omega (arith, last)) in
      let laid = good.laid in
      let found = for_one document sound_document (take n c.sections) (get_or c.sections n d) table (own_named d) good.problem
      laid.own in (
        good.problem,
        laid.placed,
        subst (λ (s : Style). IsProblemFor table s (get_or c.sections n d).width (take n c.sections) good.problem) of.drawn found,
        laid.placement,
      )

  -- that problem is the one of the certificate
  pub problem_of_last : (d : Section) (problem : ProblemModel) →
      IsProblemFor table style (get_or c.sections n d).width (take n c.sections) problem → IsOwnProblem table style c problem
  problem_of_last d problem is =
      subst (λ (w : ℕ). IsProblemFor table style w (take n c.sections) problem) same is
    where
      same : (get_or c.sections n d).width ≡ c.width
      same = let claim = low.valid.2.claim.wide in own_width d ∙ sym of.wide ∙ sym claim

  -- and holds a layout that is low enough
  pub holds_low : (d : Section) (problem : ProblemModel) (placed : Placed) →
      IsProblemFor table style (get_or c.sections n d).width (take n c.sections) problem →
      HasPlacement (get_or c.sections n d) problem placed → HoldsLow problem height (WithinPage problem)
  holds_low d problem placed is has =
      placement-holds problem is.sound height placed has.tight.placement (omega (arith, has.high, section_low d))

  -- what laying the last section out finds
  module _ (section : Section) (is : section ≡ get_or c.sections n section) where
    pub section_wide : (least : ℕ) → IsLeastWidth table style least → least ≤ section.width
    section_wide least of_table =
        omega (arith, page_wide least of_table, ap (λ (s : Section). s.width) is, own_width section)

    pub laid_found : (o : Option Laid) →
        MatchOption o (IsNeverLaid table style section (take n c.sections)) (IsLaidOn table style section (take n c.sections)) →
        IsSome o
    laid_found o found = subst (λ (one : Option Laid). IsSome one) (sym some.1) refl where
      none : IsNeverLaid table style section (take n c.sections) → ⊥
      none never =
          let there = laid_there section in
          never there.0 there.1
          (subst (λ (s : Section). IsProblemFor table style s.width (take n c.sections) there.0) (sym is) there.2)
          (subst (λ (s : Section). HasPlacement s there.0 there.1) (sym is) there.3)

      some : (x : Laid) × (o ≡ Some x)
      some = is_some_by o (IsNeverLaid table style section (take n c.sections))
          (IsLaidOn table style section (take n c.sections)) none found

    pub own_of : (laid : Laid) → IsLaidOn table style section (take n c.sections) laid →
        IsOwnProblem table style c laid.problem
    own_of laid both = problem_of_last section laid.problem
        (subst (λ (s : Section). IsProblemFor table style s.width (take n c.sections) laid.problem) is both.0)

    pub low_of : (laid : Laid) → IsLaidOn table style section (take n c.sections) laid →
        HoldsLow laid.problem height (WithinPage laid.problem)
    low_of laid both = holds_low section laid.problem laid.placed
        (subst (λ (s : Section). IsProblemFor table style s.width (take n c.sections) laid.problem) is both.0)
        (subst (λ (s : Section). HasPlacement s laid.problem laid.placed) is both.1)

  -- the problem of the certificate is that of its last section
  abbrev pub problem_at_last : (problem : ProblemModel) → IsOwnProblem table style c problem → (d : Section) →
      IsProblemAt document (take n c.sections) (get_or c.sections n d) problem
  problem_at_last problem is d = record {
    one = table;
    named = own_named d;
    inner = is.inner;
    steps = subst (λ (w : ℕ). AreInnerSteps table document.style w (take n c.sections) is.inner) wide_same
        (subst (λ (s : Style). AreInnerSteps table s c.width (take n c.sections) is.inner) (sym of.drawn) is.steps);
    made = subst (λ (w : ℕ). IsProblemOf table document.style w is.inner problem) wide_same
        (subst (λ (s : Style). IsProblemOf table s c.width is.inner problem) (sym of.drawn) is.made);
    sound = is.sound;
  } where
    wide_same : c.width ≡ (get_or c.sections n d).width
    wide_same = let claim = low.valid.2.claim.wide in claim ∙ of.wide ∙ sym (own_width d)

  -- a placement on it is a layout of the table, which fits the page
  module _ (problem : ProblemModel) (is : IsOwnProblem table style c problem) (placed : Placed) (tight : IsTight problem placed)
    where
      abbrev own : (d : Section) → IsProblemAt document (take n c.sections) (get_or c.sections n d) problem
      own = problem_at_last problem is

      true_before : All (IsTrue document) (take n c.sections)
      true_before = all_true by_low by_high document sound_document budget c.sections n (omega (arith, last))
          (λ i d less. shown.0.good i d (omega (arith, less, last)))

      laid : (layout : Layout) × Fits table style (total_width problem placed.widths) (total_height problem placed.heights) layout
      laid =
          let one = own no_section in
          let found = by_high table document.style (get_or c.sections n no_section).width one.inner problem one.made one.sound
          (high_is_above document sound_document (take n c.sections) true_before table (inl of.same)
          (get_or c.sections n no_section).width one.inner one.steps)
          placed.widths placed.heights
          (record { page = tight.placement.page; enough = tight.placement.rows.kind }) in (
            found.0,
            subst (λ (s : Style). Fits table s (total_width problem placed.widths)
                (total_height problem placed.heights) found.0) of.drawn found.1,
          )

      problem_wide : problem.width ≡ width
      problem_wide = let one = own no_section in one.made.wide ∙ own_width no_section

      placed_fits : (layout : Layout) × Fits table style width placed.height layout
      placed_fits = (
        laid.0,
        subst (λ (h : ℕ). Fits table style width h laid.0) (sym tight.placement.height)
            (Fits-wider style table (total_width problem placed.widths) width (total_height problem placed.heights) laid.0
            (omega (arith, tight.placement.page.page, problem_wide)) laid.1),
      )

      -- where no layout is lower, on a page that is no narrower, the placement is as high as that of the section
      module _ (most : ℕ) (least : IsLeastHeight table style most height) (upto : width ≤ most) (few : placed.height ≤ height)
        where
          placed_high : height ≤ placed.height
          placed_high = least.least placed.height placed_fits.0
              (Fits-wider style table width most placed.height placed_fits.0 upto placed_fits.1)

          section_high : (d : Section) → height ≤ (get_or c.sections n d).height
          section_high d =
              let found = between by_low by_high table style width budget sound document of c.sections c.claim d shown.0 shown.1 in
              let layout = found.2.attained in
              let same = one_height c.claim found.0 (get_or c.sections n d) (λ narrow. wide narrow) found.1
              (ends c.claim c.sections n d last shown.1) in
              omega (
                arith,
                least.least found.0.height layout.0
                    (Fits-wider style table width most found.0.height layout.0 upto layout.1),
                same,
              )

          as_high : (d : Section) → placed.height ≡ (get_or c.sections n d).height
          as_high d = omega (arith, placed_high, few, section_high d, section_low d)

          valid_with : IsValid table style width budget (laid_with c placed.widths)
          valid_with = (
            document,
            of,
            record {
              claim = record {
                wide = low.valid.2.claim.wide;
                drawn = low.valid.2.claim.drawn;
                cuts = low.valid.2.claim.cuts;
                kind = low.valid.2.claim.kind;
              };
              shown = shown_with document budget c placed.widths c.claim wide
                  (whole_changed document sound_document budget c.sections shown.0 n last problem own placed tight as_high)
                  (ends_kept c.claim c.sections placed.widths n no_section last shown.1);
            },
          )

          pub low_with : 1 ≤ width → width ≤ MAX_PAGE_WIDTH → budget ≤ MAX_BUDGET →
              IsLowCertificate table style height width budget (laid_with c placed.widths)
          low_with some narrow cuts = record {
            valid = valid_with;
            low = low.low;
            writable = writable_with c low.writable (omega (arith, page, some)) (omega (arith, page, narrow))
                (let claim = low.valid.2.claim.cuts in omega (arith, claim, cuts)) wide placed.widths
                (omega (arith, tight.placement.page.columns, (own no_section).sound.few_columns))
                (spaced_within placed.widths (sum-within MAX_PAGE_WIDTH placed.widths (omega (
                  arith,
                  sum-total problem.spacing.gap problem.spacing.edges placed.widths,
                  tight.placement.page.page,
                  problem_wide,
                  narrow,
                ))));
          } where
            page : c.width ≡ width
            page = let claim = low.valid.2.claim.wide in claim ∙ of.wide
