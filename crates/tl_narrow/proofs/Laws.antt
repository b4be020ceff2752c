-- What a search for the narrowest page proves of it.
use Rattle.std.proofs.Common.{◌≡◌, ◌≢◌, ◌⊎◌, inl, inr, ℕ, zero, suc, ◌+◌, ◌-◌, ◌<◌, ◌≤◌, Option, None, Some, refl, subst, arith}
use Rattle.std.specs.Prelude.{IfSome, MatchOption}
use Rattle.std.proofs.lemmas.Bool.{cases_lt}
use Rattle.std.proofs.lemmas.Bool.Decides.{nat_tests}
use Rattle.tl_base.specs.declared.style.Style.{Style}
use Rattle.tl_cert.specs.declared.certificate.Certificate.{Certificate}
use Rattle.tl_cert.specs.declared.certificate.Claim.{Claim}
use Rattle.tl_cert.specs.declared.certificate.Claim.TheVariants as claims
use Rattle.tl_cert.specs.Text.{IsWritable}
use Rattle.tl_table.specs.declared.cell.Table.{Table}
use Rattle.tl_table.specs.declared.layout.Layout.{Layout}
use Rattle.tl_table.specs.Layouts.{Fits}
use Rattle.tl_table.specs.Least.{IsLeastHeight, IsLeastWidth}
use Rattle.tl_table.specs.Sound.{IsSound}
use Rattle.tl_form.specs.CountLaws.{AllCountsRise, LeastHeightsExist}
use Rattle.tl_form.specs.Problems.{IsCountAll}
use Rattle.tl_form.specs.Expected.{least_of, own_number}
use Rattle.tl_form.specs.ValidLaws.{BoundedIsBetween, LowestIsLeast, NarrowIsTooWide}
use Rattle.tl_form.proofs.Truth.{Fits-wider}
use Rattle.tl_narrow.specs.declared.slim.Slim.{Slim}
use Rattle.tl_narrow.specs.Slimmest.{ClaimsHigh, ClaimsLow, IsLowOn, IsSlimmestWidth}
use Rattle.tl_narrow.specs.Slims.{IsHighCertificate, IsKept, IsLess, IsLowCertificate, IsSlim, IsSpentBetween, trial_between}
use Rattle.tl_narrow.proofs.Certifying.{own_least}

-- ---- what certificates show

-- a layout of at most so many lines that fits makes a page low
low_by : (table : Table) (style : Style) (height page found : ℕ) (layout : Layout) → IsSound table → LeastHeightsExist →
    Fits table style page found layout → found ≤ height → IsLowOn table style height page
low_by table style height page found layout sound exists fits low =
    let least = exists table style page found layout sound fits in
    record { lowest = least.0; is_lowest = least.1; low = omega (arith, least.1.least found layout fits, low) }

-- the page of a low certificate is low
pub low_shows : (table : Table) (style : Style) (height page budget : ℕ) (certificate : Certificate) → IsSound table →
    LowestIsLeast → BoundedIsBetween → LeastHeightsExist → IsLowCertificate table style height page budget certificate →
    IsLowOn table style height page
low_shows table style height page budget certificate sound lowest_law bounded_law exists is =
    by certificate.claim refl is.low where
      by : (claim : Claim) → certificate.claim ≡ claim → ClaimsLow height claim → IsLowOn table style height page
      by (claims.Lowest lowest) claimed low = record {
        lowest = lowest;
        is_lowest = lowest_law table style page budget certificate lowest sound is.valid claimed;
        low = low;
      }
      by (claims.Bounded found lower) claimed low =
          let between = bounded_law table style page budget certificate found lower sound is.valid claimed in
          low_by table style height page found between.1.attained.0 sound exists between.1.attained.1 low
      by (claims.Narrow least) claimed low = absurd low

-- no layout on the page of a high certificate is low
high_shows : (table : Table) (style : Style) (height page budget : ℕ) (certificate : Certificate) → IsSound table →
    LowestIsLeast → BoundedIsBetween → NarrowIsTooWide → IsHighCertificate table style height page budget certificate →
    (found : ℕ) (layout : Layout) → Fits table style page found layout → height < found
high_shows table style height page budget certificate sound lowest_law bounded_law narrow_law is found layout fits =
    by certificate.claim refl is.high where
      by : (claim : Claim) → certificate.claim ≡ claim → ClaimsHigh height claim → height < found
      by (claims.Lowest lowest) claimed high =
          omega (
            arith,
            high,
            (lowest_law table style page budget certificate lowest sound is.valid claimed).least found layout
                fits,
          )
      by (claims.Bounded other lower) claimed high =
          omega (
            arith,
            high,
            (bounded_law table style page budget certificate other lower sound is.valid claimed).1.never_less
                found layout fits,
          )
      by (claims.Narrow least) claimed high =
          let wide = narrow_law table style page budget certificate least sound is.valid claimed in
          absurd (none (omega (arith, wide.0, wide.1 page found layout fits))) where
            none : ⊥ → ⊥
            none bad = bad

-- ---- the laws

module _ (table : Table) (style : Style) (height most budget : ℕ)
    (slim : Slim) where
  -- no page below `least` is low
  pub low_least : IsSound table → LowestIsLeast → BoundedIsBetween → NarrowIsTooWide →
      IsSlim table style height most budget slim →
      (width : ℕ) → 1 ≤ width → IsLowOn table style height width → slim.least ≤ width
  low_least sound lowest_law bounded_law narrow_law is width some low = by slim.less is.between.less where
    by : (less : Option Certificate) →
        MatchOption less (slim.least ≡ 1) (IsLess table style height most budget slim.least) → slim.least ≤ width
    by None one = omega (arith, one, some)
    by (Some certificate) shown = elim (cases_lt width slim.least) [
      | inr more ↦ more
      | inl fewer ↦ absurd (no (omega (arith, low.low, above fewer)))
    ] where
      above : width < slim.least → height < low.lowest
      above fewer = high_shows table style height (slim.least - 1) budget certificate sound lowest_law bounded_law narrow_law
          shown.shown low.lowest low.is_lowest.attained.0
          (Fits-wider style table width (slim.least - 1) low.lowest low.is_lowest.attained.0 (omega (arith, fewer))
          low.is_lowest.attained.1)

      no : ⊥ → ⊥
      no bad = bad

  -- the page that was kept is low
  pub kept_low : IsSound table → LowestIsLeast → BoundedIsBetween → LeastHeightsExist →
      IsSlim table style height most budget slim → slim.width ≢ 0 → IsLowOn table style height slim.width
  kept_low sound lowest_law bounded_law exists is there = by slim.kept is.between.kept where
    by : (kept : Option Certificate) →
        MatchOption kept (slim.width ≡ 0) (IsKept table style height most budget slim.width) →
        IsLowOn table style height slim.width
    by None none = absurd (there none)
    by (Some certificate) shown =
        low_shows table style height slim.width budget certificate sound lowest_law bounded_law exists shown.shown

  -- where the widths meet, that is the narrowest page
  pub met : IsSound table → LowestIsLeast → BoundedIsBetween → NarrowIsTooWide → LeastHeightsExist →
      IsSlim table style height most budget slim → slim.width ≡ slim.least →
      IsSlimmestWidth table style height most slim.width
  met sound lowest_law bounded_law narrow_law exists is same =
      let some : 1 ≤ slim.width = omega (arith, same, is.between.least_some) in
      record {
        some = some;
        within = is.between.width_within;
        low = kept_low sound lowest_law bounded_law exists is (λ none. omega (arith, none, some));
        least = λ other more within low. omega (arith, same, low_least sound lowest_law bounded_law narrow_law is other more low);
      }

  -- the table has a least width
  own_width : IsSlim table style height most budget slim → slim.width ≢ 0 →
      (own : ℕ) × IsLeastWidth table style own
  own_width is there = by slim.kept is.between.kept where
    by : (kept : Option Certificate) →
        MatchOption kept (slim.width ≡ 0) (IsKept table style height most budget slim.width) →
        (own : ℕ) × IsLeastWidth table style own
    by None none = absurd (there none)
    by (Some certificate) shown =
        let document = shown.shown.valid.0 in
        (least_of document (own_number document), own_least table style slim.width document shown.shown.valid.1)

  -- whether a page is low can be told
  tells_low : IsSound table → LeastHeightsExist → (own : ℕ) → IsLeastWidth table style own → (width : ℕ) →
      IsLowOn table style height width ⊎ (IsLowOn table style height width → ⊥)
  tells_low sound exists own is_own width = elim (cases_lt width own) [
    | inl narrow ↦ inr (λ low. omega (
      arith,
      narrow,
      is_own.least width low.lowest low.is_lowest.attained.0
          low.is_lowest.attained.1,
    ))
    | inr wide ↦ by (exists table style width is_own.attained.0 is_own.attained.1 sound
        (Fits-wider style table own width is_own.attained.0 is_own.attained.1 wide is_own.attained.2))
  ] where
    by : (least : ℕ) × IsLeastHeight table style width least →
        IsLowOn table style height width ⊎ (IsLowOn table style height width → ⊥)
    by least = elim (cases_lt height least.0) [
      | inl high ↦ inr (λ low. omega (
        arith,
        high,
        low.low,
        least.1.least low.lowest low.is_lowest.attained.0
            low.is_lowest.attained.1,
      ))
      | inr low ↦ inl (record { lowest = least.0; is_lowest = least.1; low = low })
    ]

  -- of the pages up to a width none is low, or there is a narrowest one
  search : ((width : ℕ) → IsLowOn table style height width ⊎ (IsLowOn table style height width → ⊥)) → (count : ℕ) →
      count ≤ most →
      ((width : ℕ) → 1 ≤ width → width ≤ count → IsLowOn table style height width → ⊥)
      ⊎ ((width : ℕ) × IsSlimmestWidth table style height most width × (width ≤ count))
  search tells zero within = inl (λ width some none low. omega (arith, some, none))
  search tells (suc count) within = elim (search tells count (omega (arith, within))) [
    | inr found ↦ inr (found.0, found.1, omega (arith, found.2))
    | inl none ↦ elim (tells (suc count)) [
      | inr high ↦ inl (λ width some few low. at_most count width few (none width some) high low)
      | inl low ↦ inr (
        suc count,
        record {
          some = omega arith;
          within = within;
          low = low;
          least = λ other some few is_low. not_below count other some none is_low;
        },
        omega arith,
      )
    ]
  ] where
    at_most : (count width : ℕ) → width ≤ suc count → (width ≤ count → IsLowOn table style height width → ⊥) →
        (IsLowOn table style height (suc count) → ⊥) → IsLowOn table style height width → ⊥
    at_most count width few below at low = elim (cases_lt count width) [
      | inl more ↦ at (subst (IsLowOn table style height) (same count width few more) low)
      | inr fewer ↦ below fewer low
    ] where
      same : (count width : ℕ) → width ≤ suc count → count < width → width ≡ suc count
      same count width few more = omega (arith, few, more)

    not_below : (count other : ℕ) → 1 ≤ other →
        ((width : ℕ) → 1 ≤ width → width ≤ count → IsLowOn table style height width → ⊥) →
        IsLowOn table style height other → suc count ≤ other
    not_below count other some none low = elim (cases_lt count other) [
      | inl more ↦ omega (arith, more)
      | inr fewer ↦ absurd (none other some fewer low)
    ]

  -- where a page was kept there is a narrowest one
  pub has_slimmest : IsSound table → LowestIsLeast → BoundedIsBetween → LeastHeightsExist →
      IsSlim table style height most budget slim → slim.width ≢ 0 →
      (width : ℕ) × IsSlimmestWidth table style height most width × (width ≤ slim.width)
  has_slimmest sound lowest_law bounded_law exists is there =
      let own = own_width is there in
      elim (search (tells_low sound exists own.0 own.1) slim.width is.between.width_within) [
        | inr found ↦ found
        | inl none ↦ absurd (none slim.width (positive slim.width there) (omega arith)
            (kept_low sound lowest_law bounded_law exists is there))
      ] where
        positive : (n : ℕ) → n ≢ 0 → 1 ≤ n
        positive n some = omega (arith, some)

  -- a trial is of no page wider than the widest
  within_most : IsSlim table style height most budget slim →
      trial_between most slim.least slim.width ≤ most
  within_most is = elim (cases_lt 0 slim.width) [
    | inl some ↦ by_test some (is.between.ordered (λ none. omega (arith, none, some)))
    | inr none ↦ by_none none
  ] where
    by_test : 0 < slim.width → slim.least ≤ slim.width → trial_between most slim.least slim.width ≤ most
    by_test some ordered = grind (arith, nat_tests, some, ordered, is.between.width_within)

    by_none : slim.width ≤ 0 → trial_between most slim.least slim.width ≤ most
    by_none none = grind (arith, nat_tests, none)

  pub enough : AllCountsRise → (count : ℕ) → IsSlim table style height most budget slim →
      IsCountAll table style most count → count ≤ budget → slim.spent ≡ None
  enough rise count is counted more = by slim.spent is.spent where
    by : (spent : Option Certificate) →
        MatchOption spent ((slim.width ≡ slim.least) ⊎ (slim.least ≡ most + 1))
        (IsSpentBetween table style height most budget slim.least slim.width) → spent ≡ None
    by None end = refl
    by (Some certificate) shown =
        let below = shown.shown.below most (within_most is) (omega arith) in
        absurd (no (omega (arith, below.2, more, rise table style most most below.0 count (omega arith) below.1 counted))) where
          no : ⊥ → ⊥
          no bad = bad

-- ---- each certificate by itself

module _ (table : Table) (style : Style) (height most budget : ℕ) (slim : Slim)
    (is : IsSlim table style height most budget slim) where
  -- the certificate that was kept is low
  pub kept_is_low : IfSome slim.kept (IsLowCertificate table style height slim.width budget)
  kept_is_low = by slim.kept is.between.kept where
    by : (o : Option Certificate) → MatchOption o (slim.width ≡ 0) (IsKept table style height most budget slim.width) →
        IfSome o (IsLowCertificate table style height slim.width budget)
    by None none = tt
    by (Some certificate) shown = shown.shown

  -- each can be written
  pub kept_writable : IfSome slim.kept IsWritable
  kept_writable = by slim.kept is.between.kept where
    by : (o : Option Certificate) → MatchOption o (slim.width ≡ 0) (IsKept table style height most budget slim.width) →
        IfSome o IsWritable
    by None none = tt
    by (Some certificate) shown = shown.shown.writable

  pub less_writable : IfSome slim.less IsWritable
  less_writable = by slim.less is.between.less where
    by : (o : Option Certificate) → MatchOption o (slim.least ≡ 1) (IsLess table style height most budget slim.least) →
        IfSome o IsWritable
    by None none = tt
    by (Some certificate) shown = shown.shown.writable

  pub spent_writable : IfSome slim.spent IsWritable
  spent_writable = by slim.spent is.spent where
    by : (o : Option Certificate) → MatchOption o ((slim.width ≡ slim.least) ⊎ (slim.least ≡ most + 1))
        (IsSpentBetween table style height most budget slim.least slim.width) → IfSome o IsWritable
    by None end = tt
    by (Some certificate) shown = shown.shown.writable
