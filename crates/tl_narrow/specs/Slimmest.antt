-- The narrowest page on which a table is no higher than asked for, and what a certificate's claim says of such a height.
use Rattle.std.specs.Prelude.{ℕ, ◌<◌, ◌≤◌}
use Rattle.tl_base.specs.declared.style.Style.{Style}
use Rattle.tl_cert.specs.declared.certificate.Claim.{Claim}
use Rattle.tl_cert.specs.declared.certificate.Claim.TheVariants.{Lowest, Bounded, Narrow}
use Rattle.tl_table.specs.declared.cell.Table.{Table}
use Rattle.tl_table.specs.Least.{IsLeastHeight}
use Rattle.tl_form.specs.Problems.{IsCountAll}

-- ---- the narrowest page

-- on a page of `width` columns the least height of the table is at most `height`
pub record IsLowOn (table : Table) (style : Style) (height width : ℕ) : Type 0 where
  pub lowest : ℕ
  pub is_lowest : IsLeastHeight table style width lowest
  pub low : lowest ≤ height

-- `width` is the least width of a page, from 1 column to `most`, on which the table is so low
pub record IsSlimmestWidth (table : Table) (style : Style) (height most width : ℕ) : Type 0 where
  pub some : 1 ≤ width
  pub within : width ≤ most
  pub low : IsLowOn table style height width
  pub least : (other : ℕ) → 1 ≤ other → other ≤ most → IsLowOn table style height other → width ≤ other

-- ---- what a claim says of a height

-- a page of at most `height` lines is claimed
abbrev pub ClaimsLow : ℕ → Claim → Type 0
ClaimsLow height (Lowest lowest) = lowest ≤ height
ClaimsLow height (Bounded found lower) = found ≤ height
ClaimsLow height (Narrow least) = ⊥

-- it is claimed that no page has so few as `height` lines: each has more, or there is none
abbrev pub ClaimsHigh : ℕ → Claim → Type 0
ClaimsHigh height (Lowest lowest) = height < lowest
ClaimsHigh height (Bounded found lower) = height < lower
ClaimsHigh height (Narrow least) = Unit {0}

-- neither is claimed: the page that was found is higher, and the lower bound is not
abbrev pub ClaimsNeither : ℕ → Claim → Type 0
ClaimsNeither height (Lowest lowest) = ⊥
ClaimsNeither height (Bounded found lower) = (height < found) × (lower ≤ height)
ClaimsNeither height (Narrow least) = ⊥

-- ---- counts

-- the budget is below the greatest count of the table and those nested in it, on a page of so many columns
abbrev pub IsBelowCounts : Table → Style → ℕ → ℕ → Type 0
IsBelowCounts table style width budget = (most : ℕ) × IsCountAll table style width most × (budget < most)
