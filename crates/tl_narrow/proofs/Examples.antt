-- The definitions, run on a table that is drawn: two columns, which take 10 columns of text and 2 lines, or 7 and 3.
--
--   |aaa  cc dd|        |aaa  cc|
--   |bbb  ee   |        |bbb  dd|
--                       |     ee|
--
-- On pages of up to 12 columns the narrowest of at most 2 lines has 10: the trials are 12 (low), 9 (high) and 10 (low).
use Rattle.std.proofs.Common.{◌≡◌, ℕ, [], ◌∷◌, None, refl, arith}
use Rattle.tl_base.specs.declared.style.Style.TheVariants.{Plain}
use Rattle.tl_cert.specs.declared.certificate.Certificate.{Certificate}
use Rattle.tl_cert.specs.declared.certificate.Claim.TheVariants.{Lowest, Bounded, Narrow}
use Rattle.tl_cert.specs.declared.section.Section.{Section}
use Rattle.tl_table.specs.declared.cell.Table.{Table}
use Rattle.tl_narrow.specs.Certified.{claim_of}
use Rattle.tl_narrow.specs.Slimmest.{ClaimsHigh, ClaimsLow, ClaimsNeither}
use Rattle.tl_narrow.specs.Slims.{trial_between}
use Rattle.tl_narrow.specs.Trials.{IsReached, IsTriedBetween, at_first, first_least, first_width, high_tried, low_tried}

-- ---- what a claim says of 2 lines

two_are_low : ClaimsLow 2 (Lowest 2)
two_are_low = omega arith

two_are_not_high : ClaimsHigh 2 (Lowest 2) → ⊥
two_are_not_high high = omega (arith, high)

three_are_high : ClaimsHigh 2 (Lowest 3)
three_are_high = omega arith

three_are_not_low : ClaimsLow 2 (Lowest 3) → ⊥
three_are_not_low low = omega (arith, low)

-- where the height found is low enough the lower bound is of no matter
found_is_low : ClaimsLow 2 (Bounded 2 1)
found_is_low = omega arith

-- a lower bound of just as many lines is not above them
bound_as_high : ClaimsNeither 2 (Bounded 3 2)
bound_as_high = (omega arith, omega arith)

bound_as_high_is_not_high : ClaimsHigh 2 (Bounded 3 2) → ⊥
bound_as_high_is_not_high high = omega (arith, high)

bound_is_high : ClaimsHigh 2 (Bounded 4 3)
bound_is_high = omega arith

too_narrow_is_high : ClaimsHigh 2 (Narrow 7)
too_narrow_is_high = tt

too_narrow_is_not_low : ClaimsLow 2 (Narrow 7) → ⊥
too_narrow_is_not_low low = low

-- ---- where a search begins, and what it tries

own_is_first : first_least 500 7 ≡ 7
own_is_first = refl

-- a table without columns takes no column, and pages begin with one
one_is_first : first_least 500 0 ≡ 1
one_is_first = refl

-- no page of up to 5 columns is wide enough
past_is_first : first_least 5 7 ≡ 6
past_is_first = refl

none_is_first : first_width 500 None ≡ 0
none_is_first = refl

widest_is_tried : trial_between 500 7 0 ≡ 500
widest_is_tried = refl

middle_is_tried : trial_between 12 7 12 ≡ 9
middle_is_tried = refl

-- of two pages the narrower one
narrower_is_tried : trial_between 12 10 11 ≡ 10
narrower_is_tried = refl

-- ---- a search, from beginning to end

module _ (searched : ℕ → Certificate → Type 0) (table : Table) (budget : ℕ) (twelve nine ten : Certificate)
    (at_twelve : IsTriedBetween searched table Plain 12 budget 7 0 twelve) (low_twelve : ClaimsLow 2 twelve.claim)
    (at_nine : IsTriedBetween searched table Plain 12 budget 7 12 nine) (high_nine : ClaimsHigh 2 nine.claim)
    (at_ten : IsTriedBetween searched table Plain 12 budget 10 12 ten) (low_ten : ClaimsLow 2 ten.claim) where
  narrowest_is_reached : IsReached searched table Plain 2 12 budget (first_least 12 7) (first_width 12 None) 10 10
  narrowest_is_reached =
      low_tried ten (high_tried nine (low_tried twelve at_first at_twelve low_twelve) at_nine high_nine) at_ten low_ten

-- ---- what is claimed by the last of the sections

abbrev section : ℕ → ℕ → Section
section height lower =
    record { table = 0; width = 12; height = height; lower = lower; widths = []; trace = []; log = [] }

closed_is_lowest : claim_of (section 3 1 ∷ section 2 2 ∷ []) ≡ Lowest 2
closed_is_lowest = refl

open_is_bounded : claim_of (section 2 2 ∷ section 3 1 ∷ []) ≡ Bounded 3 1
open_is_bounded = refl
