-- What is known before the first trial.
use Rattle.std.proofs.Common.{◌≡◌, ◌≢◌, ◌⊎◌, inl, inr, ℕ, ◌+◌, ◌-◌, ◌<◌, ◌≤◌, Option, None, Some, refl, sym, subst, arith}
use Rattle.std.specs.Prelude.{IfSome, MatchOption}
use Rattle.std.proofs.lemmas.Bool.{cases_lt}
use Rattle.tl_base.specs.declared.style.Style.{Style}
use Rattle.tl_cert.specs.declared.certificate.Certificate.{Certificate}
use Rattle.tl_cert.specs.declared.certificate.Claim.{Claim}
use Rattle.tl_cert.specs.declared.certificate.Claim.TheVariants as claims
use Rattle.tl_cert.specs.Text.{IsNarrow}
use Rattle.tl_table.specs.declared.cell.Table.{Table}
use Rattle.tl_table.specs.Least.{IsLeastWidth}
use Rattle.tl_table.proofs.LinkLemmas.{IsLeastWidth-unique}
use Rattle.tl_form.specs.Expected.{least_of, own_number}
use Rattle.tl_narrow.specs.declared.slim.Slim.{Slim}
use Rattle.tl_narrow.specs.Slimmest.{ClaimsHigh, ClaimsLow}
use Rattle.tl_narrow.specs.Slims.{IsKept, IsLess, IsLowCertificate, trial_between}
use Rattle.tl_narrow.specs.Trials.{IsBisection, at_first, first_least, first_width}
use Rattle.tl_narrow.specs.inner.Trials.{IsChainBelow, IsKnown, IsSlimSoFar}
use Rattle.tl_narrow.proofs.Certifying.{own_least}

-- a claim of a low page is not that the page is too narrow
pub low_is_wide : (height : ℕ) (claim : Claim) → ClaimsLow height claim → IsNarrow claim → ⊥
low_is_wide height (claims.Lowest lowest) low narrow = narrow
low_is_wide height (claims.Bounded found lower) low narrow = narrow
low_is_wide height (claims.Narrow least) low narrow = low

-- a chain is a claim of no page, whatever the height
narrow_is_high : (height : ℕ) (claim : Claim) → IsNarrow claim → ClaimsHigh height claim
narrow_is_high height (claims.Lowest lowest) narrow = absurd narrow
narrow_is_high height (claims.Bounded found lower) narrow = absurd narrow
narrow_is_high height (claims.Narrow least) narrow = tt

-- the page of a low certificate is wide enough for the table
pub low_page_is_wide : (table : Table) (style : Style) (height page budget own : ℕ) (certificate : Certificate) →
    IsLowCertificate table style height page budget certificate → IsLeastWidth table style own → own ≤ page
low_page_is_wide table style height page budget own certificate is is_own = elim (cases_lt page own) [
  | inr wide ↦ wide
  | inl narrow ↦ absurd (low_is_wide height certificate.claim is.low (is.valid.2.claim.kind.1 (less narrow)))
] where
  less : page < own → is.valid.0.page < least_of is.valid.0 (own_number is.valid.0)
  less narrow =
      let same = IsLeastWidth-unique table style own (least_of is.valid.0 (own_number is.valid.0)) is_own
      (own_least table style page is.valid.0 is.valid.1) in
      omega (arith, same, narrow, is.valid.1.wide)

module _ (table : Table) (style : Style) (height most budget own least width : ℕ) (kept less : Option Certificate)
    (some : 1 ≤ most) (is_own : IsLeastWidth table style own)
    (least_some : 1 ≤ least) (least_within : least ≤ most + 1) (least_wide : (least ≡ most + 1) ⊎ (own ≤ least))
    (least_few : own ≤ most → least ≤ most)
    (low : IfSome kept (IsLowCertificate table style height most budget))
    (width_is : width ≡ first_width most kept)
    (none : less ≡ None → least ≤ 1) (below : IfSome less (IsChainBelow table style budget least)) where
  kept_by : (kept : Option Certificate) → IfSome kept (IsLowCertificate table style height most budget) →
      width ≡ first_width most kept →
      MatchOption kept (width ≡ 0) (IsKept table style height most budget width)
  kept_by None low width_is = width_is
  kept_by (Some certificate) low width_is = record {
    some = λ zero. omega (arith, zero, width_is, some);
    shown = subst (λ (w : ℕ). IsLowCertificate table style height w budget certificate) (sym width_is) low;
  }

  less_by : (less : Option Certificate) → (less ≡ None → least ≤ 1) → IfSome less (IsChainBelow table style budget least) →
      MatchOption less (least ≡ 1) (IsLess table style height most budget least)
  less_by None none below = omega (arith, none refl, least_some)
  less_by (Some certificate) none below = record {
    some = λ one. omega (arith, one, below.some);
    shown = record {
      valid = below.valid;
      high = narrow_is_high height certificate.claim below.chain;
      writable = below.writable;
    };
  }

  ordered : (kept : Option Certificate) → IfSome kept (IsLowCertificate table style height most budget) →
      width ≡ first_width most kept → width ≢ 0 → least ≤ width
  ordered None low width_is there = absurd (there width_is)
  ordered (Some certificate) low width_is there =
      omega (arith, width_is, least_few (low_page_is_wide table style height most budget own certificate low is_own))

  width_within : (kept : Option Certificate) → width ≡ first_width most kept → width ≤ most
  width_within None width_is = omega (arith, width_is)
  width_within (Some certificate) width_is = omega (arith, width_is)

  wide : (least ≡ most + 1) ⊎ (own ≤ least) → (least ≡ most + 1) ⊎ ((other : ℕ) → IsLeastWidth table style other → other ≤ least)
  wide (inl past) = inl past
  wide (inr more) = inr (λ other is. omega (arith, IsLeastWidth-unique table style own other is_own is, more))

  pub begun : IsSlimSoFar table style height most budget
      (record { width = width; least = least; kept = kept; less = less; spent = None })
  begun = record {
    between = record {
      width_within = width_within kept width_is;
      least_some = least_some;
      least_within = least_within;
      least_wide = wide least_wide;
      ordered = ordered kept low width_is;
      kept = kept_by kept low width_is;
      less = less_by less none below;
    };
    spent = tt;
  }

-- what is known where a search begins
pub known_first : (searched : ℕ → Certificate → Type 0) (table : Table) (style : Style) (height most budget : ℕ)
    (handed : Option Certificate) (slim : Slim) → IsSlimSoFar table style height most budget slim → slim.kept ≡ handed →
    IfSome slim.less (λ certificate. IsNarrow certificate.claim) → slim.spent ≡ None → slim.width ≡ first_width most handed →
    ((own : ℕ) → IsLeastWidth table style own → slim.least ≡ first_least most own) →
    IsKnown searched table style height most budget handed slim
known_first searched table style height most budget handed slim so_far kept less unspent width least = record {
  so_far = so_far;
  sources = record {
    kept = kept_by slim.kept kept;
    less = less_by slim.less less;
    spent = subst (λ (o : Option Certificate). IfSome o (searched (trial_between most slim.least slim.width))) (sym unspent) tt;
  };
  order = λ own is. subst (λ (l : ℕ). IsBisection searched table style height most budget handed own l slim.width)
      (sym (least own is)) (subst (λ (w : ℕ). IsBisection searched table style height most budget handed own
      (first_least most own) w) (sym width) (begun_there own));
} where
  begun_there : (own : ℕ) → IsBisection searched table style height most budget handed own (first_least most own)
      (first_width most handed)
  begun_there own = at_first

  kept_by : (o : Option Certificate) → o ≡ handed →
      IfSome o (λ certificate. (handed ≡ Some certificate) ⊎ searched slim.width certificate)
  kept_by None is = tt
  kept_by (Some certificate) is = inl (sym is)

  less_by : (o : Option Certificate) → IfSome o (λ certificate. IsNarrow certificate.claim) →
      IfSome o (λ certificate. IsNarrow certificate.claim ⊎ searched (slim.least - 1) certificate)
  less_by None chain = tt
  less_by (Some certificate) chain = inl chain
