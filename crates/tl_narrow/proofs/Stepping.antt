-- What is known after each trial, and that each leaves fewer.
use Rattle.std.proofs.Common.{◌≡◌, ◌≢◌, ◌⊎◌, inl, inr, ℕ, ◌+◌, ◌-◌, ◌<◌, ◌≤◌, Option, None, Some, refl, sym, ap, subst, ◌∙◌, arith}
use Rattle.std.specs.Prelude.{IfSome, MatchOption}
use Rattle.std.proofs.lemmas.Bool.{cases_lt}
use Rattle.std.proofs.lemmas.Bool.Decides.{nat_tests}
use Rattle.tl_base.specs.declared.style.Style.{Style}
use Rattle.tl_cert.specs.declared.certificate.Certificate.{Certificate}
use Rattle.tl_cert.specs.declared.certificate.Claim.{Claim}
use Rattle.tl_cert.specs.declared.certificate.Claim.TheVariants as claims
use Rattle.tl_table.specs.declared.cell.Table.{Table}
use Rattle.tl_table.specs.Least.{IsLeastWidth}
use Rattle.tl_narrow.specs.declared.slim.Slim.{Slim}
use Rattle.tl_narrow.specs.Slimmest.{ClaimsHigh, ClaimsLow, ClaimsNeither}
use Rattle.tl_narrow.specs.Slims.{IsHighCertificate, IsSlim, IsSpentBetween, IsSpentCertificate, trial_between}
use Rattle.tl_form.specs.Valid.{IsValid}
use Rattle.tl_narrow.specs.Trials.{IsBisection, IsTriedBetween, high_tried, low_tried}
use Rattle.tl_narrow.specs.inner.Trials.{IsKnown, IsNext, IsSlimSoFar, IsSpentTrial, IsTaken, IsTrial, high_at, left_where, low_at, spent_at, trials_left}

-- ---- one trial

module _ (table : Table) (style : Style) (height most budget : ℕ)
    (slim : Slim) (so_far : IsSlimSoFar table style height most budget slim)
  where
    -- a width that is tried is wide enough for the table
    pub next_wide : (width : ℕ) → IsNext most slim width → (own : ℕ) → IsLeastWidth table style own → own ≤ width
    next_wide width next own is = elim so_far.between.least_wide [
      | inl past ↦ absurd (none (omega (arith, past, next.least, next.within)))
      | inr wide ↦ omega (arith, wide own is, next.least)
    ] where
      none : ⊥ → ⊥
      none bad = bad

    module _ (width : ℕ) (trial : Certificate) (next : IsNext most slim width) (is : IsTrial table style width budget trial) where
      some : 1 ≤ width
      some = omega (arith, so_far.between.least_some, next.least)

      pub low_step : ClaimsLow height trial.claim →
          IsSlimSoFar table style height most budget (low_at width trial slim)
      low_step low = record {
        between = record {
          width_within = next.within;
          least_some = so_far.between.least_some;
          least_within = so_far.between.least_within;
          least_wide = so_far.between.least_wide;
          ordered = λ _. next.least;
          kept = record {
            some = λ none. omega (arith, some, none);
            shown = record { valid = is.valid; low = low; writable = is.writable };
          };
          less = so_far.between.less;
        };
        spent = subst (λ (o : Option Certificate). MatchOption o (Unit {0}) (IsSpentBetween table style height most budget
            slim.least width)) (sym next.unspent) tt;
      }

      pub high_step : ClaimsHigh height trial.claim →
          IsSlimSoFar table style height most budget (high_at width trial slim)
      high_step high =
          let back : width ≡ width + 1 - 1 = omega arith in
          record {
            between = record {
              width_within = so_far.between.width_within;
              least_some = omega arith;
              least_within = omega (arith, next.within);
              least_wide = inr (λ own is_own. omega (arith, next_wide width next own is_own));
              ordered = λ there. omega (arith, next.narrower there);
              kept = so_far.between.kept;
              less = record {
                some = λ one. omega (arith, some, one);
                shown = subst (λ (w : ℕ). IsHighCertificate table style height w budget trial) back
                    (record { valid = is.valid; high = high; writable = is.writable });
              };
            };
            spent = subst (λ (o : Option Certificate). MatchOption o (Unit {0}) (IsSpentBetween table style height most
                budget (width + 1) slim.width)) (sym next.unspent) tt;
          }

      -- a gap is that of a bounded claim
      spent_trial : (claim : Claim) → trial.claim ≡ claim → ClaimsNeither height claim → IsSpentTrial table style width budget trial
      spent_trial (claims.Lowest lowest) claimed neither = absurd neither
      spent_trial (claims.Bounded found lower) claimed neither = is.gap found lower claimed
      spent_trial (claims.Narrow least) claimed neither = absurd neither

      pub spent_step : ClaimsNeither height trial.claim →
          IsSlimSoFar table style height most budget (spent_at trial slim)
      spent_step neither =
          let made = spent_trial trial.claim refl neither in
          record {
            between = record {
              width_within = so_far.between.width_within;
              least_some = so_far.between.least_some;
              least_within = so_far.between.least_within;
              least_wide = so_far.between.least_wide;
              ordered = so_far.between.ordered;
              kept = so_far.between.kept;
              less = so_far.between.less;
            };
            spent = record {
              apart = apart;
              within = omega (arith, next.least, next.within);
              shown = subst (λ (w : ℕ). IsSpentCertificate table style height most w budget trial) next.is (record {
                valid = is.valid;
                neither = neither;
                spent = made.spent;
                below = λ page wide within. made.below page wide;
                writable = is.writable;
              });
            };
          } where
            apart : slim.width ≢ slim.least
            apart same =
                let there : slim.width ≢ 0 = λ none. omega (arith, none, same, so_far.between.least_some) in
                omega (arith, same, next.least, next.narrower there)

    -- ---- the end

    pub ended : (slim.spent ≡ None → (slim.width ≡ slim.least) ⊎ (slim.least ≡ most + 1)) →
        IsSlim table style height most budget slim
    ended last = record { between = so_far.between; spent = by slim.spent so_far.spent last } where
      by : (o : Option Certificate) →
          MatchOption o (Unit {0}) (IsSpentBetween table style height most budget slim.least slim.width) →
          (o ≡ None → (slim.width ≡ slim.least) ⊎ (slim.least ≡ most + 1)) →
          MatchOption o ((slim.width ≡ slim.least) ⊎ (slim.least ≡ most + 1))
          (IsSpentBetween table style height most budget slim.least slim.width)
      by None is end = end refl
      by (Some certificate) is end = is

-- ---- how many trials are left

-- where no trial was spent, so many may follow
pub left_kept : (most : ℕ) (slim : Slim) → slim.spent ≡ None → slim.width ≢ 0 → trials_left most slim ≡ 1 + slim.width - slim.least
left_kept most slim unspent there = ap (left_where most slim) unspent ∙ by_test where
  by_test : left_where most slim None ≡ 1 + slim.width - slim.least
  by_test = grind (arith, nat_tests, there)

pub left_none : (most : ℕ) (slim : Slim) → slim.spent ≡ None → slim.width ≡ 0 → trials_left most slim ≡ 2 + most - slim.least
left_none most slim unspent none = ap (left_where most slim) unspent ∙ by_test where
  by_test : left_where most slim None ≡ 2 + most - slim.least
  by_test = grind (arith, nat_tests, none)

-- ---- all at once

module _ (searched : ℕ → Certificate → Type 0) (table : Table) (style : Style) (height most budget : ℕ)
    (handed : Option Certificate) (slim after : Slim) (known : IsKnown searched table style height most budget handed slim)
    (width : ℕ) (trial : Certificate) (next : IsNext most slim width) (is : IsTrial table style width budget trial)
    (from : searched width trial) where
  -- the page that was due was tried
  due : IsTriedBetween searched table style most budget slim.least slim.width trial
  due = record {
    apart = apart;
    within = omega (arith, next.least, next.within);
    valid = subst (λ (w : ℕ). IsValid table style w budget trial) next.is is.valid;
    from = subst (λ (w : ℕ). searched w trial) next.is from;
  } where
    apart : slim.width ≢ slim.least
    apart same =
        let there : slim.width ≢ 0 = λ none. omega (arith, none, same, known.so_far.between.least_some) in
        omega (arith, same, next.least, next.narrower there)

  no_spent : (P : Certificate → Type 0) → IfSome slim.spent P
  no_spent P = subst (λ (o : Option Certificate). IfSome o P) (sym next.unspent) tt

  by_low : ClaimsLow height trial.claim → IsKnown searched table style height most budget handed (low_at width trial slim)
  by_low low = record {
    so_far = low_step table style height most budget slim known.so_far width trial next is low;
    sources = record {
      kept = inr from;
      less = known.sources.less;
      spent = no_spent (searched (trial_between most slim.least width));
    };
    order = λ own is_own. subst (λ (w : ℕ). IsBisection searched table style height most budget handed own slim.least w)
        (sym next.is) (low_tried trial (known.order own is_own) due low);
  }

  by_high : ClaimsHigh height trial.claim → IsKnown searched table style height most budget handed (high_at width trial slim)
  by_high high = record {
    so_far = high_step table style height most budget slim known.so_far width trial next is high;
    sources = record {
      kept = known.sources.kept;
      less = inr (subst (λ (w : ℕ). searched w trial) back from);
      spent = no_spent (searched (trial_between most (width + 1) slim.width));
    };
    order = λ own is_own. subst (λ (w : ℕ). IsBisection searched table style height most budget handed own (w + 1) slim.width)
        (sym next.is) (high_tried trial (known.order own is_own) due high);
  } where
    back : width ≡ width + 1 - 1
    back = omega arith

  by_spent : ClaimsNeither height trial.claim → IsKnown searched table style height most budget handed (spent_at trial slim)
  by_spent neither = record {
    so_far = spent_step table style height most budget slim known.so_far width trial next is neither;
    sources = record {
      kept = known.sources.kept;
      less = known.sources.less;
      spent = subst (λ (w : ℕ). searched w trial) next.is from;
    };
    order = known.order;
  }

  pub taken : IsTaken height width trial slim after → IsKnown searched table style height most budget handed after
  taken (inl low) = subst (IsKnown searched table style height most budget handed) (sym low.1) (by_low low.0)
  taken (inr (inl high)) = subst (IsKnown searched table style height most budget handed) (sym high.1) (by_high high.0)
  taken (inr (inr neither)) = subst (IsKnown searched table style height most budget handed) (sym neither.1) (by_spent neither.0)

  -- fewer trials are left
  fewer_low : trials_left most (low_at width trial slim) < trials_left most slim
  fewer_low = elim (cases_lt 0 slim.width) [
    | inl some ↦ omega (
      arith,
      left_kept most (low_at width trial slim) next.unspent (λ none. omega (arith, none, from_one)),
      left_kept most slim next.unspent (λ none. omega (arith, none, some)),
      next.narrower (λ none. omega (arith, none, some)),
      next.least,
    )
    | inr none ↦ omega (
      arith,
      left_kept most (low_at width trial slim) next.unspent (λ zero. omega (arith, zero, from_one)),
      left_none most slim next.unspent (omega (arith, none)),
      next.within,
      next.least,
    )
  ] where
    from_one : 1 ≤ width
    from_one = omega (arith, known.so_far.between.least_some, next.least)

  fewer_high : trials_left most (high_at width trial slim) < trials_left most slim
  fewer_high = elim (cases_lt 0 slim.width) [
    | inl some ↦ omega (
      arith,
      left_kept most (high_at width trial slim) next.unspent (λ none. omega (arith, none, some)),
      left_kept most slim next.unspent (λ none. omega (arith, none, some)),
      next.narrower (λ none. omega (arith, none, some)),
      next.least,
    )
    | inr none ↦ omega (
      arith,
      left_none most (high_at width trial slim) next.unspent (omega (arith, none)),
      left_none most slim next.unspent (omega (arith, none)),
      next.within,
      next.least,
    )
  ]

  fewer_spent : trials_left most (spent_at trial slim) < trials_left most slim
  fewer_spent = elim (cases_lt 0 slim.width) [
    | inl some ↦ omega (
      arith,
      left_kept most slim next.unspent (λ none. omega (arith, none, some)),
      next.narrower (λ none. omega (arith, none, some)),
      next.least,
    )
    | inr none ↦ omega (arith, left_none most slim next.unspent (omega (arith, none)), next.within, next.least)
  ]

  pub fewer : IsTaken height width trial slim after → trials_left most after < trials_left most slim
  fewer (inl low) = subst (λ (s : Slim). trials_left most s < trials_left most slim) (sym low.1) fewer_low
  fewer (inr (inl high)) = subst (λ (s : Slim). trials_left most s < trials_left most slim) (sym high.1) fewer_high
  fewer (inr (inr neither)) = subst (λ (s : Slim). trials_left most s < trials_left most slim) (sym neither.1) fewer_spent
