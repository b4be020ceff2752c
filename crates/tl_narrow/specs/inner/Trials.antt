-- How a search for the narrowest page goes on. No public clause cites this file.
use Rattle.std.specs.Prelude.{◌≡◌, ◌≢◌, ◌⊎◌, ℕ, ◌+◌, ◌-◌, ◌<◌, ◌≤◌, ◌==◌, if◌then◌else◌, Option, None, Some, MatchOption}
use Rattle.std.specs.List.{Any}
use Rattle.tl_base.specs.declared.style.Style.{Style}
use Rattle.tl_cert.specs.declared.certificate.Certificate.{Certificate}
use Rattle.tl_cert.specs.declared.certificate.Claim.{Claim}
use Rattle.tl_cert.specs.declared.certificate.Claim.TheVariants.{Bounded}
use Rattle.tl_cert.specs.Text.{IsNarrow, IsWritable}
use Rattle.tl_table.specs.declared.cell.Table.{Table}
use Rattle.tl_table.specs.Least.{IsLeastWidth}
use Rattle.tl_form.specs.OpenLaws.{IsSpent}
use Rattle.tl_form.specs.Valid.{IsValid}
use Rattle.tl_narrow.specs.declared.slim.Slim.{Slim}
use Rattle.tl_narrow.specs.declared.trials.TrialResult.{TrialResult}
use Rattle.tl_narrow.specs.declared.trials.TrialResult.TheVariants.{Low, High, Neither}
use Rattle.tl_narrow.specs.Trials.{IsBisection}
use Rattle.tl_narrow.specs.Slimmest.{ClaimsHigh, ClaimsLow, ClaimsNeither, IsBelowCounts}
use Rattle.tl_narrow.specs.Slims.{AreSearched, IsBetweenWidths, IsSpentBetween, trial_between}

-- ---- one trial

-- what a claim tells of a height
abbrev pub Tells : ℕ → Claim → TrialResult → Type 0
Tells height claim Low = ClaimsLow height claim
Tells height claim High = ClaimsHigh height claim
Tells height claim Neither = ClaimsNeither height claim

-- some section made all cuts of the budget, which is below the counts of this page and of each wider one
pub record IsSpentTrial (table : Table) (style : Style) (width budget : ℕ) (certificate : Certificate) : Type 0 where
  pub spent : Any (IsSpent budget) certificate.sections
  pub below : (page : ℕ) → width ≤ page → IsBelowCounts table style page budget

-- the certificate of a trial: where it leaves a gap, the budget was spent
pub record IsTrial (table : Table) (style : Style) (width budget : ℕ) (certificate : Certificate) : Type 0 where
  pub valid : IsValid table style width budget certificate
  pub writable : IsWritable certificate
  pub wide : IsNarrow certificate.claim → ⊥
  pub gap : (found lower : ℕ) → certificate.claim ≡ Bounded found lower → IsSpentTrial table style width budget certificate

-- the certificate shows by a chain that the page one column narrower than `least` is too narrow
pub record IsChainBelow (table : Table) (style : Style) (budget least : ℕ) (certificate : Certificate) : Type 0 where
  pub some : 1 < least
  pub chain : IsNarrow certificate.claim
  pub valid : IsValid table style (least - 1) budget certificate
  pub writable : IsWritable certificate

-- ---- what is known

-- the width that is tried next: it may be low enough, and is narrower than each page that is known to be
pub record IsNext (most : ℕ) (slim : Slim) (width : ℕ) : Type 0 where
  pub unspent : slim.spent ≡ None
  pub is : width ≡ trial_between most slim.least slim.width
  pub least : slim.least ≤ width
  pub within : width ≤ most
  pub narrower : slim.width ≢ 0 → width < slim.width

-- a trial of `width` columns was low enough
abbrev pub low_at : ℕ → Certificate → Slim → Slim
low_at width trial slim = record { width = width; least = slim.least; kept = Some trial; less = slim.less; spent = slim.spent }

-- a trial of `width` columns was too high
abbrev pub high_at : ℕ → Certificate → Slim → Slim
high_at width trial slim =
    record { width = slim.width; least = width + 1; kept = slim.kept; less = Some trial; spent = slim.spent }

-- a trial told neither
abbrev pub spent_at : Certificate → Slim → Slim
spent_at trial slim =
    record { width = slim.width; least = slim.least; kept = slim.kept; less = slim.less; spent = Some trial }

-- what a trial of `width` columns changes
abbrev pub IsTaken : ℕ → ℕ → Certificate → Slim → Slim → Type 0
IsTaken height width trial before after = (ClaimsLow height trial.claim × (after ≡ low_at width trial before))
    ⊎ ((ClaimsHigh height trial.claim × (after ≡ high_at width trial before))
    ⊎ (ClaimsNeither height trial.claim × (after ≡ spent_at trial before)))

-- what is known after some trials; where none was spent the search goes on
pub record IsSlimSoFar (table : Table) (style : Style) (height most budget : ℕ) (slim : Slim) : Type 0 where
  pub between : IsBetweenWidths table style height most budget slim
  pub spent : MatchOption slim.spent (Unit {0}) (IsSpentBetween table style height most budget slim.least slim.width)

-- so much is known, and where the certificates come from
pub record IsKnown (searched : ℕ → Certificate → Type 0) (table : Table) (style : Style) (height most budget : ℕ)
    (handed : Option Certificate) (slim : Slim) : Type 0 where
  pub so_far : IsSlimSoFar table style height most budget slim
  pub sources : AreSearched searched most handed slim
  pub order : (own : ℕ) → IsLeastWidth table style own →
      IsBisection searched table style height most budget handed own slim.least slim.width

-- how many trials may still follow
abbrev pub left_where : ℕ → Slim → Option Certificate → ℕ
left_where most slim None = (1 + (if slim.width == 0 then most + 1 else slim.width)) - slim.least
left_where most slim (Some certificate) = 0

abbrev pub trials_left : ℕ → Slim → ℕ
trials_left most slim = left_where most slim slim.spent
