-- In which order pages are tried: the widest first, unless it is known to be low enough, and then always the one in the
-- middle, until the two widths meet or a trial tells neither.
use Rattle.std.specs.Prelude.{◌≢◌, ℕ, ◌+◌, ◌≤◌, min, max, Option, None, Some}
use Rattle.tl_base.specs.declared.style.Style.{Style}
use Rattle.tl_cert.specs.declared.certificate.Certificate.{Certificate}
use Rattle.tl_table.specs.declared.cell.Table.{Table}
use Rattle.tl_form.specs.Valid.{IsValid}
use Rattle.tl_narrow.specs.Slimmest.{ClaimsHigh, ClaimsLow}
use Rattle.tl_narrow.specs.Slims.{trial_between}

-- where a search begins: with the table's own least width, raised to 1 and lowered to one more than the widest page
abbrev pub first_least : ℕ → ℕ → ℕ
first_least most own = min (max own 1) (most + 1)

-- and with the widest page, where its certificate was handed in
abbrev pub first_width : ℕ → Option Certificate → ℕ
first_width most None = 0
first_width most (Some certificate) = most

-- the page that is due between these widths was tried: the certificate is valid for it, and has the sections of a search
-- there
pub record IsTriedBetween (searched : ℕ → Certificate → Type 0) (table : Table) (style : Style) (most budget least width : ℕ)
    (trial : Certificate) : Type 0 where
  pub apart : width ≢ least
  pub within : least ≤ most
  pub valid : IsValid table style (trial_between most least width) budget trial
  pub from : searched (trial_between most least width) trial

-- a search that began with some widths has come to these: a page that is low enough is the next widest, and below one of
-- which no layout is low enough there is none
pub data IsReached (searched : ℕ → Certificate → Type 0) (table : Table) (style : Style) (height most budget begun_least
    begun_width : ℕ) : ℕ → ℕ → Type 0 where
  at_first : IsReached searched table style height most budget begun_least begun_width begun_least begun_width
  low_tried : {least width : ℕ} → (trial : Certificate)
      → IsReached searched table style height most budget begun_least begun_width least width
      → IsTriedBetween searched table style most budget least width trial → ClaimsLow height trial.claim
      → IsReached searched table style height most budget begun_least begun_width least (trial_between most least width)
  high_tried : {least width : ℕ} → (trial : Certificate)
      → IsReached searched table style height most budget begun_least begun_width least width
      → IsTriedBetween searched table style most budget least width trial → ClaimsHigh height trial.claim
      → IsReached searched table style height most budget begun_least begun_width (trial_between most least width + 1) width

-- the search came to these widths from those with which it begins
abbrev pub IsBisection : (ℕ → Certificate → Type 0) → Table → Style → ℕ → ℕ → ℕ → Option Certificate → ℕ → ℕ → ℕ → Type 0
IsBisection searched table style height most budget handed own least width =
    IsReached searched table style height most budget (first_least most own) (first_width most handed) least width
