-- What a search for the narrowest page tells: between which widths it lies, and the certificates that show it.
use Rattle.std.specs.Prelude.{◌≡◌, ◌≢◌, ◌⊎◌, ℕ, ◌+◌, ◌-◌, ◌/◌, ◌≤◌, ◌==◌, if◌then◌else◌, Option, Some, IfSome, MatchOption}
use Rattle.std.specs.List.{Any}
use Rattle.tl_base.specs.declared.style.Style.{Style}
use Rattle.tl_cert.specs.declared.certificate.Certificate.{Certificate}
use Rattle.tl_cert.specs.Text.{IsNarrow, IsWritable}
use Rattle.tl_table.specs.declared.cell.Table.{Table}
use Rattle.tl_table.specs.Least.{IsLeastWidth}
use Rattle.tl_form.specs.OpenLaws.{IsSpent}
use Rattle.tl_form.specs.Valid.{IsValid}
use Rattle.tl_narrow.specs.declared.slim.Slim.{Slim}
use Rattle.tl_narrow.specs.Slimmest.{ClaimsHigh, ClaimsLow, ClaimsNeither, IsBelowCounts}

-- a certificate of the table on a page of `width` columns that can be written, and shows a page of at most `height` lines
pub record IsLowCertificate (table : Table) (style : Style) (height width budget : ℕ) (certificate : Certificate) : Type 0 where
  pub valid : IsValid table style width budget certificate
  pub low : ClaimsLow height certificate.claim
  pub writable : IsWritable certificate

-- a certificate of the table on a page of `width` columns that can be written, and shows that none of so few lines fits
pub record IsHighCertificate (table : Table) (style : Style) (height width budget : ℕ) (certificate : Certificate) : Type 0 where
  pub valid : IsValid table style width budget certificate
  pub high : ClaimsHigh height certificate.claim
  pub writable : IsWritable certificate

-- a certificate of the table on a page of `width` columns that can be written, and shows neither: some section made all cuts
-- of the budget, which is below the counts of this page and of each wider one up to `most` columns
pub record IsSpentCertificate (table : Table) (style : Style) (height most width budget : ℕ) (certificate : Certificate) : Type 0
  where
    pub valid : IsValid table style width budget certificate
    pub neither : ClaimsNeither height certificate.claim
    pub spent : Any (IsSpent budget) certificate.sections
    pub below : (page : ℕ) → width ≤ page → page ≤ most → IsBelowCounts table style page budget
    pub writable : IsWritable certificate

-- where a search that is between these widths tries next, or ended early: at the widest page, where none is known to be low
-- enough, and otherwise in the middle
abbrev pub trial_between : ℕ → ℕ → ℕ → ℕ
trial_between most least width = if width == 0 then most else (least + width - 1) / 2

module _ (table : Table) (style : Style) (height most budget : ℕ) where
  -- the certificate shows that the page of `width` columns is low enough
  pub record IsKept (width : ℕ) (certificate : Certificate) : Type 0 where
    pub some : width ≢ 0
    pub shown : IsLowCertificate table style height width budget certificate

  -- the certificate shows that the page one column narrower than `least` is not low enough
  pub record IsLess (least : ℕ) (certificate : Certificate) : Type 0 where
    pub some : least ≢ 1
    pub shown : IsHighCertificate table style height (least - 1) budget certificate

  -- the certificate shows that the search ended early, between these widths
  pub record IsSpentBetween (least width : ℕ) (certificate : Certificate) : Type 0 where
    pub apart : width ≢ least
    pub within : least ≤ most
    pub shown : IsSpentCertificate table style height most (trial_between most least width) budget certificate

  -- of the pages of 1 to `most` columns none below `least` is low enough, and that of `width` columns is, where `width` is
  -- not 0
  pub record IsBetweenWidths (slim : Slim) : Type 0 where
    pub width_within : slim.width ≤ most
    pub least_some : 1 ≤ slim.least
    pub least_within : slim.least ≤ most + 1
    pub least_wide : (slim.least ≡ most + 1) ⊎ ((own : ℕ) → IsLeastWidth table style own → own ≤ slim.least)
    pub ordered : slim.width ≢ 0 → slim.least ≤ slim.width
    pub kept : MatchOption slim.kept (slim.width ≡ 0) (IsKept slim.width)
    pub less : MatchOption slim.less (slim.least ≡ 1) (IsLess slim.least)

  -- what the search comes to: it found the narrowest page, or that there is none, or it ended early
  pub record IsSlim (slim : Slim) : Type 0 where
    pub between : IsBetweenWidths slim
    pub spent : MatchOption slim.spent ((slim.width ≡ slim.least) ⊎ (slim.least ≡ most + 1))
        (IsSpentBetween slim.least slim.width)

-- each certificate has the sections of a search at its width, as `searched` says of a width and a certificate, but for that
-- which was handed in, and for a chain
pub record AreSearched (searched : ℕ → Certificate → Type 0) (most : ℕ) (handed : Option Certificate) (slim : Slim) : Type 0 where
  pub kept : IfSome slim.kept (λ certificate. (handed ≡ Some certificate) ⊎ searched slim.width certificate)
  pub less : IfSome slim.less (λ certificate. IsNarrow certificate.claim ⊎ searched (slim.least - 1) certificate)
  pub spent : IfSome slim.spent (searched (trial_between most slim.least slim.width))
