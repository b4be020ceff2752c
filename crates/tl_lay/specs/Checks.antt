-- What a certificate shows of a table, and what checking one comes to.
use Rattle.std.specs.Prelude.{◌≡◌, ◌⊎◌, ℕ, ◌<◌, ◌≤◌, List, Option, None, Some}
use Rattle.std.specs.List.{Any, last_or}
use Rattle.tl_base.specs.declared.style.Style.{Style}
use Rattle.tl_cert.specs.declared.certificate.Certificate.{Certificate}
use Rattle.tl_cert.specs.declared.certificate.Claim.TheVariants as claims
use Rattle.tl_cert.specs.declared.error.CertError.{CertError}
use Rattle.tl_cert.specs.declared.section.Section.{Section}
use Rattle.tl_cert.specs.Faults.{IsTextOf, IsNoText}
use Rattle.tl_table.specs.declared.cell.Table.{Table}
use Rattle.tl_table.specs.declared.layout.Layout.{Layout}
use Rattle.tl_form.specs.Expected.{placed_width}
use Rattle.tl_table.specs.Layouts.{Fits}
use Rattle.tl_table.specs.Least.{IsLeastHeight}
use Rattle.tl_form.specs.OpenLaws.{IsSpent}
use Rattle.tl_form.specs.Valid.{IsValid}
use Rattle.tl_form.specs.ValidLaws.{IsBetween}
use Rattle.tl_verify.specs.declared.reject.Reject.{Reject}
use Rattle.tl_verify.specs.Verdicts.{IsRefusedAs}
use Rattle.tl_lay.specs.declared.rejection.Rejection.{Rejection}
use Rattle.tl_lay.specs.declared.task.Task.{Task}
use Rattle.tl_lay.specs.declared.verdict.Verdict.{Verdict}
use Rattle.tl_lay.specs.declared.verdict.Verdict.TheVariants as verdicts
use Rattle.tl_narrow.specs.Slimmest.{IsBelowCounts}
use Rattle.tl_lay.specs.Budgets.{budget_in, reach}
use Rattle.tl_lay.specs.Inputs.{IsOfBytes}
use Rattle.tl_lay.specs.Rejections.{text_rejection, step_rejection}

-- the certificate is valid for what is asked of the table
abbrev pub IsValidIn : Task → Table → Certificate → Type 0
IsValidIn task table certificate = IsValid table task.style task.width (budget_in task table) certificate

-- the columns that the page takes: those of the last section's placement, which is the document's own
abbrev pub page_columns : Style → Option Section → ℕ
page_columns style None = 0
page_columns style (Some section) = placed_width style section

-- the columns that the page of a certificate takes
abbrev pub columns_shown : Task → Certificate → ℕ
columns_shown task certificate = page_columns task.style (last_or None certificate.sections)

-- the height that is claimed is the least
pub record ShowsLowest (table : Table) (style : Style) (width height : ℕ) (certificate : Certificate) : Type 0 where
  pub claimed : certificate.claim ≡ claims.Lowest height
  pub least : IsLeastHeight table style width height

-- no layout is below the bound that is claimed, and one has the height; some section made all cuts of the budget, which is
-- below the counts
pub record ShowsBounded (table : Table) (style : Style) (width budget height lower : ℕ) (certificate : Certificate) : Type 0 where
  pub claimed : certificate.claim ≡ claims.Bounded height lower
  pub apart : lower < height
  pub between : IsBetween table style width height lower
  pub spent : Any (IsSpent budget) certificate.sections
  pub below : IsBelowCounts table style width budget

-- no page below the width that is claimed holds a layout, and this one is narrower
pub record ShowsNarrow (table : Table) (style : Style) (width least : ℕ) (certificate : Certificate) : Type 0 where
  pub claimed : certificate.claim ≡ claims.Narrow least
  pub narrow : width < least
  pub each : (page height : ℕ) (layout : Layout) → Fits table style page height layout → least ≤ page

-- what a certificate shows of the table, by the verdict
pub data IsShownAs (task : Task) (table : Table) (certificate : Certificate) : Verdict → Type 0 where
  lowest_shown : {height : ℕ} → ShowsLowest table task.style task.width height certificate
      → IsShownAs task table certificate (verdicts.Lowest height (columns_shown task certificate))
  bounded_shown : {height lower : ℕ} → ShowsBounded table task.style task.width (budget_in task table) height lower certificate
      → IsShownAs task table certificate (verdicts.Bounded height lower (columns_shown task certificate))
  narrow_shown : {least : ℕ} → ShowsNarrow table task.style task.width least certificate
      → IsShownAs task table certificate (verdicts.Narrow least task.width)

-- the text is that of a certificate that is valid, and shows what the verdict says
pub record IsAccepted (task : Task) (table : Table) (text : List ℕ) (verdict : Verdict) : Type 0 where
  pub certificate : Certificate
  pub text_is : IsTextOf text certificate
  pub valid : IsValidIn task table certificate
  pub shows : IsShownAs task table certificate verdict

-- the text is no certificate's, or it is that of one for which a step of judging fails
abbrev pub IsRejectionOf : Task → Table → List ℕ → Rejection → Type 0
IsRejectionOf task table text rejection =
    ((error : CertError) × IsNoText text error × (text_rejection error ≡ Some rejection))
    ⊎ ((certificate : Certificate) × (reject : Reject) × IsTextOf text certificate
    × IsRefusedAs table task.style task.width (budget_in task table) certificate reject
    × (step_rejection reject ≡ Some rejection))

-- the text is that of no valid certificate, for this reason
pub record IsRejected (task : Task) (table : Table) (text : List ℕ) (verdict : Verdict) : Type 0 where
  pub rejection : Rejection
  pub told : verdict ≡ verdicts.Rejected rejection
  pub reason : IsRejectionOf task table text rejection
  pub never : (certificate : Certificate) → IsTextOf text certificate → IsValidIn task table certificate → ⊥

-- the text is judged for the table
abbrev pub IsJudged : Task → Table → List ℕ → Verdict → Type 0
IsJudged task table text verdict = IsAccepted task table text verdict ⊎ IsRejected task table text verdict

-- what `check` finds: why the bytes are refused, or the text is judged for their table
abbrev pub IsChecked : Task → List ℕ → List ℕ → Verdict → Type 0
IsChecked task bytes text verdict = IsOfBytes task.source (reach task) (λ refusal. verdict ≡ verdicts.Refused refusal)
    (λ table. IsJudged task table text verdict) bytes
