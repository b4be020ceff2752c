-- What judging a certificate comes to: a verdict on its claim, or the first step that fails.
use Rattle.std.specs.Prelude.{ℕ}
use Rattle.tl_base.specs.declared.style.Style.{Style}
use Rattle.tl_problem.specs.Problem.{ProblemModel}
use Rattle.tl_cert.specs.declared.certificate.Certificate.{Certificate}
use Rattle.tl_cert.specs.declared.certificate.Claim.{Claim}
use Rattle.tl_cert.specs.declared.certificate.Claim.TheVariants as claims
use Rattle.tl_cert.specs.declared.section.Section.{Section}
use Rattle.tl_check.specs.Verdicts.{IsFirstBad}
use Rattle.tl_table.specs.declared.cell.Table.{Table}
use Rattle.tl_form.specs.Expected.{Document, IsDocumentOf}
use Rattle.tl_form.specs.Failures.{HasWrongClaim, HasWrongChain, IsMissing, IsExtra, HasWrongLayout, HasWrongTrace, HasWrongLog}
use Rattle.tl_verify.specs.declared.reject.Reject.{Reject}
use Rattle.tl_verify.specs.declared.reject.Reject.TheVariants as rejects
use Rattle.tl_verify.specs.declared.verdict.Verdict.{Verdict}
use Rattle.tl_verify.specs.declared.verdict.Verdict.TheVariants as verdicts

-- the verdict on a claim that is shown
abbrev pub verdict_on : Claim → Verdict
verdict_on (claims.Lowest height) = verdicts.Lowest
verdict_on (claims.Bounded height lower) = verdicts.Bounded
verdict_on (claims.Narrow least) = verdicts.Narrow

-- the section with this number has a placement and a trace, and `line` is the first line of its log that is not good, or
-- the number of lines, where all are and the log is not
pub record HasBadLine (document : Document) (budget : ℕ) (certificate : Certificate) (number line : ℕ) : Type 0 where
  pub section : Section
  pub problem : ProblemModel
  pub log : HasWrongLog document budget certificate number section problem
  pub first : IsFirstBad problem section.trace section.log section.lower line

-- the first step that fails is the one that this error names
abbrev pub IsReason : Document → ℕ → Certificate → Reject → Type 0
IsReason document budget certificate (rejects.Memory error) = ⊥
IsReason document budget certificate rejects.Claim = HasWrongClaim document budget certificate
IsReason document budget certificate rejects.Chain = HasWrongChain document budget certificate
IsReason document budget certificate (rejects.Missing table) = IsMissing document budget certificate table
IsReason document budget certificate (rejects.Extra number) = IsExtra document budget certificate number
IsReason document budget certificate (rejects.Layout number) = HasWrongLayout document budget certificate number
IsReason document budget certificate (rejects.Trace number) = HasWrongTrace document budget certificate number
IsReason document budget certificate (rejects.Line number line) = HasBadLine document budget certificate number line

-- the certificate is refused by this error, for the table on a page in a style, and for a budget
abbrev pub IsRefusedAs : Table → Style → ℕ → ℕ → Certificate → Reject → Type 0
IsRefusedAs table style page budget certificate reject = (document : Document) × IsDocumentOf table style page document
    × IsReason document budget certificate reject
