-- No public clause cites this file: it says how claims are answered.
use Rattle.std.specs.Prelude.{ℕ, ◌≤◌, List, length, Option, Some, None}
use Rattle.tl_base.specs.declared.limits.TheConstants.{MAX_COLUMNS}
use Rattle.tl_cert.specs.declared.certificate.Claim.{Claim}
use Rattle.tl_cert.specs.declared.certificate.Claim.TheVariants as claims
use Rattle.tl_cert.specs.declared.section.Section.{Section}
use Rattle.tl_lay.specs.declared.answer.Answer.{Answer}
use Rattle.tl_lay.specs.declared.answer.Answer.TheVariants as answers
use Rattle.tl_lay.specs.declared.verdict.Verdict.{Verdict}
use Rattle.tl_lay.specs.declared.verdict.Verdict.TheVariants as verdicts

-- what is answered for a claim, with this page, for a page of `most` columns, of which the layout takes `width`
abbrev pub answer_of : ℕ → Claim → ℕ → List ℕ → Option (List ℕ) → Answer
answer_of most (claims.Lowest height) width page text = answers.Lowest height width page text
answer_of most (claims.Bounded height lower) width page text = answers.Bounded height lower width page text
answer_of most (claims.Narrow least) width page text = answers.Narrow least most text

-- the verdict of a claim that is shown, for a page of `most` columns, of which the layout takes `width`
abbrev pub verdict_of : ℕ → Claim → ℕ → Verdict
verdict_of most (claims.Lowest height) width = verdicts.Lowest height width
verdict_of most (claims.Bounded height lower) width = verdicts.Bounded height lower width
verdict_of most (claims.Narrow least) width = verdicts.Narrow least most

-- the section, if there is one, has no more columns than a table may have
abbrev pub HasFewColumns : Option Section → Type 0
HasFewColumns None = Unit {0}
HasFewColumns (Some section) = length section.widths ≤ MAX_COLUMNS
