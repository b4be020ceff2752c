-- What the functions that judge sections promise each other. No public clause cites this file.
use Rattle.std.specs.Prelude.{◌≡◌, ℕ, ◌<◌, ◌≤◌, List, length, get_or, take, Option, Result, Ok, Err, MatchResult, alloc_error}
use Rattle.tl_base.specs.Returned.{IsMemoryOr}
use Rattle.tl_problem.specs.Problem.{ProblemModel}
use Rattle.tl_cert.specs.declared.certificate.Certificate.{Certificate}
use Rattle.tl_cert.specs.declared.section.Section.{Section}
use Rattle.tl_check.specs.Verdicts.{IsFirstBad}
use Rattle.tl_form.specs.Expected.{Document, Due, IsDue, due_after, AreDueInOrder}
use Rattle.tl_form.specs.Failures.{IsGoodUpTo}
use Rattle.tl_form.specs.Valid.{HasLog, HasTrace, IsGood}
use Rattle.tl_verify.specs.declared.reject.Reject.{Reject}
use Rattle.tl_verify.specs.declared.reject.Reject.TheVariants as rejects
use Rattle.tl_verify.specs.declared.reject.Reject.TheVariants.{Memory}
use Rattle.tl_verify.specs.Verdicts.{IsReason}

-- ---- one section

-- the error names what the section with this number lacks: a trace that was worked, or a log that is good
abbrev pub IsUnshown : ProblemModel → Section → ℕ → ℕ → Reject → Type 0
IsUnshown problem section budget number (rejects.Trace other) = (other ≡ number) × (HasTrace budget section problem → ⊥)
IsUnshown problem section budget number (rejects.Line other line) = (other ≡ number) × HasTrace budget section problem
    × (HasLog section problem → ⊥) × IsFirstBad problem section.trace section.log section.lower line
IsUnshown problem section budget number other = ⊥

-- the section with this number is good on those before it, or the error is the reason why the certificate is refused, where
-- all those before it are good
abbrev pub IsSectionJudged : Document → ℕ → Certificate → ℕ → Result (Unit {0}) Reject → Type 0
IsSectionJudged document budget certificate number result = MatchResult result
    (λ _. (d : Section) → IsGood document budget (take number certificate.sections) (get_or certificate.sections number d))
    (IsMemoryOr (Memory alloc_error) (λ reject. IsGoodUpTo document budget certificate number →
    IsReason document budget certificate reject))

-- ---- their order

-- the first `count` sections are in order, and this is due after them
pub record IsInOrderTo (document : Document) (sections : List Section) (count : ℕ) (due : Option Due) : Type 0 where
  pub within : count ≤ length sections
  pub each : AreDueInOrder document sections count
  pub next : due_after document (take count sections) ≡ due

-- so far and no further: the next section, if there is one, is not the one that is due
pub record IsDueOrder (document : Document) (sections : List Section) (count : ℕ) (due : Option Due) : Type 0 where
  pub to : IsInOrderTo document sections count due
  pub stops : (d : Section) → count < length sections → IsDue document (take count sections) (get_or sections count d) → ⊥

-- ---- all of them

-- what was found of the first `count` sections, in their order
abbrev pub AreJudged : Document → ℕ → Certificate → ℕ → List (Result (Unit {0}) Reject) → Type 0
AreJudged document budget certificate count judged = (i : ℕ) (d : Result (Unit {0}) Reject) → i < count →
    IsSectionJudged document budget certificate i (get_or judged i d)

-- the results before this place are no errors
abbrev pub AreNoErrors : List (Result (Unit {0}) Reject) → ℕ → Type 0
AreNoErrors judged n = (i : ℕ) (d : Result (Unit {0}) Reject) → i < n → get_or judged i d ≡ Ok tt

-- no result is an error, or the first that is one is this
abbrev pub IsFirstRefusal : List (Result (Unit {0}) Reject) → Result (Unit {0}) Reject → Type 0
IsFirstRefusal judged result = MatchResult result
    (λ _. AreNoErrors judged (length judged))
    (λ error. (i : ℕ) × (i < length judged) × AreNoErrors judged i
    × ((d : Result (Unit {0}) Reject) → get_or judged i d ≡ Err error))
