-- What judging one section comes to, in words of the whole certificate.
use Rattle.std.proofs.Common.{◌≡◌, ◌∙◌, ℕ, ◌<◌, ◌≤◌, List, length, get_or, take, Some, Result, Ok, Err, IfOk, IfErr, alloc_error}
use Rattle.std.proofs.Common.{inl, inr, sym, subst, arith}
use Rattle.std.proofs.lemmas.Bool.{cases_lt}
use Rattle.std.proofs.lemmas.List.{get_or_default}
use Rattle.tl_base.specs.declared.limits.TheConstants.{MAX_PAGE_WIDTH}
use Rattle.tl_base.specs.Returned.{IsMemoryOr}
use Rattle.tl_base.specs.declared.style.Style.{Style}
use Rattle.tl_problem.specs.Problem.{ProblemModel}
use Rattle.tl_cert.specs.declared.certificate.Certificate.{Certificate}
use Rattle.tl_cert.specs.declared.section.Section.{Section}
use Rattle.tl_cert.specs.Text.{IsNarrow}
use Rattle.tl_table.specs.declared.cell.Table.{Table}
use Rattle.tl_form.specs.Expected.{Document, Due, IsDocumentOf, IsTableOf, IsDue, due_after, least_of, own_number}
use Rattle.tl_table.specs.Least.{IsLeastWidth}
use Rattle.tl_form.specs.Failures.{IsGoodUpTo, ComesTo, HasWrongLayout, HasWrongTrace}
use Rattle.tl_table.specs.Sound.{IsSound}
use Rattle.tl_form.specs.Valid.{IsClaimFor, IsLaid, HasTrace, HasLog, IsGood}
use Rattle.tl_form.proofs.DueProblems.{IsOnPage, leasts, some_number}
use Rattle.tl_verify.specs.declared.reject.Reject.{Reject}
use Rattle.tl_verify.specs.declared.reject.Reject.TheVariants as rejects
use Rattle.tl_verify.specs.Verdicts.{IsReason}
use Rattle.tl_verify.specs.inner.Sections.{IsSectionJudged, IsUnshown}
use Rattle.tl_verify.proofs.Ordering.{after_wide}

-- ---- the page is wide enough for what is due

pub on_page : (document : Document) (budget : ℕ) (certificate : Certificate) (table : Table) (style : Style) (page : ℕ) →
    IsSound document.table →
    IsDocumentOf table style page document → document.page ≤ MAX_PAGE_WIDTH → IsClaimFor document budget certificate →
    (IsNarrow certificate.claim → ⊥) → IsOnPage document
on_page document budget certificate table style page sound of narrow claim by_sections = record {
  sound = sound;
  numbers = of.numbers;
  least = of.least;
  wide = elim (cases_lt document.page (least_of document (own_number document))) [
    | inl less ↦ absurd (by_sections (claim.kind.1 less))
    | inr more ↦ more
  ];
  narrow = narrow;
}

pub due_wide : (document : Document) (before : List Section) (now : Due) (one : Table) → IsOnPage document →
    due_after document before ≡ Some now → IsTableOf document now.table one →
    (least : ℕ) → IsLeastWidth one document.style least → least ≤ now.width
due_wide document before now one on due named least is =
    let wide = after_wide document (some_number document on) (leasts document on) before now due in
    let own : IsLeastWidth one document.style (least_of document now.table) =
    subst (λ n. IsLeastWidth one document.style (least_of document n)) named.numbered (on.least one named.among) in
    omega (arith, is.least (least_of document now.table) own.attained.0 own.attained.1 own.attained.2, wide)

-- ---- why it is refused

module _ (document : Document) (budget : ℕ) (certificate : Certificate) (number : ℕ)
    (there : number < length certificate.sections)
    (good : IsGoodUpTo document budget certificate number) where
  module _ (section : Section) (is : get_or certificate.sections number section ≡ section)
      (due : IsDue document (take number certificate.sections) section) where
    comes : ComesTo document budget certificate number section
    comes = record { good = good; there = there; is = is; due = due }

    pub wrong_layout : ((problem : ProblemModel) → IsLaid document (take number certificate.sections) section problem → ⊥) →
        HasWrongLayout document budget certificate number
    wrong_layout none = record { section = section; comes = comes; wrong = none }

    pub unshown : (problem : ProblemModel) → IsLaid document (take number certificate.sections) section problem →
        (reject : Reject) →
        IsUnshown problem section budget number reject → IsReason document budget certificate reject
    unshown problem laid (rejects.Memory error) why = absurd why
    unshown problem laid rejects.Claim why = absurd why
    unshown problem laid rejects.Chain why = absurd why
    unshown problem laid (rejects.Missing table) why = absurd why
    unshown problem laid (rejects.Extra other) why = absurd why
    unshown problem laid (rejects.Layout other) why = absurd why
    unshown problem laid (rejects.Trace other) why = subst (HasWrongTrace document budget certificate) (sym why.0)
        (record { section = section; comes = comes; problem = problem; laid = laid; wrong = why.1 })
    unshown problem laid (rejects.Line other line) why =
        subst (λ n. IsReason document budget certificate (rejects.Line n line)) (sym why.0) (record {
          section = section;
          problem = problem;
          log = record { comes = comes; laid = laid; traced = why.1; wrong = why.2 };
          first = why.3;
        })

-- an error for one reason is one for another
pub or_why : (memory : Reject) (P Q : Reject → Type 0) (reject : Reject) → (P reject → Q reject) → IsMemoryOr memory P reject →
    IsMemoryOr memory Q reject
or_why memory P Q reject so (inl is) = inl is
or_why memory P Q reject so (inr why) = inr (so why)

-- ---- what one section comes to

module _ (document : Document) (budget : ℕ) (certificate : Certificate) (number : ℕ)
    (there : number < length certificate.sections) (section : Section)
    (is : get_or certificate.sections number section ≡ section)
    (due : IsDue document (take number certificate.sections) section) where
  -- its layout is wrong
  pub judged_unlaid : ((problem : ProblemModel) → IsLaid document (take number certificate.sections) section problem → ⊥) →
      IsSectionJudged document budget certificate number (Err (rejects.Layout number))
  judged_unlaid none = inr (λ good. wrong_layout document budget certificate number there good section is due none)

  -- it has a layout, and its trace and its log are checked
  pub judged_laid : (problem : ProblemModel) → IsLaid document (take number certificate.sections) section problem →
      (result : Result (Unit {0}) Reject) → IfOk result (λ _. HasTrace budget section problem) →
      IfOk result (λ _. HasLog section problem) →
      IfErr result (IsMemoryOr (rejects.Memory alloc_error) (IsUnshown problem section budget number)) →
      IsSectionJudged document budget certificate number result
  judged_laid problem laid (Ok x) traced logged wrong = λ d.
      subst (IsGood document budget (take number certificate.sections))
      (sym (get_or_default certificate.sections number d section there ∙ is))
      (record { due = due; problem = problem; laid = laid; traced = traced; logged = logged })
  judged_laid problem laid (Err error) traced logged wrong =
      or_why (rejects.Memory alloc_error) (IsUnshown problem section budget number)
      (λ reject. IsGoodUpTo document budget certificate number → IsReason document budget certificate reject) error
      (λ why good. unshown document budget certificate number there good section is due problem laid error why) wrong
