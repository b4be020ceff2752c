-- A certificate is accepted, or refused by one error, which is the same for tables that are.
use Rattle.std.proofs.Common.{◌≡◌, ◌∙◌, ℕ, List, take, refl, sym, ap, subst, inl, inr, arith}
use Rattle.std.proofs.lemmas.Bool.{cases_lt}
use Rattle.std.proofs.lemmas.List.{get_or_default}
use Rattle.tl_problem.specs.Problem.{ProblemModel}
use Rattle.tl_cert.specs.declared.certificate.Certificate.{Certificate}
use Rattle.tl_cert.specs.declared.log.LogLine.{LogLine}
use Rattle.tl_cert.specs.declared.trace.CutAt.{CutAt}
use Rattle.tl_check.specs.Verdicts.{IsFirstBad}
use Rattle.tl_base.specs.declared.style.Style.{Style}
use Rattle.tl_table.specs.declared.cell.Table.{Table}
use Rattle.tl_table.specs.Same.{AreSame}
use Rattle.tl_form.specs.Expected.{Document}
use Rattle.tl_form.specs.ProblemLaws.{ProblemIsDetermined}
use Rattle.tl_form.specs.Failures.{Failure, wrong_claim, wrong_chain, missing, extra, wrong_layout, wrong_trace, wrong_log}
use Rattle.tl_form.specs.Failures.{FailsFor}
use Rattle.tl_table.specs.Sound.{IsSound}
use Rattle.tl_form.specs.Valid.{IsProblemAt, IsValidFor}
use Rattle.tl_form.proofs.OneFault.{HasOneProblem, one_fault, no_fault}
use Rattle.tl_form.proofs.OneProblem.{one_problem, one_document}
use Rattle.tl_form.proofs.SameDocuments.{put, document_same, claim_fails, chain_fails, missing_fails, extra_fails}
use Rattle.tl_form.proofs.SameDocuments.{layout_fails, trace_fails, log_fails}
use Rattle.tl_verify.specs.declared.reject.Reject.{Reject}
use Rattle.tl_verify.specs.declared.reject.Reject.TheVariants as rejects
use Rattle.tl_verify.specs.Verdicts.{HasBadLine, IsReason, IsRefusedAs}
use Rattle.tl_form.proofs.Placing.{one_problem_of}

-- ---- the first bad line is one

pub first_bad_one : (problem : ProblemModel) (trace : List CutAt) (log : List LogLine) (lower k other : ℕ) →
    IsFirstBad problem trace log lower k →
    IsFirstBad problem trace log lower other → k ≡ other
first_bad_one problem trace log lower k other is are = elim (cases_lt k other) [
  | inl less ↦ absurd (is.bad (omega (arith, less, are.there)) (are.before k less))
  | inr more ↦ elim (cases_lt other k) [
    | inl less ↦ absurd (are.bad (omega (arith, less, is.there)) (is.before other less))
    | inr same ↦ omega (arith, more, same)
  ]
]

-- ---- errors as faults

-- the fault that an error names, and the error that names a fault
abbrev to_fault : Reject → Failure
to_fault (rejects.Memory error) = wrong_claim
to_fault rejects.Claim = wrong_claim
to_fault rejects.Chain = wrong_chain
to_fault (rejects.Missing table) = missing table
to_fault (rejects.Extra number) = extra number
to_fault (rejects.Layout number) = wrong_layout number
to_fault (rejects.Trace number) = wrong_trace number
to_fault (rejects.Line number line) = wrong_log number

abbrev of_fault : Failure → ℕ → Reject
of_fault wrong_claim line = rejects.Claim
of_fault wrong_chain line = rejects.Chain
of_fault (missing table) line = rejects.Missing table
of_fault (extra number) line = rejects.Extra number
of_fault (wrong_layout number) line = rejects.Layout number
of_fault (wrong_trace number) line = rejects.Trace number
of_fault (wrong_log number) line = rejects.Line number line

abbrev line_of : Reject → ℕ
line_of (rejects.Memory error) = 0
line_of rejects.Claim = 0
line_of rejects.Chain = 0
line_of (rejects.Missing table) = 0
line_of (rejects.Extra number) = 0
line_of (rejects.Layout number) = 0
line_of (rejects.Trace number) = 0
line_of (rejects.Line number line) = line

determined : ProblemIsDetermined
determined = λ table style page inner one other is are. one_problem_of table style page inner one other is are

module _ (document : Document) (sound : IsSound document.table) (budget : ℕ) (certificate : Certificate) where
  problems : HasOneProblem document
  problems = one_problem determined document sound

  named : (reject : Reject) → IsReason document budget certificate reject → reject ≡ of_fault (to_fault reject) (line_of reject)
  named (rejects.Memory error) why = absurd why
  named rejects.Claim why = refl
  named rejects.Chain why = refl
  named (rejects.Missing table) why = refl
  named (rejects.Extra number) why = refl
  named (rejects.Layout number) why = refl
  named (rejects.Trace number) why = refl
  named (rejects.Line number line) why = refl

  to_refused : (reject : Reject) → IsReason document budget certificate reject →
      FailsFor document budget certificate (to_fault reject)
  to_refused (rejects.Memory error) why = absurd why
  to_refused rejects.Claim why = why
  to_refused rejects.Chain why = why
  to_refused (rejects.Missing table) why = why
  to_refused (rejects.Extra number) why = why
  to_refused (rejects.Layout number) why = why
  to_refused (rejects.Trace number) why = why
  to_refused (rejects.Line number line) why = (why.section, why.problem, why.log)

  same_line : (number line other : ℕ) → HasBadLine document budget certificate number line →
      HasBadLine document budget certificate number other →
      line ≡ other
  same_line number line other one two =
      let section : two.section ≡ one.section =
      sym two.log.comes.is ∙ get_or_default certificate.sections number two.section one.section
      one.log.comes.there ∙ one.log.comes.is in
      let problem : two.problem ≡ one.problem =
      problems (take number certificate.sections) one.section two.problem one.problem
      (subst (λ s. IsProblemAt document (take number certificate.sections) s two.problem) section two.log.laid.own)
      one.log.laid.own in
      first_bad_one one.problem one.section.trace one.section.log one.section.lower line other one.first
      (subst (λ p. IsFirstBad p one.section.trace one.section.log one.section.lower other) problem
      (subst (λ s. IsFirstBad two.problem s.trace s.log s.lower other) section two.first))

  -- an error that names no line is the one that names the same fault
  other_one : (fault : Failure) (line : ℕ) (other : Reject) → IsReason document budget certificate other →
      fault ≡ to_fault other →
      of_fault fault line ≡ of_fault fault (line_of other) → of_fault fault line ≡ other
  other_one fault line other also same any = any ∙ ap (λ f. of_fault f (line_of other)) same ∙ sym (named other also)

  by_line : (number line : ℕ) (other : Reject) → HasBadLine document budget certificate number line →
      IsReason document budget certificate other →
      wrong_log number ≡ to_fault other → rejects.Line number line ≡ other
  by_line number line (rejects.Memory error) why also same = absurd also
  by_line number line rejects.Claim why also same = absurd cc
  by_line number line rejects.Chain why also same = absurd cc
  by_line number line (rejects.Missing table) why also same = absurd cc
  by_line number line (rejects.Extra other) why also same = absurd cc
  by_line number line (rejects.Layout other) why also same = absurd cc
  by_line number line (rejects.Trace other) why also same = absurd cc
  by_line number line (rejects.Line other last) why also same =
      let numbers : number ≡ other = cc in
      let lines : line ≡ last = same_line number line last why
      (subst (λ n. HasBadLine document budget certificate n last) (sym numbers) also) in
      λ i. rejects.Line (numbers i) (lines i)

  pub one_reason : (one other : Reject) → IsReason document budget certificate one →
      IsReason document budget certificate other → one ≡ other
  one_reason one other why also = by_case one other why also
      (one_fault document budget certificate problems (to_fault one) (to_fault other) (to_refused one why)
      (to_refused other also))
    where
      by_case : (one other : Reject) → IsReason document budget certificate one → IsReason document budget certificate other →
          to_fault one ≡ to_fault other → one ≡ other
      by_case (rejects.Memory error) other why also same = absurd why
      by_case rejects.Claim other why also same = other_one wrong_claim 0 other also same refl
      by_case rejects.Chain other why also same = other_one wrong_chain 0 other also same refl
      by_case (rejects.Missing table) other why also same = other_one (missing table) 0 other also same refl
      by_case (rejects.Extra number) other why also same = other_one (extra number) 0 other also same refl
      by_case (rejects.Layout number) other why also same = other_one (wrong_layout number) 0 other also same refl
      by_case (rejects.Trace number) other why also same = other_one (wrong_trace number) 0 other also same refl
      by_case (rejects.Line number line) other why also same = by_line number line other why also same

  pub not_both : (reject : Reject) → IsValidFor document budget certificate → IsReason document budget certificate reject → ⊥
  not_both reject valid why = no_fault document budget certificate problems (to_fault reject) valid (to_refused reject why)

-- ---- tables that are the same

reason_same : (document : Document) (other : Table) (budget : ℕ) (certificate : Certificate) (reject : Reject) →
    AreSame document.table other → IsReason document budget certificate reject →
    IsReason (put document other) budget certificate reject
reason_same document other budget certificate (rejects.Memory error) same why = absurd why
reason_same document other budget certificate rejects.Claim same why = claim_fails document other same budget certificate why
reason_same document other budget certificate rejects.Chain same why = chain_fails document other same budget certificate why
reason_same document other budget certificate (rejects.Missing table) same why =
    missing_fails document other same budget certificate table why
reason_same document other budget certificate (rejects.Extra number) same why =
    extra_fails document other same budget certificate number why
reason_same document other budget certificate (rejects.Layout number) same why =
    layout_fails document other same budget certificate number why
reason_same document other budget certificate (rejects.Trace number) same why =
    trace_fails document other same budget certificate number why
reason_same document other budget certificate (rejects.Line number line) same why = record {
  section = why.section;
  problem = why.problem;
  log = log_fails document other same budget certificate number why.section why.problem why.log;
  first = why.first;
}

-- a certificate that is refused for two tables that are the same is refused by one error
pub one_refusal : (one other : Table) (style : Style) (page budget : ℕ) (certificate : Certificate) (first second : Reject) →
    IsSound other → AreSame one other → IsRefusedAs one style page budget certificate first →
    IsRefusedAs other style page budget certificate second → first ≡ second
one_refusal one other style page budget certificate first second sound same is are =
    let twins : AreSame is.0.table other = subst (λ t. AreSame t other) (sym is.1.same) same in
    let documents : are.0 ≡ put is.0 other =
    one_document other style page are.0 (put is.0 other) sound are.1 (document_same is.0 other twins one style page is.1) in
    one_reason (put is.0 other) sound budget certificate first second
    (reason_same is.0 other budget certificate first twins is.2)
    (subst (λ document. IsReason document budget certificate second) documents are.2)
