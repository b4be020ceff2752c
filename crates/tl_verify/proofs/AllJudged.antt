-- Sections judged each on its own: what they come to together, and what is left after those that are in order.
use Rattle.std.proofs.Common.{◌≡◌, ◌∙◌, ℕ, ◌+◌, ◌<◌, ◌≤◌, List, length, get_or, take, Option, None, Some, option_map, inl}
use Rattle.std.proofs.Common.{inr, sym}
use Rattle.std.proofs.Common.{Result, Ok, Err, IfOk, IfErr, alloc_error, ap, subst, arith}
use Rattle.std.specs.List.{AllZip, range_with_len}
use Rattle.std.proofs.lemmas.List.{get_or-take, get_or_default, take_all}
use Rattle.std.proofs.lemmas.List.FromFn.{length-range_with_len, get_or-range_with_len}
use Rattle.tl_base.specs.Returned.{IsMemoryOr}
use Rattle.tl_base.proofs.Zips.{AllZip-get_or, AllZip-length}
use Rattle.tl_cert.specs.declared.certificate.Certificate.{Certificate}
use Rattle.tl_form.specs.declared.subject.Due.{Due}
use Rattle.tl_form.specs.Expected.{Document, due_after}
use Rattle.tl_form.specs.Failures.{IsExtra, IsGoodUpTo, IsMissing}
use Rattle.tl_form.specs.Subjects.{due_of}
use Rattle.tl_form.specs.Valid.{AreWhole}
use Rattle.tl_verify.specs.declared.reject.Reject.{Reject}
use Rattle.tl_verify.specs.declared.reject.Reject.TheVariants.{Memory}
use Rattle.tl_verify.specs.Verdicts.{IsReason}
use Rattle.tl_verify.specs.inner.Sections.{AreJudged, AreNoErrors, IsFirstRefusal, IsSectionJudged, IsDueOrder}
use Rattle.tl_verify.proofs.Judging.{or_why}

module _ (document : Document) (budget : ℕ) (certificate : Certificate) where
  -- the results by the numbers of their pieces are those of the sections
  pub judged_by_number : (count : ℕ) (judged : List (Result (Unit {0}) Reject)) →
      AllZip (IsSectionJudged document budget certificate) (range_with_len 0 count) judged →
      AreJudged document budget certificate count judged × (length judged ≡ count)
  judged_by_number count judged all = (
    λ i d less.
        subst (λ n. IsSectionJudged document budget certificate n (get_or judged i d))
        (get_or-range_with_len 0 count i 0 less ∙ omega arith)
        (AllZip-get_or (IsSectionJudged document budget certificate) (range_with_len 0 count) judged i 0 d all
        (omega (arith, less, length-range_with_len 0 count))),
    omega (
      arith,
      AllZip-length (IsSectionJudged document budget certificate) (range_with_len 0 count) judged all,
      length-range_with_len 0 count,
    ),
  )

  module _ (start : IsGoodUpTo document budget certificate 0) (count : ℕ) (within : count ≤ length certificate.sections)
      (judged : List (Result (Unit {0}) Reject)) (each : AreJudged document budget certificate count judged)
      (all : length judged ≡ count) where
    -- those before the first error are good
    good_up_to : (n : ℕ) → n ≤ count → AreNoErrors judged n → IsGoodUpTo document budget certificate n
    good_up_to n upto none = record {
      claim = start.claim;
      by_sections = start.by_sections;
      there = omega (arith, upto, within);
      good = λ i d less.
          subst (IsSectionJudged document budget certificate i) (none i (Ok tt) less)
          (each i (Ok tt) (omega (arith, less, upto))) d;
    }

    pub judged_good : (result : Result (Unit {0}) Reject) → IsFirstRefusal judged result →
        IfOk result (λ _. IsGoodUpTo document budget certificate count)
    judged_good (Ok x) first = good_up_to count (omega arith) (λ i d less. first i d (omega (arith, less, all)))
    judged_good (Err error) first = tt

    pub judged_wrong : (result : Result (Unit {0}) Reject) → IsFirstRefusal judged result →
        IfErr result (IsMemoryOr (Memory alloc_error) (IsReason document budget certificate))
    judged_wrong (Ok x) first = tt
    judged_wrong (Err error) (i, there, none, at) =
        or_why (Memory alloc_error) (λ reject. IsGoodUpTo document budget certificate i →
        IsReason document budget certificate reject)
        (IsReason document budget certificate) error (λ why. why (good_up_to i (omega (arith, there, all)) none))
        (subst (IsSectionJudged document budget certificate i) (at (Ok tt)) (each i (Ok tt) (omega (arith, there, all))))

  -- ---- what is left

  module _ (count : ℕ) (due : Option Due) (order : IsDueOrder document certificate.sections count (option_map due_of due))
      (good : IsGoodUpTo document budget certificate count) where
    pub missing : (now : Due) → due ≡ Some now → IsMissing document budget certificate now.table
    missing now is = record {
      at = count;
      good = good;
      width = now.width;
      due = order.to.next ∙ ap (option_map due_of) is;
      wrong = order.stops;
    }

    pub extra : due ≡ None → count < length certificate.sections → IsExtra document budget certificate count
    extra is more = record { good = good; none = order.to.next ∙ ap (option_map due_of) is; more = more }

    pub whole : due ≡ None → length certificate.sections ≤ count → AreWhole document budget certificate.sections
    whole is end = record {
      good = λ i d less. good.good i d (omega (arith, less, end));
      none = sym (ap (due_after document) (take_all count certificate.sections end)) ∙ order.to.next ∙ ap (option_map due_of) is;
    }

-- ---- the first error

-- an error after results that are none
pub first_error : (judged yielded : List (Result (Unit {0}) Reject)) (one : Result (Unit {0}) Reject) (error : Reject) →
    AreNoErrors yielded (length yielded) → yielded ≡ take (length yielded) judged → length yielded < length judged →
    one ≡ get_or judged (length yielded) one → one ≡ Err error → IsFirstRefusal judged (Err error)
first_error judged yielded one error none so_far there at is = (
  length yielded,
  there,
  λ i d less.
      sym (get_or-take (length yielded) judged i d less) ∙ ap (λ (all : List (Result (Unit {0}) Reject)). get_or all i d)
      (sym so_far) ∙ none i d less,
  λ d. get_or_default judged (length yielded) d one there ∙ sym at ∙ is,
)

pub no_error : (judged yielded : List (Result (Unit {0}) Reject)) → yielded ≡ judged → AreNoErrors yielded (length yielded) →
    IsFirstRefusal judged (Ok tt)
no_error judged yielded same none =
    subst (λ (all : List (Result (Unit {0}) Reject)). AreNoErrors all (length all)) same none
