-- The widths at which a nested table is searched.
use Rattle.std.proofs.Common.{◌≡◌, ℕ, ◌+◌, ◌≤◌, Option, None, Some, subst, arith}
use Rattle.std.specs.Option.{IfSome}
use Rattle.tl_form.specs.declared.subject.Subject.{Subject}
use Rattle.tl_form.specs.Expected.{least_of, own_number}
use Rattle.tl_form.specs.Subjects.{IsSubject, meant}
use Rattle.tl_form.proofs.DueProblems.{leasts, on_page}
use Rattle.tl_nested.specs.Searched.{IsWideEnough}
use Rattle.tl_nested.specs.inner.Found.{MayBeSearchedNext}
use Rattle.tl_nested.proofs.Ready.{wide_page}

-- each table begins within the page
pub first_width : (subject : Subject) → IsSubject subject → IsWideEnough subject → (number : ℕ) →
    own_number (meant subject) ≤ number → number ≤ subject.last → MayBeSearchedNext (least_of (meant subject) number) subject.page
    (Some subject.page)
first_width subject is fits number from upto = (
  leasts (meant subject) (on_page subject.table.now subject.style subject.page (meant subject) (wide_page subject is fits))
      number from upto,
  omega arith,
)

-- and goes on below the placement before
pub next_width : (least given page now placed : ℕ) (width : Option ℕ) → given ≡ least → placed ≤ now → now ≤ page →
    IfSome width (λ w. (w + 1 ≡ placed) × (given ≤ w)) → MayBeSearchedNext least page width
next_width least given page now placed None same narrow upto is = tt
next_width least given page now placed (Some w) same narrow upto is =
    (omega (arith, is.1, same), omega (arith, is.0, narrow, upto))

pub of_some : {X : Type 0} (P : X → Type 0) (found : Option X) (x : X) → found ≡ Some x → IfSome found P → P x
of_some P found x is all = subst (λ one. IfSome one P) is all
