-- A section has one problem, on what the sections before it tell; and a table has one document on a page.
use Rattle.std.proofs.Common.{◌≡◌, ◌∙◌, ℕ, suc, ◌+◌, ◌-◌, ◌<◌, ◌≤◌, List, [], ◌∷◌, length, get_or, refl, sym, ap, subst, arith}
use Rattle.std.specs.List.{AllZip}
use Rattle.std.proofs.lemmas.List.{get_or_default}
use Rattle.tl_base.specs.declared.style.Style.{Style}
use Rattle.tl_cert.specs.declared.section.Section.{Section}
use Rattle.tl_table.specs.declared.cell.Table.{Table, out-Table}
use Rattle.tl_form.specs.declared.heights.InnerSteps.{InnerSteps}
use Rattle.tl_form.specs.Expected.{Document, IsDocumentOf, own_number, least_of}
use Rattle.tl_table.specs.Least.{IsLeastWidth}
use Rattle.tl_form.specs.Nested.{AreStepsBy, AreInnerSteps, IsGreatestLower, IsLeastFound}
use Rattle.tl_form.specs.ProblemLaws.{ProblemIsDetermined}
use Rattle.tl_form.specs.Problems.{IsProblemOf, AreStepsOf}
use Rattle.tl_table.specs.Tables.{IsAmong}
use Rattle.tl_table.specs.Sound.{IsSound, nested_in_table}
use Rattle.tl_form.specs.Failures.{FailsFor}
use Rattle.tl_form.specs.ValidLaws.{RefusedForOneReason, ValidIsNotRefused}
use Rattle.tl_table.proofs.LinkLemmas.{IsLeastWidth-unique}
use Rattle.tl_form.proofs.NeedSteps.{AreStepsOf-unique}
use Rattle.tl_form.proofs.OneFault.{HasOneProblem, one_fault, no_fault}
use Rattle.tl_table.proofs.TableNumbers.{one_of_number, table_of_number}

-- ---- steps

pub one_steps : (style : Style) (page : ℕ) (sections : List Section) (nested : Table) (one other : InnerSteps) →
    AreStepsBy style page sections nested one → AreStepsBy style page sections nested other → one ≡ other
one_steps style page sections nested one other is are = λ i. record { table = table i; low = low i; high = high i }
  where
    number : ℕ
    number = (out-Table nested).number

    table : one.table ≡ other.table
    table = is.named ∙ sym are.named

    least : are.least ≡ is.least
    least = IsLeastWidth-unique nested style are.least is.least are.is_least is.is_least

    low : one.low ≡ other.low
    low = AreStepsOf-unique (λ w h. (is.least ≤ w) × IsGreatestLower sections number w h) page one.low other.low is.low
        (subst (λ n. AreStepsOf (λ w h. (n ≤ w) × IsGreatestLower sections number w h) page other.low) least are.low)

    high : one.high ≡ other.high
    high = AreStepsOf-unique (λ w h. (is.least ≤ w) × IsLeastFound style sections number w h) page one.high other.high is.high
        (subst (λ n. AreStepsOf (λ w h. (n ≤ w) × IsLeastFound style sections number w h) page other.high) least are.high)

pub one_inner : (style : Style) (page : ℕ) (sections : List Section) (tables : List Table) (one other : List InnerSteps) →
    AllZip (AreStepsBy style page sections) tables one → AllZip (AreStepsBy style page sections) tables other → one ≡ other
one_inner style page sections [] [] [] is are = refl
one_inner style page sections [] [] (y ∷ other) is are = absurd are
one_inner style page sections [] (x ∷ one) other is are = absurd is
one_inner style page sections (table ∷ tables) [] other is are = absurd is
one_inner style page sections (table ∷ tables) (x ∷ one) [] is are = absurd are
one_inner style page sections (table ∷ tables) (x ∷ one) (y ∷ other) is are =
    let head = one_steps style page sections table x y is.0 are.0 in
    let tail = one_inner style page sections tables one other is.1 are.1 in
    λ i. head i ∷ tail i

-- ---- problems

pub one_problem : ProblemIsDetermined → (document : Document) → IsSound document.table → HasOneProblem document
one_problem determined document sound before section one other is are =
    determined is.one document.style section.width is.inner one other is.made
    (subst (λ inner. IsProblemOf is.one document.style section.width inner other) inner
    (subst (λ t. IsProblemOf t document.style section.width are.inner other) same are.made))
  where
    same : are.one ≡ is.one
    same = one_of_number document.table are.one is.one sound are.named.among is.named.among
        (are.named.numbered ∙ sym is.named.numbered)

    inner : are.inner ≡ is.inner
    inner = one_inner document.style section.width before _ are.inner is.inner
        (subst (λ t. AreInnerSteps t document.style section.width before are.inner) same are.steps) is.steps

-- ---- documents

-- lists of one length with the same items are the same
same_items : {X : Type 0} (xs ys : List X) → length xs ≡ length ys →
    ((i : ℕ) (d : X) → i < length xs → get_or xs i d ≡ get_or ys i d) → xs ≡ ys
same_items [] [] long each = refl
same_items [] (y ∷ ys) long each = absurd (omega (arith, long))
same_items (x ∷ xs) [] long each = absurd (omega (arith, long))
same_items (x ∷ xs) (y ∷ ys) long each =
    let head = each 0 x (omega arith) in
    let tail = same_items xs ys (omega (arith, long)) (λ i d within. each (suc i) d (omega (arith, within))) in
    λ i. head i ∷ tail i

pub one_document : (table : Table) (style : Style) (page : ℕ) (one other : Document) → IsSound table →
    IsDocumentOf table style page one →
    IsDocumentOf table style page other → one ≡ other
one_document table style page one other sound is are = λ i. record {
  table = same i;
  style = drawn i;
  page = wide i;
  last = numbers i;
  least = widths i;
} where
  same : one.table ≡ other.table
  same = is.same ∙ sym are.same

  drawn : one.style ≡ other.style
  drawn = is.drawn ∙ sym are.drawn

  wide : one.page ≡ other.page
  wide = is.wide ∙ sym are.wide

  own : own_number one ≡ own_number other
  own = ap (λ t. (out-Table t).number) same

  inside : nested_in_table one.table ≡ nested_in_table other.table
  inside = ap nested_in_table same

  numbers : one.last ≡ other.last
  numbers = omega (arith, is.numbers, are.numbers, own, inside)

  long : length one.least ≡ length other.least
  long = omega (arith, is.each, are.each, inside)

  each : (i : ℕ) (d : ℕ) → i < length one.least → get_or one.least i d ≡ get_or other.least i d
  each i d within =
      let found = table_of_number one.table (own_number one + i) (subst IsSound (sym is.same) sound) (omega arith)
      (omega (arith, is.each, within)) in
      let n = (out-Table found.0).number in
      let at_one : n - own_number one ≡ i = omega (arith, found.2) in
      let at_other : n - own_number other ≡ i = omega (arith, found.2, own) in
      let first : IsLeastWidth found.0 one.style (get_or one.least i 0) =
      subst (λ k. IsLeastWidth found.0 one.style (get_or one.least k 0)) at_one (is.least found.0 found.1) in
      let second : IsLeastWidth found.0 one.style (get_or other.least i 0) =
      subst (λ k. IsLeastWidth found.0 one.style (get_or other.least k 0)) at_other
      (subst (λ s. IsLeastWidth found.0 s (least_of other n)) (sym drawn)
      (are.least found.0 (subst (λ t. IsAmong t found.0) same found.1))) in
      get_or_default one.least i d 0 within
      ∙ IsLeastWidth-unique found.0 one.style (get_or one.least i 0) (get_or other.least i 0) first second
      ∙ get_or_default other.least i 0 d (omega (arith, long, within))

  widths : one.least ≡ other.least
  widths = same_items one.least other.least long each

-- ---- one reason

pub refused_once : ProblemIsDetermined → RefusedForOneReason
refused_once determined table style page budget certificate sound one other is are =
    let same = one_document table style page are.0 is.0 sound are.1 is.1 in
    one_fault is.0 budget certificate (one_problem determined is.0 (subst IsSound (sym is.1.same) sound)) one other is.2
    (subst (λ document. FailsFor document budget certificate other) same are.2)

pub valid_not_refused : ProblemIsDetermined → ValidIsNotRefused
valid_not_refused determined table style page budget certificate sound valid fault is =
    let same = one_document table style page is.0 valid.0 sound is.1 valid.1 in
    no_fault valid.0 budget certificate (one_problem determined valid.0 (subst IsSound (sym valid.1.same) sound)) fault valid.2
    (subst (λ document. FailsFor document budget certificate fault) same is.2)
