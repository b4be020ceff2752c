-- The first section of a document that is open has made all cuts of the budget: its problem is the true one, in which `low`
-- is `high`, so that no zone of it is closed by their difference.
use Rattle.std.proofs.Common.{◌≡◌, ◌∙◌, ℕ, zero, suc, ◌+◌, ◌<◌, ◌≤◌, ◌⊎◌, inl, inr, List, length, get_or, take, sym, ap}
use Rattle.std.proofs.Common.{subst, arith, length-take}
use Rattle.std.specs.List.{All, Any}
use Rattle.std.proofs.lemmas.Bool.{cases_lt}
use Rattle.std.proofs.lemmas.List.{get_or-take, get_or_default}
use Rattle.std.proofs.lemmas.List.Elements.{All-nil, All-more, All-get_or, All-contains, All-from_recursion}
use Rattle.tl_base.specs.Steps.{height_at}
use Rattle.tl_problem.specs.Agreement.{LowIsHigh}
use Rattle.tl_problem.specs.Problem.{ProblemModel}
use Rattle.tl_problem.specs.Sound.{IsSound as IsSoundProblem}
use Rattle.tl_problem.specs.Zones.{whole_zone, InZone}
use Rattle.tl_problem.proofs.BoundLaws.{bound-unique}
use Rattle.tl_cert.specs.declared.section.Section.{Section}
use Rattle.tl_cert.specs.declared.trace.CutAt.{CutAt}
use Rattle.tl_cert.specs.Traces.{zone_at}
use Rattle.tl_cert.specs.Worked.{IsWorked}
use Rattle.tl_cert.proofs.TraceLaws.{zones-are}
use Rattle.tl_cert.proofs.WorkedLaws.{agree-everywhere}
use Rattle.tl_form.specs.ClosedLaws.{IsClosedSection}
use Rattle.tl_form.specs.Expected.{Document}
use Rattle.tl_form.specs.OpenLaws.{IsSpent, OpenSpends}
use Rattle.tl_form.specs.ProblemLaws.{LayoutsAreByLow, LayoutsByHighFit, TrueWhereBoundsMeet}
use Rattle.tl_form.specs.Valid.{AreGoodBelow, IsGood}
use Rattle.tl_form.proofs.ClosedLaws.{bounds_meet}
use Rattle.tl_form.proofs.Coverage.{Stands, stands}
use Rattle.tl_form.proofs.DueProblems.{IsOnPage, leasts, on_page, some_number, good_follows}
use Rattle.tl_form.proofs.ProblemTruth.{true-low-is-high}
use Rattle.tl_form.proofs.Truth.{IsTrue, all_true, high_is_above, low_is_below}

-- a worked trace that is open made all cuts of the budget, where `low` is `high`
worked_spends : (problem : ProblemModel) → IsSoundProblem problem → (trace : List CutAt) (height lower budget : ℕ) →
    LowIsHigh problem →
    IsWorked problem trace height lower budget → lower < height → length trace ≡ budget
worked_spends problem sound trace height lower budget same worked below =
    let open_work = worked.below below in
    elim open_work.ended [
      | inl all ↦ all
      | inr closed ↦
          let z = open_work.enough.0 in
          let bound = open_work.enough.1 in
          let stood = open_work.enough.2 in
          let is_bound = open_work.enough.3 in
          let zone = zone_at (whole_zone problem) trace z in
          let is = zones-are problem sound trace worked.trace_of z stood.there in
          elim (closed z stood) [
            | inl none ↦ absurd (none is_bound.some.0 is_bound.some.1)
            | inr (inl high) ↦
                let one = bound-unique problem (InZone problem zone) high.0 bound high.1 is_bound in
                absurd (omega (arith, one, high.2, open_work.enough.4, below))
            | inr (inr single) ↦ absurd (agree-everywhere problem sound zone is same single.1)
          ]
    ]

module _ (by_low : LayoutsAreByLow) (by_high : LayoutsByHighFit) (meet : TrueWhereBoundsMeet) (document : Document)
    (on : IsOnPage document)
    (budget : ℕ) where
  -- after closed sections a good one is closed, or has spent the budget
  closed_or_spent : (before : List Section) → All (IsTrue document) before → All IsClosedSection before → (section : Section) →
      Stands document before (record { table = section.table; width = section.width }) → IsGood document budget before section →
      IsClosedSection section ⊎ IsSpent budget section
  closed_or_spent before true_before closed section stood good =
      let own = good.laid.own in
      let real = (meet own.one document.style section.width own.inner good.problem own.made own.sound
      (low_is_below document on.sound before true_before own.one own.named.among section.width own.inner own.steps)
      (high_is_above document on.sound before true_before own.one own.named.among section.width own.inner own.steps)
      (bounds_meet document on before true_before closed section stood own.one own.named own.inner own.steps)).0 in
      let same : LowIsHigh good.problem = λ cell has w within.
      ap (λ steps. height_at steps w) (All-contains (λ each. each.low ≡ each.high) good.problem.cells cell
      (All-from_recursion (λ each. each.low ≡ each.high) good.problem.cells
      (true-low-is-high own.one document.style section.width good.problem real)) has) in
      elim (cases_lt section.lower section.height) [
        | inl below ↦ inr (worked_spends good.problem own.sound section.trace section.height section.lower budget same
            good.traced below)
        | inr reached ↦ inl (let ordered = good.traced.ordered in omega (arith, reached, ordered))
      ]

  -- what is so of some of the first is so of some of one more
  later : (P : Section → Type 0) (sections : List Section) (n : ℕ) → n < length sections → Any P (take n sections) →
      Any P (take (suc n) sections)
  later P sections n within (k, section, inside, is, so) =
      let below : k < n = omega (arith, inside, length-take n sections, within) in (
        k,
        section,
        omega (arith, below, length-take (suc n) sections, within),
        get_or-take (suc n) sections k section (omega (arith, below)) ∙ sym (get_or-take n sections k section below) ∙ is,
        so,
      )

  here : (P : Section → Type 0) (sections : List Section) (n : ℕ) (d : Section) → n < length sections → P (get_or sections n d) →
      Any P (take (suc n) sections)
  here P sections n d within so = (
    n,
    get_or sections n d,
    omega (arith, length-take (suc n) sections, within),
    get_or-take (suc n) sections n (get_or sections n d) (omega arith) ∙ get_or_default sections n (get_or sections n d) d within,
    so,
  )

  all_or_spent : (sections : List Section) (d : Section) (n : ℕ) → n ≤ length sections → AreGoodBelow document budget sections n →
      All IsClosedSection (take n sections) ⊎ Any (IsSpent budget) (take n sections)
  all_or_spent sections d zero within good = inl (All-nil IsClosedSection)
  all_or_spent sections d (suc n) within good =
      elim (all_or_spent sections d n (omega (arith, within)) (λ j e below. good j e (omega (arith, below)))) [
        | inr spent ↦ inr (later (IsSpent budget) sections n (omega (arith, within)) spent)
        | inl closed ↦
            let section = get_or sections n d in
            let is = good n d (omega arith) in
            let told = all_true by_low by_high document on.sound budget sections n (omega (arith, within))
            (λ j e below. good j e (omega (arith, below))) in
            let stood = stands document (some_number document on) (leasts document on) sections n (omega (arith, within))
            (λ j e below. good_follows document budget (take j sections) (get_or sections j e) (good j e (omega (arith, below))))
            (record { table = section.table; width = section.width }) is.due in
            let same : n + 1 ≡ suc n = omega arith in
            elim (closed_or_spent (take n sections) told closed section stood is) [
              | inl one ↦ inl (subst (λ many. All IsClosedSection (take many sections)) same
                  (All-more IsClosedSection sections n d (omega (arith, within)) closed one))
              | inr spent ↦ inr (here (IsSpent budget) sections n d (omega (arith, within)) spent)
            ]
      ]

  pub open_spent : (sections : List Section) (n : ℕ) → n ≤ length sections → AreGoodBelow document budget sections n →
      (i : ℕ) (d : Section) → i < n →
      (get_or sections i d).lower < (get_or sections i d).height → Any (IsSpent budget) (take n sections)
  open_spent sections n within good i d inside below = elim (all_or_spent sections d n within good) [
    | inr spent ↦ spent
    | inl closed ↦
        let is = All-get_or IsClosedSection (take n sections) i d
        (omega (arith, inside, length-take n sections, within)) closed in
        let same = ap (λ (section : Section). section.lower) (get_or-take n sections i d inside) in
        let also = ap (λ (section : Section). section.height) (get_or-take n sections i d inside) in
        absurd (omega (arith, is, same, also, below))
  ]

pub open_spends : LayoutsAreByLow → LayoutsByHighFit → TrueWhereBoundsMeet → OpenSpends
open_spends by_low by_high meet table style page budget n document sections is within good i d inside below =
    open_spent by_low by_high meet document (on_page table style page document is) budget sections n within good i d inside below
