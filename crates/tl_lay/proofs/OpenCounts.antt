-- Where the choice on the narrowest page is left open, the budget of each search is below the counts of that page, and of each
-- wider one: else all sections would be closed, the table's problem the true one, and its count within the budget.
use Rattle.std.proofs.Common.{◌≡◌, ◌⊎◌, inl, inr, ℕ, ◌+◌, ◌<◌, ◌≤◌, List, get_or, length, take, refl, ap, subst, arith}
use Rattle.std.proofs.lemmas.Bool.{cases_lt}
use Rattle.std.proofs.lemmas.List.Elements.{All-contains, All-from_recursion}
use Rattle.std.specs.List.{All}
use Rattle.tl_base.specs.declared.steps.Config.{Config}
use Rattle.tl_base.specs.declared.limits.TheConstants.{MAX_PAGE_WIDTH, MAX_REACH}
use Rattle.tl_base.specs.declared.style.Style.{Style}
use Rattle.tl_base.specs.Steps.{height_at}
use Rattle.tl_problem.specs.Problem.{ProblemModel}
use Rattle.tl_problem.specs.Spans.{count_of}
use Rattle.tl_cert.specs.declared.certificate.Certificate.{Certificate}
use Rattle.tl_cert.specs.declared.section.Section.{Section}
use Rattle.tl_table.specs.declared.cell.Table.{Table}
use Rattle.tl_table.specs.declared.layout.Layout.{Layout}
use Rattle.tl_table.specs.Layouts.{Fits}
use Rattle.tl_table.specs.Sound.{IsSound}
use Rattle.tl_form.specs.ClosedLaws.{BudgetCloses, IsClosedSection, IsWideDocument}
use Rattle.tl_form.specs.CountLaws.{AllCountsRise, CountsExist, CountsRise}
use Rattle.tl_form.specs.Expected.{Document}
use Rattle.tl_form.specs.Problems.{IsCountAll, IsTrueProblem}
use Rattle.tl_form.specs.Valid.{AreGoodBelow}
use Rattle.tl_form.proofs.ClosedLaws.{bounds_meet}
use Rattle.tl_form.proofs.Coverage.{Stands, stands}
use Rattle.tl_form.proofs.DueProblems.{IsOnPage, good_follows, leasts, on_page, some_number}
use Rattle.tl_form.proofs.NamedSteps.{by_low, by_high}
use Rattle.tl_form.proofs.ProblemTruth.{is-true, true-low-is-high}
use Rattle.tl_form.proofs.Truth.{Fits-wider, IsTrue, all_true, high_is_above, low_is_below}
use Rattle.tl_form.proofs.ValidLaws.{no_section}
use Rattle.tl_narrow.specs.Slimmest.{IsBelowCounts}
use Rattle.tl_narrow.specs.Slims.{IsLowCertificate}
use Rattle.tl_problem.specs.Agreement.{AgreesOnPage}
use Rattle.tl_lay.specs.declared.task.Task.{Task}
use Rattle.tl_lay.specs.Budgets.{budget_in}
use Rattle.tl_lay.specs.Tidied.{IsLeftOpen, IsOwnProblem}
use Rattle.tl_lay.proofs.ChosenLaid as laid

-- in a true problem each cell has the same steps by both bounds
same_steps : (table : Table) (style : Style) (page : ℕ) (problem : ProblemModel) → IsTrueProblem table style page problem →
    AgreesOnPage problem
same_steps table style page problem is cell has w within =
    ap (λ (steps : List Config). height_at steps w) (All-contains (λ each. each.low ≡ each.high) problem.cells cell
    (All-from_recursion (λ each. each.low ≡ each.high) problem.cells (true-low-is-high table style page problem is)) has)

module _ (table : Table) (style : Style) (height width budget : ℕ) (sound : IsSound table) (c : Certificate)
    (low : IsLowCertificate table style height width budget c) (narrow : width ≤ MAX_PAGE_WIDTH) where
  abbrev n : ℕ
  n = laid.n table style height width budget sound c low

  abbrev document : Document
  document = laid.document table style height width budget sound c low

  abbrev end : Section
  end = get_or c.sections n no_section

  wide_document : IsWideDocument table style width document
  wide_document = record {
    sound = sound;
    of = laid.of table style height width budget sound c low;
    narrow = narrow;
    wide = laid.page_wide table style height width budget sound c low;
  }

  on : IsOnPage document
  on = on_page table style width document wide_document

  last : n + 1 ≡ length c.sections
  last = laid.last table style height width budget sound c low

  good_before : AreGoodBelow document budget c.sections n
  good_before = λ i d less. (laid.shown table style height width budget sound c low).0.good i d (omega (arith, less, last))

  true_before : All (IsTrue document) (take n c.sections)
  true_before = all_true by_low by_high document on.sound budget c.sections n (omega (arith, last)) good_before

  stood : Stands document (take n c.sections) (record { table = end.table; width = end.width })
  stood = stands document (some_number document on) (leasts document on) c.sections n (omega (arith, last))
      (λ i d less. good_follows document budget (take i c.sections) (get_or c.sections i d) (good_before i d less))
      (record { table = end.table; width = end.width })
      ((laid.shown table style height width budget sound c low).0.good n no_section (omega (arith, last))).due

  -- where all sections before the last are closed, its problem is the true one
  closed_true : (problem : ProblemModel) → IsOwnProblem table style c problem → All IsClosedSection (take n c.sections) →
      IsTrueProblem table style width problem
  closed_true problem is closed =
      let own = laid.problem_at_last table style height width budget sound c low problem is no_section in
      let real = is-true own.one document.style end.width own.inner problem own.made own.sound
      (low_is_below document on.sound (take n c.sections) true_before own.one own.named.among end.width own.inner own.steps)
      (high_is_above document on.sound (take n c.sections) true_before own.one own.named.among end.width own.inner own.steps)
      (bounds_meet document on (take n c.sections) true_before closed end stood own.one own.named own.inner own.steps) in
      subst (λ (w : ℕ). IsTrueProblem table style w problem) (laid.own_width table style height width budget sound c low no_section)
      (subst (λ (s : Style). IsTrueProblem table s end.width problem)
      (laid.of table style height width budget sound c low).drawn real)

  module _ (closes : BudgetCloses) (counts : CountsExist) (rise : CountsRise) (rise_all : AllCountsRise) (cuts : budget ≤ MAX_REACH)
      (lines : ℕ) (layout : Layout) (fits : Fits table style width lines layout) (problem : ProblemModel)
      (is : IsOwnProblem table style c problem) where
    -- with a budget of the greatest count the choice is made
    never_enough : (most : ℕ) → IsCountAll table style width most → most ≤ budget →
        (AgreesOnPage problem → ⊥) ⊎ (budget < count_of problem) → ⊥
    never_enough most counted enough left = by_left left where
      real : IsTrueProblem table style width problem
      real = closed_true problem is (closes table style width budget most n document c.sections wide_document counted enough
          (omega (arith, cuts)) (omega (arith, last)) good_before)

      by_left : (AgreesOnPage problem → ⊥) ⊎ (budget < count_of problem) → ⊥
      by_left (inl differ) = differ (same_steps table style width problem real)
      by_left (inr less) =
          let many = counted.never_more table (inl refl) in
          let few = rise table style width width (count_of problem) many.0 (omega arith) (problem, real, refl) many.1 in
          absurd (omega (arith, less, few, many.2, enough))

    pub open_below : (AgreesOnPage problem → ⊥) ⊎ (budget < count_of problem) → (page : ℕ) → width ≤ page →
        IsBelowCounts table style page budget
    open_below left page from =
        let few = counts table style width lines layout sound fits in
        let many = counts table style page lines layout sound (Fits-wider style table width page lines layout from fits) in
        let more = rise_all table style width page few.0 many.0 from few.1 many.1 in
        elim (cases_lt budget few.0) [
          | inl less ↦ (many.0, many.1, omega (arith, less, more))
          | inr enough ↦ absurd (never_enough few.0 few.1 enough left)
        ]

-- what is left open, without the need
pub differ_or_less : (task : Task) (table : Table) (height : ℕ) (problem : ProblemModel) → IsLeftOpen task table height problem →
    (AgreesOnPage problem → ⊥) ⊎ (budget_in task table < count_of problem)
differ_or_less task table height problem (inl differ) = inl differ
differ_or_less task table height problem (inr both) = inr both.1
