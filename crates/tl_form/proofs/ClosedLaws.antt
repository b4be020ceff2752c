-- Where sections are closed they tell the least heights of their tables, so that the problem of the table around these is
-- the true one; and then a budget of at least its count closes the next section too.
use Rattle.std.proofs.Common.{◌≡◌, ◌∙◌, ℕ, zero, suc, ◌+◌, ◌-◌, ◌^◌, ◌<◌, ◌≤◌, List, length, get_or, take, Some, inl, refl, sym}
use Rattle.std.proofs.Common.{ap, subst, arith}
use Rattle.std.specs.List.{All, Contains}
use Rattle.std.specs.Option.{IsSomeAnd}
use Rattle.std.proofs.lemmas.List.{take_all}
use Rattle.std.proofs.lemmas.List.Elements.{All-nil, All-more, All-contains, All-from_recursion, recursion_from_All}
use Rattle.tl_base.specs.declared.style.Style.{Style}
use Rattle.tl_base.specs.Steps.{height_at}
use Rattle.tl_base.proofs.Members.{All-from_Contains}
use Rattle.tl_problem.specs.Agreement.{LowIsHigh}
use Rattle.tl_problem.specs.Problem.{ProblemModel}
use Rattle.tl_problem.specs.Spans.{count_of}
use Rattle.tl_cert.specs.declared.section.Section.{Section}
use Rattle.tl_cert.proofs.WorkedLaws.{worked-lower}
use Rattle.tl_table.specs.declared.cell.Table.{Table, out-Table}
use Rattle.tl_form.specs.declared.heights.InnerSteps.{InnerSteps}
use Rattle.tl_form.specs.ClosedLaws.{IsClosedSection, IsKnownAt, ClosedTellLeast, BudgetCloses}
use Rattle.tl_form.specs.CountLaws.{CountsRise}
use Rattle.tl_form.specs.Expected.{Document, IsTableOf, least_of, placed_width, due_after}
use Rattle.tl_table.specs.declared.layout.Layout.{Layout}
use Rattle.tl_table.specs.Layouts.{Fits}
use Rattle.tl_table.specs.Least.{IsLeastWidth}
use Rattle.tl_form.specs.Nested.{IsAsWide, IsPlacedWithin, IsGreatestLower, IsLeastFound, AreStepsBy, AreInnerSteps}
use Rattle.tl_form.specs.ProblemLaws.{BoundsMeet, LayoutsAreByLow, LayoutsByHighFit, TrueWhereBoundsMeet}
use Rattle.tl_form.specs.Problems.{InnerNeeds, IsCountAll, IsTrueProblem}
use Rattle.tl_table.specs.Tables.{IsAmong, inner_tables}
use Rattle.tl_form.specs.Valid.{AreGoodBelow, IsGood}
use Rattle.tl_form.proofs.CoveredSteps.{lower_told, height_told}
use Rattle.tl_form.proofs.Coverage.{AreTold, Stands, stands}
use Rattle.tl_form.proofs.DueProblems.{IsOnPage, leasts, on_page, some_number, good_follows}
use Rattle.tl_table.proofs.LinkLemmas.{IsLeastWidth-unique}
use Rattle.tl_form.proofs.ProblemTruth.{true-low-is-high}
use Rattle.tl_form.proofs.SectionHeights.{any_all, any_item}
use Rattle.tl_table.proofs.TableNumbers.{one_of_number, number_within, inside_greater, sound_among}
use Rattle.tl_form.proofs.Truth.{Fits-wider, IsTrue, all_true, high_is_above, low_is_below, nested_among, steps_found}

-- ---- where a width is told of, closed sections tell the least height

module _ (document : Document) (before : List Section) (true_before : All (IsTrue document) before) (one : Table)
    (among : IsAmong document.table one) (w : ℕ) (told : AreTold document.style before (out-Table one).number w)
    (closed : All (λ section. section.table ≡ (out-Table one).number → IsClosedSection section) before) where
  pub known_at : (h : ℕ) × IsKnownAt document.style before one w h
  known_at = (
    low.0,
    record {
      least = record {
        attained = (found.0, subst (λ h. Fits one document.style w h found.0) (sym same) found.1);
        least = below;
      };
      low = low.1;
      high = subst (IsLeastFound document.style before (out-Table one).number w) (sym same) high.1;
    },
  ) where
    low : (lower : ℕ) × IsGreatestLower before (out-Table one).number w lower
    low = lower_told document.style before (out-Table one).number w told

    high : (height : ℕ) × IsLeastFound document.style before (out-Table one).number w height
    high = height_told document.style before (out-Table one).number w told

    named : (section : Section) → section.table ≡ (out-Table one).number → IsTableOf document section.table one
    named section is = record { among = among; numbered = sym is }

    -- no layout is below `low`
    below : (other : ℕ) (layout : Layout) → Fits one document.style w other layout → low.0 ≤ other
    below other layout fits =
        let at = any_item (λ section. IsAsWide (out-Table one).number w section × (section.lower ≡ low.0))
        before low.1.attained in
        let tells = All-contains (IsTrue document) before at.0 true_before at.1 in
        omega (
          arith,
          at.2.1,
          tells.lower one (named at.0 at.2.0.of) other layout
              (Fits-wider document.style one w at.0.width other layout at.2.0.wide fits),
        )

    -- a layout has `high`
    found : (layout : Layout) × Fits one document.style w high.0 layout
    found =
        let at = any_item (λ section. IsPlacedWithin document.style (out-Table one).number w section × (section.height ≡ high.0))
        before high.1.attained in
        let tells = All-contains (IsTrue document) before at.0 true_before at.1 in
        let laid = tells.found one (named at.0 at.2.0.of) in (
          laid.0,
          Fits-wider document.style one (placed_width document.style at.0) w high.0 laid.0 at.2.0.narrow
              (subst (λ h. Fits one document.style (placed_width document.style at.0) h laid.0) at.2.1 laid.1),
        )

    same : low.0 ≡ high.0
    same =
        let section = told.0 in
        let tells = told.2 in
        omega (
          arith,
          below high.0 found.0 found.1,
          All-contains (λ each. IsAsWide (out-Table one).number w each →
              each.lower ≤ low.0) before section low.1.never_more told.1
              (record { of = tells.of; wide = tells.wide }),
          All-contains (λ each. IsPlacedWithin document.style (out-Table one).number w each →
              high.0 ≤ each.height) before section high.1.never_less told.1
              (record { of = tells.of; narrow = tells.narrow }),
          All-contains (λ each. each.table ≡ (out-Table one).number → IsClosedSection each) before section closed told.1 tells.of,
        )

-- one greatest lower bound
lower_once : (sections : List Section) (number w a b : ℕ) → IsGreatestLower sections number w a →
    IsGreatestLower sections number w b → a ≡ b
lower_once sections number w a b is are =
    let first = any_all (λ section. IsAsWide number w section × (section.lower ≡ a)) (λ section. IsAsWide number w section →
    section.lower ≤ b) sections
    is.attained are.never_more in
    let second = any_all (λ section. IsAsWide number w section × (section.lower ≡ b)) (λ section. IsAsWide number w section →
    section.lower ≤ a) sections
    are.attained is.never_more in
    omega (arith, first.1.1, first.2 first.1.0, second.1.1, second.2 second.1.0)

-- ---- the next section

module _ (document : Document) (on : IsOnPage document) (before : List Section) (true_before : All (IsTrue document) before)
    (closed : All IsClosedSection before) (section : Section)
    (stood : Stands document before (record { table = section.table; width = section.width })) (one : Table)
    (named : IsTableOf document section.table one) (inner : List InnerSteps)
    (steps : AreInnerSteps one document.style section.width before inner) where
  -- each nested table inside has been told of at each width of the page
  nested_told : (nested : Table) → Contains (inner_tables (out-Table one)) nested → (least w : ℕ) →
      IsLeastWidth nested document.style least →
      least ≤ w → w ≤ section.width → AreTold document.style before (out-Table nested).number w
  nested_told nested has least w is from within =
      let among = nested_among document.table one nested named.among has in
      let greater = inside_greater one nested 1 (sound_among document.table one on.sound named.among) (nested, has, inl refl) in
      let range = number_within document.table nested on.sound among in
      let same = IsLeastWidth-unique nested document.style least (least_of document (out-Table nested).number) is
      (on.least nested among) in
      stood.covered.above (out-Table nested).number w (omega (arith, greater, named.numbered))
      (omega (arith, range.1, on.numbers))
      (omega (arith, same, from)) (let upto = stood.covered.upto in omega (arith, within, upto))

  nested_meets : (nested : Table) → Contains (inner_tables (out-Table one)) nested → (w h : ℕ) → w ≤ section.width →
      InnerNeeds (λ each. each.low) inner nested w h → InnerNeeds (λ each. each.high) inner nested w h
  nested_meets nested has w h within needs =
      let found = steps_found document.style section.width before (inner_tables (out-Table one)) inner nested steps has in
      let among = nested_among document.table one nested named.among has in
      let same = one_of_number document.table found.of nested on.sound
      (nested_among document.table one found.of named.among found.has) among
      found.numbered in
      let own : AreStepsBy document.style section.width before nested found.steps =
      subst (λ t. AreStepsBy document.style section.width before t found.steps) same found.are in
      let low = (own.low.each w h within).0 (subst (λ o. IsSomeAnd o (λ each. height_at each.low w ≡ Some h))
      found.found needs) in
      let known = known_at document before true_before nested among w
      (nested_told nested has own.least w own.is_least low.0 within)
      (λ k d inside of. closed k d inside) in
      let equal = lower_once before (out-Table nested).number w known.0 h known.1.low low.1 in
      subst (λ o. IsSomeAnd o (λ each. height_at each.high w ≡ Some h)) (sym found.found)
      ((own.high.each w h within).1 (
        low.0,
        subst (IsLeastFound document.style before (out-Table nested).number w)
            equal known.1.high,
      ))

  pub bounds_meet : BoundsMeet one section.width inner
  bounds_meet = recursion_from_All
      (λ nested. (w h : ℕ) → w ≤ section.width → InnerNeeds (λ each. each.low) inner nested w h →
      InnerNeeds (λ each. each.high) inner nested w h)
      (inner_tables (out-Table one)) (All-from_Contains
      (λ nested. (w h : ℕ) → w ≤ section.width → InnerNeeds (λ each. each.low) inner nested w h →
      InnerNeeds (λ each. each.high) inner nested w h)
      (inner_tables (out-Table one)) nested_meets)

-- in a true problem each cell needs the same by both bounds
pub low_is_high : (table : Table) (style : Style) (page : ℕ) (problem : ProblemModel) → IsTrueProblem table style page problem →
    LowIsHigh problem
low_is_high table style page problem is cell has w within =
    ap (λ steps. height_at steps w) (All-contains (λ each. each.low ≡ each.high) problem.cells cell
    (All-from_recursion (λ each. each.low ≡ each.high) problem.cells (true-low-is-high table style page problem is)) has)

module _ (by_low : LayoutsAreByLow) (by_high : LayoutsByHighFit) (meet : TrueWhereBoundsMeet) (rise : CountsRise)
    (document : Document)
    (on : IsOnPage document) (budget most : ℕ) (all : IsCountAll document.table document.style document.page most)
    (enough : most ≤ budget)
    (small : budget < 2 ^ 64 - 1) where
  next_closes : (before : List Section) → All (IsTrue document) before → All IsClosedSection before → (section : Section) →
      Stands document before (record { table = section.table; width = section.width }) → IsGood document budget before section →
      IsClosedSection section
  next_closes before true_before closed section stood good =
      let own = good.laid.own in
      let real = (meet own.one document.style section.width own.inner good.problem own.made own.sound
      (low_is_below document on.sound before true_before own.one own.named.among section.width own.inner own.steps)
      (high_is_above document on.sound before true_before own.one own.named.among section.width own.inner own.steps)
      (bounds_meet document on before true_before closed section stood own.one own.named own.inner own.steps)).0 in
      let many = all.never_more own.one own.named.among in
      let few = rise own.one document.style section.width document.page (count_of good.problem) many.0 stood.covered.upto
      (good.problem, real, refl) many.1 in
      worked-lower good.problem own.sound section.trace section.height section.lower budget
      (low_is_high own.one document.style section.width good.problem real) (omega (arith, few, many.2, enough)) small good.traced

  pub all_closed : (sections : List Section) (n : ℕ) → n ≤ length sections → AreGoodBelow document budget sections n →
      All IsClosedSection (take n sections)
  all_closed sections zero within good = All-nil IsClosedSection
  all_closed sections (suc n) within good = λ i d less.
      let same : n + 1 ≡ suc n = omega arith in
      let section = get_or sections n d in
      let is = good n d (omega arith) in
      let before = all_closed sections n (omega (arith, within)) (λ j e below. good j e (omega (arith, below))) in
      let told = all_true by_low by_high document on.sound budget sections n (omega (arith, within))
      (λ j e below. good j e (omega (arith, below))) in
      let stood = stands document (some_number document on) (leasts document on) sections n (omega (arith, within))
      (λ j e below. good_follows document budget (take j sections) (get_or sections j e) (good j e (omega (arith, below))))
      (record { table = section.table; width = section.width }) is.due in
      subst (λ many. All IsClosedSection (take many sections)) same
      (All-more IsClosedSection sections n d (omega (arith, within)) before
      (next_closes (take n sections) told before section stood is)) i d less

-- ---- for a table

pub budget_closes : LayoutsAreByLow → LayoutsByHighFit → TrueWhereBoundsMeet → CountsRise → BudgetCloses
budget_closes by_low by_high meet rise table style page budget most n document sections is all enough small within good =
    all_closed by_low by_high meet rise document (on_page table style page document is) budget most
    (subst (λ t. IsCountAll t document.style document.page most) (sym is.of.same)
    (subst (λ s. IsCountAll table s document.page most) (sym is.of.drawn)
    (subst (λ w. IsCountAll table style w most) (sym is.of.wide) all))) enough small sections n within good

pub closed_tell : LayoutsAreByLow → LayoutsByHighFit → ClosedTellLeast
closed_tell by_low by_high table style page budget document sections now one least w is good due among later closed of from upto =
    let on = on_page table style page document is in
    let whole : take (length sections) sections ≡ sections = take_all (length sections) sections (omega arith) in
    let told : All (IsTrue document) sections = subst (All (IsTrue document)) whole
    (all_true by_low by_high document on.sound budget sections (length sections) (omega arith) good) in
    let stood : Stands document sections now = subst (λ xs. Stands document xs now) whole
    (stands document (some_number document on) (leasts document on) sections (length sections) (omega arith)
    (λ j e below. good_follows document budget (take j sections) (get_or sections j e) (good j e below)) now
    (ap (due_after document) whole ∙ due)) in
    let inside : IsAmong document.table one = subst (λ t. IsAmong t one) (sym is.of.same) among in
    let own = IsLeastWidth-unique one document.style least (least_of document (out-Table one).number)
    (subst (λ s. IsLeastWidth one s least) (sym is.of.drawn) of) (on.least one inside) in
    let range = number_within document.table one on.sound inside in
    let known = known_at document sections told one inside w
    (stood.covered.above (out-Table one).number w later (omega (arith, range.1, on.numbers))
    (omega (arith, own, from)) (omega (arith, upto, is.of.wide))) closed in
    (known.0, subst (λ s. IsKnownAt s sections one w known.0) is.of.drawn known.1)
