-- What good sections prove: no layout of the table on the section's page is below its lower bound, and one has its height
-- in the columns of its placement. By induction on the number of the section: those before it tell the truth of the tables
-- nested in its own.
use Rattle.tl_base.specs.declared.spacing.Spacing.{Spacing}
use Rattle.std.proofs.Common.{◌≡◌, ◌∙◌, ℕ, zero, suc, ◌+◌, ◌≤◌, Bool, true, if◌then◌else◌, cond, nat_le, filter, option_map, List}
use Rattle.std.proofs.Common.{[], ◌∷◌, ◌⊎◌, inl}
use Rattle.std.proofs.Common.{inr, length, get_or, take, None, Some, refl, sym, ap, subst, arith}
use Rattle.std.specs.List.{All, AllZip, Contains, last_or}
use Rattle.std.specs.Option.{IsSomeAnd}
use Rattle.std.proofs.lemmas.Bool.{cases_eq, eq-eqb, ne_eqb}
use Rattle.std.proofs.lemmas.List.Elements.{All-nil, All-more, All-get_or, recursion_from_All}
use Rattle.tl_base.specs.declared.style.Style.{Style}
use Rattle.tl_base.specs.declared.steps.Config.{Config}
use Rattle.tl_base.specs.Steps.{AreSteps, first_width, height_at}
use Rattle.tl_base.proofs.Decreasing.{test_le}
use Rattle.tl_base.proofs.Members.{Contains-cases, Contains-none, All-from_Contains}
use Rattle.tl_base.specs.Style.{gap_of, edges_of}
use Rattle.tl_base.specs.Sizes.{total}
use Rattle.tl_problem.specs.Problem.{total_width, total_height}
use Rattle.tl_cert.specs.declared.section.Section.{Section}
use Rattle.tl_cert.proofs.LogLaws.{log-sound}
use Rattle.tl_table.specs.declared.cell.Table.{Table, out-Table}
use Rattle.tl_form.specs.declared.heights.InnerSteps.{InnerSteps}
use Rattle.tl_table.specs.declared.layout.Layout.{Layout, out-Layout}
use Rattle.tl_form.specs.Expected.{Document, IsTableOf, placed_width}
use Rattle.tl_table.specs.Layouts.{Fits}
use Rattle.tl_form.specs.Nested.{IsGreatestLower, AreStepsBy, AreInnerSteps}
use Rattle.tl_form.specs.ProblemLaws.{IsBelowLayouts, IsAboveLayouts, LowIsBelow, HighIsAbove, LayoutsAreByLow, LayoutsByHighFit}
use Rattle.tl_form.specs.Problems.{InnerNeeds, steps_for}
use Rattle.tl_table.specs.Tables.{IsInsideWithin, IsAmong, inner_tables}
use Rattle.tl_table.specs.Sound.{IsSound}
use Rattle.tl_form.specs.Valid.{IsGood, AreGoodBelow}
use Rattle.tl_table.proofs.Deeper.{FitsWithin-wider}
use Rattle.tl_table.proofs.TableNumbers.{one_of_number}

-- a layout that fits a page fits a wider one
pub Fits-wider : (style : Style) (table : Table) (width wider height : ℕ) (layout : Layout) → width ≤ wider →
    Fits table style width height layout → Fits table style wider height layout
Fits-wider style table width wider height layout more fits =
    (fits.0, FitsWithin-wider fits.0 style table width wider height layout more fits.1)

-- ---- tables nested in one that is among those of a document are among them

inside_further : (depth : ℕ) (table one nested : Table) → IsInsideWithin depth table one →
    Contains (inner_tables (out-Table one)) nested →
    IsInsideWithin (suc depth) table nested
inside_further zero table one nested inside has = absurd inside
inside_further (suc depth) table one nested inside has =
    (inside.0, inside.1, inr (by_case inside.2 (λ further. inside_further depth inside.0 one nested further has)))
  where
    by_case : (inside.0 ≡ one) ⊎ IsInsideWithin depth inside.0 one →
        (IsInsideWithin depth inside.0 one → IsInsideWithin (suc depth) inside.0 nested) →
        IsInsideWithin (suc depth) inside.0 nested
    by_case (inl same) again = (nested, subst (λ t. Contains (inner_tables (out-Table t)) nested) (sym same) has, inl refl)
    by_case (inr further) again = again further

pub nested_among : (table one nested : Table) → IsAmong table one → Contains (inner_tables (out-Table one)) nested →
    IsAmong table nested
nested_among table one nested (inl same) has =
    inr (1, (nested, subst (λ t. Contains (inner_tables (out-Table t)) nested) (sym same) has, inl refl))
nested_among table one nested (inr inside) has = inr (suc inside.0, inside_further inside.0 table one nested inside.1 has)

-- ---- the steps of a nested table among those of all

-- the first steps with the number of a nested table are those of a table with that number
pub record HasStepsOf (style : Style) (page : ℕ) (before : List Section) (tables : List Table) (inner : List InnerSteps)
    (number : ℕ) : Type 0 where
  pub steps : InnerSteps
  pub found : steps_for inner number ≡ Some steps
  pub of : Table
  pub has : Contains tables of
  pub numbered : (out-Table of).number ≡ number
  pub are : AreStepsBy style page before of steps

pub steps_found : (style : Style) (page : ℕ) (before : List Section) (tables : List Table) (inner : List InnerSteps)
    (nested : Table) →
    AllZip (AreStepsBy style page before) tables inner → Contains tables nested →
    HasStepsOf style page before tables inner (out-Table nested).number
steps_found style page before [] inner nested all has = absurd (Contains-none nested has)
steps_found style page before (table ∷ tables) [] nested all has = absurd all
steps_found style page before (table ∷ tables) (one ∷ inner) nested all has =
    by_test (cases_eq one.table (out-Table nested).number) (steps_found style page before tables inner nested all.1)
  where
    n : ℕ
    n = (out-Table nested).number

    by_test : (one.table ≡ n) ⊎ (one.table ≡ n → ⊥) → (Contains tables nested → HasStepsOf style page before tables inner n) →
        HasStepsOf style page before (table ∷ tables) (one ∷ inner) n
    by_test (inl same) again = record {
      steps = one;
      found = ap (λ (b : Bool). if b then Some one else steps_for inner n) (eq-eqb one.table n same);
      of = table;
      has = (0, omega arith, refl);
      numbered = sym all.0.named ∙ same;
      are = all.0;
    }
    by_test (inr other) again = further (Contains-cases table tables nested has)
      where
        further : (table ≡ nested) ⊎ Contains tables nested → HasStepsOf style page before (table ∷ tables) (one ∷ inner) n
        further (inl same) = absurd (other (all.0.named ∙ ap (λ t. (out-Table t).number) same))
        further (inr later) =
            let rest = again later in
            record {
              steps = rest.steps;
              found = ap (λ (b : Bool). if b then Some one else steps_for inner n) (ne_eqb one.table n other) ∙ rest.found;
              of = rest.of;
              has = (suc rest.has.0, omega (arith, rest.has.1), rest.has.2);
              numbered = rest.numbered;
              are = rest.are;
            }

-- ---- what a section proves

pub record IsTrue (document : Document) (section : Section) : Type 0 where
  pub within : placed_width document.style section ≤ section.width
  pub lower : (one : Table) → IsTableOf document section.table one → (height : ℕ) (layout : Layout) →
      Fits one document.style section.width height layout → section.lower ≤ height
  pub found : (one : Table) → IsTableOf document section.table one →
      (layout : Layout) × Fits one document.style (placed_width document.style section) section.height layout

-- steps that begin at or below a width have a height there
pub height_from : (steps : List Config) (w : ℕ) → AreSteps steps → first_width steps ≤ w → (h : ℕ) × (height_at steps w ≡ Some h)
height_from [] w are from = absurd (omega (arith, are.has_step))
height_from (step ∷ rest) w are from =
    let narrow : nat_le step.width w ≡ true = test_le from in
    let later = filter (λ each. nat_le each.width w) rest in
    let found = last_some step later in (
      found.0.height,
      ap (λ b. option_map (λ each. each.height) (last_or None (cond b (step ∷ later) later))) narrow
          ∙ ap (option_map (λ each. each.height)) found.1,
    )
  where
    last_some : {X : Type 0} (x : X) (xs : List X) → (y : X) × (last_or (Some x) xs ≡ Some y)
    last_some x [] = (x, refl)
    last_some x (y ∷ ys) = last_some y ys

module _ (document : Document) (sound : IsSound document.table) (before : List Section)
    (true_before : All (IsTrue document) before)
    (one : Table) (among : IsAmong document.table one) (page : ℕ) (inner : List InnerSteps)
    (steps : AreInnerSteps one document.style page before inner) (nested : Table)
    (has : Contains (inner_tables (out-Table one)) nested) where
  found_steps : HasStepsOf document.style page before (inner_tables (out-Table one)) inner (out-Table nested).number
  found_steps = steps_found document.style page before (inner_tables (out-Table one)) inner nested steps has

  nested_of : IsTableOf document (out-Table nested).number nested
  nested_of = record { among = nested_among document.table one nested among has; numbered = refl }

  own_steps : AreStepsBy document.style page before nested found_steps.steps
  own_steps = subst (λ t. AreStepsBy document.style page before t found_steps.steps)
      (one_of_number document.table found_steps.of nested sound
      (nested_among document.table one found_steps.of among found_steps.has)
      nested_of.among found_steps.numbered) found_steps.are

  -- no layout is below `low`
  pub nested_lower : (w height : ℕ) (layout : Layout) → w ≤ page → Fits nested document.style w height layout →
      (h : ℕ) × InnerNeeds (λ each. each.low) inner nested w h × (h ≤ height)
  nested_lower w height layout within fits = (
    here.0,
    subst (λ o. IsSomeAnd o (λ each. height_at each.low w ≡ Some here.0)) (sym found_steps.found)
        here.1,
    below,
  )
    where
      wide : own_steps.least ≤ w
      wide = own_steps.is_least.least w height layout fits

      here : (h : ℕ) × (height_at found_steps.steps.low w ≡ Some h)
      here = height_from found_steps.steps.low w own_steps.low.decreasing (omega (arith, own_steps.begins.0, wide))

      greatest : IsGreatestLower before (out-Table nested).number w here.0
      greatest = ((own_steps.low.each w here.0 within).0 here.1).1

      below : here.0 ≤ height
      below =
          let at = greatest.attained in
          let told = All-get_or (IsTrue document) before at.0 at.1 at.2 true_before in
          let section_true = subst (IsTrue document) at.3 told in
          omega (
            arith,
            at.4.1,
            section_true.lower nested (record { among = nested_of.among; numbered = sym at.4.0.of }) height layout
                (Fits-wider document.style nested w at.1.width height layout at.4.0.wide fits),
          )

  -- a layout has `high`
  pub nested_upper : (w h : ℕ) → w ≤ page → InnerNeeds (λ each. each.high) inner nested w h →
      (layout : Layout) × Fits nested document.style w h layout
  nested_upper w h within needs =
      let high = subst (λ o. IsSomeAnd o (λ each. height_at each.high w ≡ Some h)) found_steps.found needs in
      let least = ((own_steps.high.each w h within).0 high).1 in
      let at = least.attained in
      let told = All-get_or (IsTrue document) before at.0 at.1 at.2 true_before in
      let section_true = subst (IsTrue document) at.3 told in
      let laid = section_true.found nested (record { among = nested_of.among; numbered = sym at.4.0.of }) in (
        laid.0,
        Fits-wider document.style nested (placed_width document.style at.1) w h laid.0 at.4.0.narrow
            (subst (λ n. Fits nested document.style (placed_width document.style at.1) n laid.0) at.4.1 laid.1),
      )

module _ (document : Document) (sound : IsSound document.table) (before : List Section)
    (true_before : All (IsTrue document) before)
    (one : Table) (among : IsAmong document.table one) (page : ℕ) (inner : List InnerSteps)
    (steps : AreInnerSteps one document.style page before inner) where
  pub low_is_below : LowIsBelow one document.style page inner
  low_is_below = recursion_from_All (IsBelowLayouts (InnerNeeds (λ each. each.low) inner) document.style page)
      (inner_tables (out-Table one))
      (All-from_Contains (IsBelowLayouts (InnerNeeds (λ each. each.low) inner) document.style page) (inner_tables (out-Table one))
      (λ nested has. nested_lower document sound before true_before one among page inner steps nested has))

  pub high_is_above : HighIsAbove one document.style page inner
  high_is_above = recursion_from_All (IsAboveLayouts (InnerNeeds (λ each. each.high) inner) document.style page)
      (inner_tables (out-Table one))
      (All-from_Contains (IsAboveLayouts (InnerNeeds (λ each. each.high) inner) document.style page)
      (inner_tables (out-Table one))
      (λ nested has w h within needs.
      let laid = nested_upper document sound before true_before one among page inner steps nested has w h within needs in
      (h, laid.0, laid.1, omega arith)))

-- ---- each good section tells the truth

module _ (below : LayoutsAreByLow) (above : LayoutsByHighFit) (document : Document) (sound : IsSound document.table)
    (budget : ℕ) where
  true_section : (before : List Section) → All (IsTrue document) before → (section : Section) →
      IsGood document budget before section →
      IsTrue document section
  true_section before true_before section good = record {
    within = omega (
      arith,
      placed_as section good,
      good.laid.placement.tight.placement.page.page,
      good.laid.own.made.wide,
    );
    lower = λ one named height layout fits.
        let own = good.laid.own in
        let same = one_of_number document.table one own.one sound named.among own.named.among
        (named.numbered ∙ sym own.named.numbered) in
        let by_low = below own.one document.style section.width own.inner good.problem own.made own.sound
        (low_is_below document sound before true_before own.one own.named.among section.width own.inner own.steps)
        height layout (subst (λ t. Fits t document.style section.width height layout) same fits) in
        omega (
          arith,
          log-sound good.problem own.sound section.trace section.log section.lower good.logged (out-Layout layout).widths
              (out-Layout layout).heights by_low.0,
          by_low.1,
        );
    found = λ one named.
        let own = good.laid.own in
        let same = one_of_number document.table own.one one sound own.named.among named.among
        (own.named.numbered ∙ sym named.numbered) in
        let placed = good.laid.placed in
        let placement = good.laid.placement.tight.placement in
        let laid = above own.one document.style section.width own.inner good.problem own.made own.sound
        (high_is_above document sound before true_before own.one own.named.among section.width own.inner own.steps)
        placed.widths placed.heights (record { page = placement.page; enough = placement.rows.kind }) in
        let wide = placed_as section good in
        let high : total_height good.problem placed.heights ≡ section.height =
        sym placement.height ∙ good.laid.placement.high in (
          laid.0,
          subst (λ t. Fits t document.style (placed_width document.style section) section.height laid.0) same
              (subst (λ h. Fits own.one document.style (placed_width document.style section) h laid.0) high
              (subst (λ w. Fits own.one document.style w (total_height good.problem placed.heights) laid.0) wide laid.1)),
        );
  } where
    placed_as : (section : Section) (good : IsGood document budget before section) →
        total_width good.problem good.laid.placed.widths ≡ placed_width document.style section
    placed_as section good =
        ap (λ (s : Spacing). total s.gap s.edges good.laid.placed.widths) good.laid.own.made.spaced
        ∙ ap (total (gap_of document.style) (edges_of document.style)) good.laid.placement.wide

  pub all_true : (sections : List Section) (n : ℕ) → n ≤ length sections → AreGoodBelow document budget sections n →
      All (IsTrue document) (take n sections)
  all_true sections zero within good = All-nil (IsTrue document)
  all_true sections (suc n) within good =
      let before = all_true sections n (omega (arith, within)) (λ i d less. good i d (omega (arith, less))) in
      let same : n + 1 ≡ suc n = omega arith in
      λ i d less. subst (λ many. All (IsTrue document) (take many sections)) same
      (All-more (IsTrue document) sections n d (omega (arith, within)) before
      (true_section (take n sections) before (get_or sections n d) (good n d (omega arith)))) i d less
