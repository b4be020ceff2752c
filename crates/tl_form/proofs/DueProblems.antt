-- Where the sections so far are good, the next one that is due has a problem: the tables nested in its own have steps by the
-- sections, and each problem with them is sound.
use Rattle.tl_base.specs.declared.spacing.Spacing.{Spacing}
use Rattle.std.proofs.Common.{◌≡◌, ◌∙◌, ℕ, zero, suc, ◌+◌, ◌*◌, ◌<◌, ◌≤◌, List, inl, inr, length, get_or, take}
use Rattle.std.proofs.Common.{Some, Contains, refl, sym, ap, subst, arith}
use Rattle.std.specs.List.{All, AllByRecursion}
use Rattle.std.specs.Option.{IsSomeAnd}
use Rattle.std.proofs.lemmas.List.{take_all}
use Rattle.std.proofs.lemmas.List.Elements.{All-nil, All-more, All-get_or, All-contains, All-from_recursion, recursion_from_All}
use Rattle.tl_base.specs.declared.limits.TheConstants.{MAX_PAGE_WIDTH}
use Rattle.tl_base.specs.declared.style.Style.{Style}
use Rattle.tl_base.specs.Steps.{IsLowAt, first_width, first_height}
use Rattle.tl_base.specs.Style.{gap_of, edges_of}
use Rattle.tl_base.proofs.Members.{flat_map-Contains, All-from_Contains, Contains-map}
use Rattle.tl_base.proofs.Zips.{AllZip-Contains}
use Rattle.tl_base.proofs.Stacking.{first_width-within}
use Rattle.tl_grid.specs.Dropping.{IsPlaced}
use Rattle.tl_problem.specs.Problem.{total_width}
use Rattle.tl_problem.specs.Sound.{IsSound as IsSoundProblem}
use Rattle.tl_base.specs.Sizes.{total}
use Rattle.tl_problem.proofs.Heights.{height-from_low}
use Rattle.tl_base.proofs.SizeLaws.{room-total}
use Rattle.tl_cert.specs.declared.section.Section.{Section}
use Rattle.tl_table.specs.declared.cell.Table.{Table, out-Table}
use Rattle.tl_table.specs.declared.cell.TableCell.{TableCell, out-TableCell}
use Rattle.tl_form.specs.declared.heights.InnerSteps.{InnerSteps}
use Rattle.tl_table.specs.declared.layout.Layout.{Layout, out-Layout}
use Rattle.tl_form.specs.Expected.{Document, Due, IsTableOf, own_number, least_of, placed_width, due_after}
use Rattle.tl_table.specs.Layouts.{FitsWithin, FitsCell, width_for, height_for}
use Rattle.tl_table.specs.Least.{IsLeastWidth}
use Rattle.tl_form.specs.Nested.{AreStepsBy, AreInnerSteps, IsLeastFound}
use Rattle.tl_form.specs.ClosedLaws.{IsWideDocument}
use Rattle.tl_form.specs.DueProblems.{GivesSoundProblem, SectionsGiveSoundProblems}
use Rattle.tl_form.specs.ProblemLaws.{LayoutsAreByLow, LayoutsByHighFit, ProblemIsDetermined}
use Rattle.tl_form.specs.Problems.{steps_for}
use Rattle.tl_table.specs.Tables.{IsAmong, IsInsideWithin, inner_tables, tables_in}
use Rattle.tl_table.specs.Sound.{IsSound, IsSoundWithin, nested_in_table, place_of, places_of, table_size}
use Rattle.tl_form.specs.SoundProblems.{AreSoundPremises, AreSoundSteps, SoundProblemsAlone, PlacementsAreLow}
use Rattle.tl_form.specs.Valid.{IsGood, AreGoodBelow}
use Rattle.tl_form.proofs.Coverage.{Stands, Follows, stands}
use Rattle.tl_form.proofs.CoveredSteps.{steps_by, inner_by}
use Rattle.tl_form.proofs.NeedSteps.{height-first}
use Rattle.tl_table.proofs.LinkLemmas.{IsLeastWidth-unique}
use Rattle.tl_table.proofs.OwnWidths.{tables_in-fit}
use Rattle.tl_table.proofs.TableNumbers.{one_of_number, table_of_number, number_within, inside_greater, sound_among}
use Rattle.tl_form.proofs.Truth.{Fits-wider, IsTrue, all_true, height_from, nested_among, steps_found}

-- ---- a nested table is no wider than the one that holds it

-- a cell has a column, and lies within the columns of its table
pub cell_within : (table : Table) → IsSound table → (cell : TableCell) → Contains (out-Table table).cells cell →
    ((out-TableCell cell).place.left < (out-TableCell cell).place.right) ×
    ((out-TableCell cell).place.right ≤ (out-Table table).cols)
cell_within table sound cell has = by_depth sound.depth sound.sound
  where
    by_depth : (depth : ℕ) → IsSoundWithin depth table →
        ((out-TableCell cell).place.left < (out-TableCell cell).place.right) ×
        ((out-TableCell cell).place.right ≤ (out-Table table).cols)
    by_depth zero is = absurd is
    by_depth (suc depth) is =
        let placed = All-contains (IsPlaced (out-Table table).cols (out-Table table).rows) (places_of (out-Table table))
        (out-TableCell cell).place is.placed
        (Contains-map place_of (out-Table table).cells cell has) in
        (placed.0, placed.1)

pub nested_narrower : (style : Style) (table nested : Table) (least inner : ℕ) → IsSound table →
    Contains (inner_tables (out-Table table)) nested →
    IsLeastWidth table style least → IsLeastWidth nested style inner → inner ≤ least
nested_narrower style table nested least inner sound has outer own =
    by_depth outer.attained.0 outer.attained.1 outer.attained.2.0 outer.attained.2.1
  where
    by_depth : (height : ℕ) (layout : Layout) (depth : ℕ) → FitsWithin depth style table least height layout → inner ≤ least
    by_depth height layout zero held = absurd held
    by_depth height layout (suc depth) held =
        let in_cell = flat_map-Contains (λ cell. tables_in (out-TableCell cell)) (out-Table table).cells nested has in
        let cell = in_cell.0 in
        let place = (out-TableCell cell).place in
        let part = AllZip-Contains (λ one inner. FitsCell (FitsWithin depth style) style (out-Table table) (out-Layout layout) (out-TableCell one)
        inner)
        (out-Table table).cells held.parts cell held.cells in_cell.1 in
        let w = width_for style (out-Layout layout) place in
        let fit = All-contains (λ one. (height : ℕ) × (layout : Layout) × FitsWithin depth style one w height layout)
        (tables_in (out-TableCell cell)) nested
        (All-from_recursion (λ one. (height : ℕ) × (layout : Layout) × FitsWithin depth style one w height layout)
        (tables_in (out-TableCell cell))
        (tables_in-fit (FitsWithin depth style) w (height_for style (out-Table table) (out-Layout layout) place) (out-TableCell cell)
        part.0 part.1)) in_cell.2 in
        let placed = cell_within table sound cell in_cell.1 in
        let narrow = room-total (gap_of style) (edges_of style) (out-Layout layout).widths place.left place.right placed.0
        (omega (arith, placed.1, held.columns)) in
        omega (arith, own.least w fit.0 fit.1 (depth, fit.2), narrow, held.within)

-- ---- a document whose page is wide enough for its table

pub record IsOnPage (document : Document) : Type 0 where
  pub sound : IsSound document.table
  pub numbers : document.last ≡ own_number document + nested_in_table document.table
  pub least : (one : Table) → IsAmong document.table one → IsLeastWidth one document.style
      (least_of document (out-Table one).number)
  pub wide : least_of document (own_number document) ≤ document.page
  pub narrow : document.page ≤ MAX_PAGE_WIDTH

-- a page that some layout of the document's table fits is wide enough
pub on_page : (table : Table) (style : Style) (page : ℕ) (document : Document) → IsWideDocument table style page document →
    IsOnPage document
on_page table style page document is = record {
  sound = subst IsSound (sym is.of.same) is.sound;
  numbers = is.of.numbers;
  least = is.of.least;
  wide = omega (
    arith,
    is.wide (least_of document (own_number document))
        (subst (λ s. IsLeastWidth table s (least_of document (own_number document))) is.of.drawn
        (subst (λ t. IsLeastWidth t document.style (least_of document (own_number document))) is.of.same
        (is.of.least document.table (inl refl)))),
    is.of.wide,
  );
  narrow = omega (arith, is.narrow, is.of.wide);
}

-- a section is no higher than twice the size of its table
abbrev pub IsSmall : Document → Section → Type 0
IsSmall document section = (one : Table) → IsTableOf document section.table one → section.height ≤ 2 * table_size one

module _ (document : Document) (on : IsOnPage document) where
  -- each table inside begins within the page
  among_wide : (one : Table) → IsAmong document.table one → least_of document (out-Table one).number ≤ document.page
  among_wide one (inl same) = subst (λ t. least_of document (out-Table t).number ≤ document.page) same on.wide
  among_wide one (inr inside) = deeper inside.0 document.table (inl refl) on.wide inside.1
    where
      deeper : (depth : ℕ) (holder : Table) → IsAmong document.table holder →
          least_of document (out-Table holder).number ≤ document.page →
          IsInsideWithin depth holder one → least_of document (out-Table one).number ≤ document.page
      deeper zero holder among wide within = absurd within
      deeper (suc depth) holder among wide (nested, has, further) =
          let next = nested_among document.table holder nested among has in
          let narrow = nested_narrower document.style holder nested (least_of document (out-Table holder).number)
          (least_of document (out-Table nested).number)
          (sound_among document.table holder on.sound among) has (on.least holder among) (on.least nested next) in
          let less : least_of document (out-Table nested).number ≤ document.page = omega (arith, narrow, wide) in
          elim further [
            | inl same ↦ subst (λ t. least_of document (out-Table t).number ≤ document.page) same less
            | inr more ↦ deeper depth nested next less more
          ]

  pub leasts : (number : ℕ) → own_number document ≤ number → number ≤ document.last → least_of document number ≤ document.page
  leasts number from upto =
      let one = table_of_number document.table number on.sound from (omega (arith, upto, on.numbers)) in
      subst (λ n. least_of document n ≤ document.page) one.2 (among_wide one.0 one.1)

  pub some_number : own_number document ≤ document.last
  some_number = omega (arith, on.numbers)

-- ---- the steps of nested tables are sound

module _ (document : Document) (on : IsOnPage document) (before : List Section) (true_before : All (IsTrue document) before)
    (small_before : All (IsSmall document) before) where
  sound_steps : (nested : Table) → IsAmong document.table nested → (page : ℕ) (steps : InnerSteps) →
      AreStepsBy document.style page before nested steps → AreSoundSteps document.style page nested steps
  sound_steps nested among page steps by = record {
    decreasing = (by.low.decreasing, by.high.decreasing);
    least = subst (IsLeastWidth nested document.style) (sym by.begins.0) by.is_least;
    same = by.begins.1 ∙ sym by.begins.0;
    below = below;
    small = small;
  } where
    named : (section : Section) → section.table ≡ (out-Table nested).number → IsTableOf document section.table nested
    named section same = record { among = among; numbered = sym same }

    found_at : (w h : ℕ) → IsLeastFound document.style before (out-Table nested).number w h →
        (section : Section) × (section.table ≡ (out-Table nested).number) × (placed_width document.style section ≤ w) ×
        (section.height ≡ h)
        × IsTrue document section × IsSmall document section
    found_at w h least =
        let at = least.attained in (
          at.1,
          at.4.0.of,
          at.4.0.narrow,
          at.4.1,
          subst (IsTrue document) at.3 (All-get_or (IsTrue document) before at.0 at.1 at.2 true_before),
          subst (IsSmall document) at.3 (All-get_or (IsSmall document) before at.0 at.1 at.2 small_before),
        )

    below : (w h : ℕ) → w ≤ page → IsLowAt steps.high h w → IsLowAt steps.low h w
    below w h upto is =
        let high = height-from_low steps.high h w is in
        let least = (by.high.each w high.0 upto).0 high.1 in
        let found = found_at w high.0 least.1 in
        let layout = found.4.found nested (named found.0 found.1) in
        let low = height_from steps.low w by.low.decreasing (omega (arith, by.begins.0, least.0)) in
        let greatest = ((by.low.each w low.0 upto).0 low.1).1.attained in
        let lower = subst (IsTrue document) greatest.3 (All-get_or (IsTrue document)
        before greatest.0 greatest.1 greatest.2 true_before) in
        let less = lower.lower nested (named greatest.1 greatest.4.0.of) found.0.height layout.0
        (Fits-wider document.style nested (placed_width document.style found.0) greatest.1.width found.0.height layout.0
        (omega (arith, found.2, greatest.4.0.wide)) layout.1) in
        let fewer : low.0 ≤ h = omega (arith, less, greatest.4.1, found.3, high.2) in
        subst (λ o. IsSomeAnd o (λ height. height ≤ h)) (sym low.1) fewer

    small : first_height steps.high ≤ 2 * table_size nested
    small =
        let upto = first_width-within page steps.high by.high.decreasing by.high.within in
        let least = (by.high.each (first_width steps.high) (first_height steps.high) upto).0
        (height-first steps.high by.high.decreasing) in
        let found = found_at (first_width steps.high) (first_height steps.high) least.1 in
        omega (arith, found.3, found.5 nested (named found.0 found.1))

  have_sound_steps : (one : Table) → IsAmong document.table one → (page : ℕ) (inner : List InnerSteps) →
      AreInnerSteps one document.style page before inner →
      AllByRecursion (λ nested. IsSomeAnd (steps_for inner (out-Table nested).number) (AreSoundSteps document.style page nested))
      (inner_tables (out-Table one))
  have_sound_steps one among page inner steps =
      recursion_from_All (λ nested. IsSomeAnd (steps_for inner (out-Table nested).number)
      (AreSoundSteps document.style page nested))
      (inner_tables (out-Table one))
      (All-from_Contains (λ nested. IsSomeAnd (steps_for inner (out-Table nested).number)
      (AreSoundSteps document.style page nested))
      (inner_tables (out-Table one)) (λ nested has.
      let found = steps_found document.style page before (inner_tables (out-Table one)) inner nested steps has in
      let own = nested_among document.table one nested among has in
      let same = one_of_number document.table found.of nested on.sound
      (nested_among document.table one found.of among found.has) own found.numbered in
      let by = subst (λ t. AreStepsBy document.style page before t found.steps) same found.are in
      subst (λ o. IsSomeAnd o (AreSoundSteps document.style page nested)) (sym found.found)
      (sound_steps nested own page found.steps by)))

-- ---- good sections are small

-- the placement of a good section is within its page
pub good_follows : (document : Document) (budget : ℕ) (before : List Section) (section : Section) →
    IsGood document budget before section →
    Follows document before section
good_follows document budget before section good = record {
  due = good.due;
  within = omega (arith, placed_as, good.laid.placement.tight.placement.page.page, good.laid.own.made.wide);
} where
  placed_as : total_width good.problem good.laid.placed.widths ≡ placed_width document.style section
  placed_as =
      ap (λ (s : Spacing). total s.gap s.edges good.laid.placed.widths) good.laid.own.made.spaced
      ∙ ap (total (gap_of document.style) (edges_of document.style)) good.laid.placement.wide

module _ (by_low : LayoutsAreByLow) (by_high : LayoutsByHighFit) (sound_alone : SoundProblemsAlone) (are_low : PlacementsAreLow)
    (document : Document) (on : IsOnPage document) (budget : ℕ) where
  small_section : (before : List Section) → All (IsTrue document) before → All (IsSmall document) before → (section : Section) →
      IsGood document budget before section → least_of document section.table ≤ section.width → IsSmall document section
  small_section before true_before small_before section good from = λ one named.
      let own = good.laid.own in
      let same = one_of_number document.table own.one one on.sound own.named.among named.among
      (own.named.numbered ∙ sym named.numbered) in
      let least = subst (IsLeastWidth own.one document.style) (ap (least_of document) own.named.numbered)
      (on.least own.one own.named.among) in
      let low = are_low own.one document.style section.width own.inner good.problem good.laid.placed (record {
        sound = sound_among document.table own.one on.sound own.named.among;
        narrow = omega (arith, own.sound.narrow, own.made.wide);
        least = least_of document section.table;
        is_least = least;
        wide = from;
        each = have_sound_steps document on before true_before small_before own.one own.named.among section.width own.inner
            own.steps;
      }) own.made good.laid.placement.tight.placement in
      subst (λ t. section.height ≤ 2 * table_size t) same (omega (arith, low, good.laid.placement.high))

  module _ (sections : List Section) (good : AreGoodBelow document budget sections (length sections)) where
    all_stand : (n : ℕ) → n ≤ length sections → (now : Due) → due_after document (take n sections) ≡ Some now →
        Stands document (take n sections) now
    all_stand n within = stands document (some_number document on) (leasts document on) sections n within
        (λ i d less. good_follows document budget (take i sections) (get_or sections i d)
        (good i d (omega (arith, less, within))))

    all_are_true : (n : ℕ) → n ≤ length sections → All (IsTrue document) (take n sections)
    all_are_true n within = all_true by_low by_high document on.sound budget sections n within
        (λ i d less. good i d (omega (arith, less, within)))

    all_small : (n : ℕ) → n ≤ length sections → All (IsSmall document) (take n sections)
    all_small zero within = All-nil (IsSmall document)
    all_small (suc n) within = λ i d less.
        let same : n + 1 ≡ suc n = omega arith in
        let section = get_or sections n d in
        let is = good n d (omega (arith, within)) in
        let before = all_small n (omega (arith, within)) in
        let stood = all_stand n (omega (arith, within)) (record { table = section.table; width = section.width }) is.due in
        subst (λ many. All (IsSmall document) (take many sections)) same
        (All-more (IsSmall document) sections n d (omega (arith, within)) before
        (small_section (take n sections) (all_are_true n (omega (arith, within))) before section is stood.covered.from)) i d less

    -- ---- what is due has a problem

    module _ (now : Due) (is : due_after document sections ≡ Some now) (one : Table)
        (named : IsTableOf document now.table one) where
      whole : take (length sections) sections ≡ sections
      whole = take_all (length sections) sections (omega arith)

      stood : Stands document sections now
      stood = subst (λ all. Stands document all now) whole
          (all_stand (length sections) (omega arith) now (ap (due_after document) whole ∙ is))

      told_true : All (IsTrue document) sections
      told_true = subst (All (IsTrue document)) whole (all_are_true (length sections) (omega arith))

      told_small : All (IsSmall document) sections
      told_small = subst (All (IsSmall document)) whole (all_small (length sections) (omega arith))

      own_least : IsLeastWidth one document.style (least_of document now.table)
      own_least = subst (IsLeastWidth one document.style) (ap (least_of document) named.numbered) (on.least one named.among)

      own_sound : IsSound one
      own_sound = sound_among document.table one on.sound named.among

      nested_steps : (nested : Table) → Contains (inner_tables (out-Table one)) nested →
          (steps : InnerSteps) × AreStepsBy document.style now.width sections nested steps
      nested_steps nested has =
          let among = nested_among document.table one nested named.among has in
          let greater = inside_greater one nested 1 own_sound (nested, has, inl refl) in
          let within = number_within document.table nested on.sound among in
          let least = on.least nested among in
          let narrow = nested_narrower document.style one nested (least_of document now.table)
          (least_of document (out-Table nested).number)
          own_sound has own_least least in
          steps_by document.style sections nested (least_of document (out-Table nested).number) now.width least
          (omega (arith, narrow, stood.covered.from))
          (λ w wide upto. stood.covered.above (out-Table nested).number w (omega (arith, greater, named.numbered))
          (omega (arith, within.1, on.numbers)) wide (omega (arith, upto, stood.covered.upto)))

      due_inner : (inner : List InnerSteps) × AreInnerSteps one document.style now.width sections inner
      due_inner = inner_by document.style now.width sections (inner_tables (out-Table one))
          (recursion_from_All (λ nested. (steps : InnerSteps) × AreStepsBy document.style now.width sections nested steps)
          (inner_tables (out-Table one))
          (All-from_Contains (λ nested. (steps : InnerSteps) × AreStepsBy document.style now.width sections nested steps)
          (inner_tables (out-Table one))
          nested_steps))

      premises : (inner : List InnerSteps) → AreInnerSteps one document.style now.width sections inner →
          AreSoundPremises one document.style now.width inner
      premises inner steps = record {
        sound = own_sound;
        narrow = omega (arith, stood.covered.upto, on.narrow);
        least = least_of document now.table;
        is_least = own_least;
        wide = stood.covered.from;
        each = have_sound_steps document on sections told_true told_small one named.among now.width inner steps;
      }

      pub gives : ProblemIsDetermined → GivesSoundProblem document sections now one
      gives determined = record {
        wide = λ least is_least. omega (
          arith,
          IsLeastWidth-unique one document.style least (least_of document now.table) is_least own_least,
          stood.covered.from,
        );
        within = stood.covered.upto;
        some = let has = sound_alone one document.style now.width due_inner.0 (premises due_inner.0 due_inner.1) in
            (has.0, record { inner = due_inner.0; steps = due_inner.1; made = has.1; sound = has.2 });
        alone = λ inner problem steps made.
            let has = sound_alone one document.style now.width inner (premises inner steps) in
            subst IsSoundProblem (determined one document.style now.width inner has.0 problem has.1 made) has.2;
        low = λ problem placed own placement.
            are_low one document.style now.width own.inner problem placed (premises own.inner own.steps) own.made placement;
      }

pub sections_give : LayoutsAreByLow → LayoutsByHighFit → ProblemIsDetermined → SoundProblemsAlone → PlacementsAreLow →
    SectionsGiveSoundProblems
sections_give by_low by_high determined sound_alone are_low document budget before now one next =
    gives by_low by_high sound_alone are_low document (on_page document.table document.style document.page document next.wide)
    budget before next.good now next.due one next.named determined
