-- Of a table in whose cells none is nested, `tidy` has one page, whatever search, budget and workers: the table has one problem on
-- the narrowest page, this one chosen placement, which gives one layout, and that one page.
use Rattle.std.proofs.Common.{◌≡◌, ◌∙◌, ◌⊎◌, inl, inr, ℕ, zero, suc, ◌+◌, ◌-◌, List, [], ◌∷◌, length, get_or, take, Option, Some}
use Rattle.std.proofs.Common.{◌++◌, Contains, refl, sym, ap, ap₂, map, subst, arith}
use Rattle.std.specs.Prelude.{MatchOption}
use Rattle.std.specs.List.{AllZip, flat_map}
use Rattle.std.proofs.lemmas.List.Concat.{flat_map-cons}
use Rattle.tl_base.proofs.Members.{Contains-none}
use Rattle.tl_base.specs.declared.style.Style.{Style}
use Rattle.tl_problem.specs.declared.placed.Placed.{Placed}
use Rattle.tl_problem.specs.Problem.{ProblemModel}
use Rattle.tl_problem.specs.Placements.{IsPlacement}
use Rattle.tl_problem.proofs.TightLaws.{placement-unique}
use Rattle.tl_cert.specs.declared.certificate.Certificate.{Certificate}
use Rattle.tl_cert.specs.declared.section.Section.{Section}
use Rattle.tl_table.specs.declared.cell.Table.{Table, out-Table}
use Rattle.tl_table.specs.declared.cell.TableCell.{TableCell, out-TableCell}
use Rattle.tl_table.specs.declared.layout.Layout.{Layout, out-Layout, roll-Layout, roll-out-Layout}
use Rattle.tl_table.specs.Layouts.{OpenLayout, width_for}
use Rattle.tl_table.specs.Least.{IsLeastHeight}
use Rattle.tl_table.specs.Sound.{IsSound}
use Rattle.tl_table.specs.Tables.{IsAmong, IsInsideWithin, inner_tables, tables_in}
use Rattle.tl_form.specs.declared.heights.InnerSteps.{InnerSteps}
use Rattle.tl_form.specs.Named.{AreLaidIn, IsLaidWithin, IsNamed}
use Rattle.tl_form.specs.Named as layouts
use Rattle.tl_form.specs.Nested.{AreInnerSteps, AreStepsBy, IsProblemFor}
use Rattle.tl_form.specs.Problems.{InnerNeeds, IsProblemOf}
use Rattle.tl_form.specs.Valid.{HasPlacement, IsProblemAt}
use Rattle.tl_form.proofs.NamedSteps.{by_low, by_high}
use Rattle.tl_form.proofs.ProblemTruth.{same-problem}
use Rattle.tl_form.proofs.ValidLaws.{lowest_is_least, no_section}
use Rattle.tl_narrow.specs.declared.slim.Slim.{Slim}
use Rattle.tl_narrow.specs.Slimmest.{IsSlimmestWidth}
use Rattle.tl_narrow.specs.Slims.{IsKept, IsLowCertificate}
use Rattle.tl_narrow.specs.SlimLaws.{MetIsSlimmest}
use Rattle.tl_tidy.specs.Classes.{IsChosen}
use Rattle.tl_tidy.proofs.NeedLaws.{chosen-unique}
use Rattle.tl_page.specs.declared.look.Look.{Look}
use Rattle.tl_page.specs.Pages.{IsPage, page_bytes}
use Rattle.tl_page.specs.Trimmed as trims
use Rattle.tl_html.specs.Html as html
use Rattle.tl_lay.specs.declared.answer.Answer.{Answer}
use Rattle.tl_lay.specs.declared.answer.Answer.TheVariants as answers
use Rattle.tl_lay.specs.declared.answer.Evidence.{Evidence}
use Rattle.tl_lay.specs.declared.format.Format.{Format}
use Rattle.tl_lay.specs.declared.format.Format.TheVariants as formats
use Rattle.tl_lay.specs.declared.task.Task.{Task}
use Rattle.tl_lay.specs.declared.tidiest.Ending.{Ending}
use Rattle.tl_lay.specs.Answers.{IsLaidAs, IsPageFile, bounded_laid, look_of, lowest_laid, narrow_laid}
use Rattle.tl_lay.specs.Budgets.{budget_in}
use Rattle.tl_lay.specs.Flat.{HasNoNested}
use Rattle.tl_lay.specs.Slimmed.{IsPageOfKept}
use Rattle.tl_lay.specs.Tidied.{EndsEarly, IsTidiedAs, IsTidyEnd, IsTrimmed, chosen, laid_with, left_open, may_be_narrower, tidy_answer}
use Rattle.tl_lay.proofs.ChosenLaid as laid
use Rattle.tl_lay.proofs.FlatTables.{AreFlatCells, flat_cell, flat_cells}
use Rattle.tl_lay.proofs.LastWidths.{last_given, last_length}
use Rattle.tl_lay.proofs.OneAnswer.{one_least}
use Rattle.tl_lay.proofs.OnePage.{one_page}

-- ---- the problem

-- the problem of a table in whose cells none is nested is made of its own texts
abbrev pub IsFlatProblem : Table → Style → ℕ → ProblemModel → Type 0
IsFlatProblem table style width problem = IsProblemOf table style width [] problem

no_steps : (style : Style) (width : ℕ) (before : List Section) (tables : List Table) (inner : List InnerSteps) → tables ≡ [] →
    AllZip (AreStepsBy style width before) tables inner → inner ≡ []
no_steps style width before [] [] flat are = refl
no_steps style width before [] (one ∷ inner) flat are = absurd are
no_steps style width before (table ∷ tables) inner flat are = absurd (omega (arith, ap length flat))

flat_problem : (table : Table) (style : Style) (width : ℕ) (before : List Section) (problem : ProblemModel) → HasNoNested table →
    IsProblemFor table style width before problem → IsFlatProblem table style width problem
flat_problem table style width before problem flat is =
    subst (λ (inner : List InnerSteps). IsProblemOf table style width inner problem)
    (no_steps style width before (inner_tables (out-Table table)) is.inner flat is.steps) is.made

-- there is one
one_flat : (table : Table) (style : Style) (width : ℕ) (one other : ProblemModel) → IsFlatProblem table style width one →
    IsFlatProblem table style width other → one ≡ other
one_flat table style width one other is are =
    same-problem (InnerNeeds (λ bounds. bounds.low) []) (InnerNeeds (λ bounds. bounds.high) []) style width (out-Table table) one
    other is are

-- none is inside but the table itself
flat_among : (table one : Table) → HasNoNested table → IsAmong table one → one ≡ table
flat_among table one flat (inl same) = sym same
flat_among table one flat (inr inside) = absurd (none inside.0 inside.1) where
  none : (depth : ℕ) → IsInsideWithin depth table one → ⊥
  none zero is = is
  none (suc depth) (nested, has, rest) = Contains-none nested (subst (λ tables. Contains tables nested) flat has)

-- ---- the layout

-- the layout of such a table in a placement
abbrev pub layout_of : Placed → OpenLayout
layout_of placed = record { widths = placed.widths; heights = placed.heights; inner = [] }

no_parts : (Laid : Table → ℕ → Layout → Type 0) (style : Style) (layout : OpenLayout) (cells : List TableCell)
    (parts : List (List Layout)) → AreFlatCells cells →
    AllZip (λ cell part. AreLaidIn Laid (width_for style layout (out-TableCell cell).place) (out-TableCell cell) part) cells parts →
    flat_map (λ (part : List Layout). part) parts ≡ []
no_parts Laid style layout [] [] flat are = refl
no_parts Laid style layout [] (part ∷ parts) flat are = absurd are
no_parts Laid style layout (cell ∷ cells) [] flat are = absurd are
no_parts Laid style layout (cell ∷ cells) (part ∷ parts) flat are =
    flat_map-cons (λ (one : List Layout). one) part parts
    ∙ ap₂ (λ (first rest : List Layout). first ++ rest)
    (no_part (tables_in (out-TableCell cell)) part (flat_cell cell cells flat) are.0)
    (no_parts Laid style layout cells parts (flat_cells cell cells flat) are.1)
  where
    no_part : (tables : List Table) (part : List Layout) → tables ≡ [] →
        AllZip (λ nested one. Laid nested (width_for style layout (out-TableCell cell).place) one) tables part → part ≡ []
    no_part [] [] none are = refl
    no_part [] (one ∷ part) none are = absurd are
    no_part (table ∷ tables) part none are = absurd (omega (arith, ap length none))

-- ---- the page

-- the page of the chosen layout
pub record IsChosenPage (format : Format) (style : Style) (table : Table) (height width : ℕ) (page : List ℕ) : Type 0 where
  pub problem : ProblemModel
  pub of : IsFlatProblem table style width problem
  pub placed : Placed
  pub chosen : IsChosen problem height placed
  pub layout : Layout
  pub laid : out-Layout layout ≡ layout_of placed
  pub is_page : IsPageFile format style table layout page

one_chosen : (format : Format) (style : Style) (table : Table) (height width : ℕ) (one other : List ℕ) → HasNoNested table →
    IsChosenPage format style table height width one → IsChosenPage format style table height width other → one ≡ other
one_chosen format style table height width one other flat is are = by_format format is.is_page are.is_page where
  problems : is.problem ≡ are.problem
  problems = one_flat table style width is.problem are.problem is.of are.of

  placed : is.placed ≡ are.placed
  placed = chosen-unique are.problem height is.placed are.placed
      (subst (λ (p : ProblemModel). IsChosen p height is.placed) problems is.chosen) are.chosen

  same_layout : is.layout ≡ are.layout
  same_layout = sym (roll-out-Layout is.layout)
      ∙ ap roll-Layout (is.laid ∙ ap layout_of placed ∙ sym are.laid) ∙ roll-out-Layout are.layout

  same_lines : (look : Look) (lines more : List (List ℕ)) → IsPage look table is.layout lines →
      IsPage look table are.layout more → lines ≡ more
  same_lines look lines more drawn shown = one_page look table are.layout lines more flat
      (subst (λ (l : Layout). IsPage look table l lines) same_layout drawn) shown

  by_format : (one_format : Format) → IsPageFile one_format style table is.layout one →
      IsPageFile one_format style table are.layout other → one ≡ other
  by_format (formats.Text align) (lines, drawn, same) (more, shown, also) =
      same ∙ ap page_bytes (same_lines (look_of style align) lines more drawn shown) ∙ sym also
  by_format (formats.Trimmed align) (lines, drawn, same) (more, shown, also) =
      same ∙ ap (λ (page : List (List ℕ)). page_bytes (map trims.trimmed page))
      (same_lines (look_of style align) lines more drawn shown) ∙ sym also
  by_format formats.Html (same, drawn) (also, shown) = same ∙ ap (html.html_bytes table) same_layout ∙ sym also

-- a certificate that keeps the chosen placement names its layout
module _ (table : Table) (style : Style) (height width budget : ℕ) (sound : IsSound table) (flat : HasNoNested table)
    (kept : Certificate) (widths : List ℕ)
    (low : IsLowCertificate table style height width budget (laid_with kept widths)) where
  abbrev c : Certificate
  c = laid_with kept widths

  abbrev n : ℕ
  n = length c.sections - 1

  end_width : (get_or c.sections n no_section).width ≡ width
  end_width = laid.own_width table style height width budget sound c low no_section

  kept_width : kept.width ≡ width
  kept_width = let wide = low.valid.2.claim.wide in let of = low.valid.1.wide in wide ∙ of

  end_widths : (get_or c.sections n no_section).widths ≡ widths
  end_widths = ap (λ (s : Section). s.widths) (at ∙ last_given kept.sections widths m no_section more) where
    m : ℕ
    m = length kept.sections - 1

    long : length c.sections ≡ length kept.sections
    long = last_length kept.sections widths

    more : m + 1 ≡ length kept.sections
    more = omega (arith, laid.last table style height width budget sound c low, long)

    at : get_or c.sections n no_section ≡ get_or c.sections m no_section
    at = ap (λ (k : ℕ). get_or c.sections k no_section) (omega (arith, long))

  module _ (problem : ProblemModel) (of : IsFlatProblem table style width problem) (placed : Placed)
      (tight : IsPlacement problem placed) (same : widths ≡ placed.widths) where
    -- the layout has the widths and heights of the placement
    named_layout : (layout : Layout) → IsNamed table style c layout → out-Layout layout ≡ layout_of placed
    named_layout layout (document, of_table, by) = by_depth by.0 by.1 where
      by_depth : (deep : ℕ) → IsLaidWithin deep document c.sections n document.table layout → out-Layout layout ≡ layout_of placed
      by_depth zero within = absurd within
      by_depth (suc deep) (found, is, named) = λ i. record { widths = columns i; heights = lines i; inner = inner i } where
        at : (other : ProblemModel) × IsProblemAt document (take n c.sections) (get_or c.sections n no_section) other
            × HasPlacement (get_or c.sections n no_section) other found
        at = is no_section

        one : at.1.one ≡ table
        one = flat_among table at.1.one flat (subst (λ (t : Table). IsAmong t at.1.one) of_table.same at.1.named.among)

        flat_of : IsFlatProblem table style width at.0
        flat_of = flat_problem table style width (take n c.sections) at.0 flat (record {
          inner = at.1.inner;
          steps = subst (λ (t : Table). AreInnerSteps t style width (take n c.sections) at.1.inner) one
              (subst (λ (w : ℕ). AreInnerSteps at.1.one style w (take n c.sections) at.1.inner) end_width
              (subst (λ (s : Style). AreInnerSteps at.1.one s (get_or c.sections n no_section).width (take n c.sections) at.1.inner)
              of_table.drawn at.1.steps));
          made = subst (λ (t : Table). IsProblemOf t style width at.1.inner at.0) one
              (subst (λ (w : ℕ). IsProblemOf at.1.one style w at.1.inner at.0) end_width
              (subst (λ (s : Style). IsProblemOf at.1.one s (get_or c.sections n no_section).width at.1.inner at.0)
              of_table.drawn at.1.made));
          sound = at.1.sound;
        })

        problems : at.0 ≡ problem
        problems = one_flat table style width at.0 problem flat_of of

        placements : found ≡ placed
        placements = placement-unique problem found placed (at.2.wide ∙ end_widths ∙ same)
            (subst (λ (p : ProblemModel). IsPlacement p found) problems at.2.tight.placement) tight

        columns : (out-Layout layout).widths ≡ placed.widths
        columns = named.columns ∙ ap (λ (p : Placed). p.widths) placements

        lines : (out-Layout layout).heights ≡ placed.heights
        lines = named.lines ∙ ap (λ (p : Placed). p.heights) placements

        inner : (out-Layout layout).inner ≡ []
        inner = sym named.given ∙ no_parts (λ nested w one. (j : ℕ)
            × layouts.IsChosen document.style c.sections (out-Table nested).number w j
            × IsLaidWithin deep document c.sections j nested one) document.style (out-Layout layout) (out-Table document.table).cells named.parts
            (ap (λ (t : Table). inner_tables (out-Table t)) of_table.same ∙ flat) named.cells

-- ---- one answer

-- the answer is that all was found: the least height, the narrowest page that is as low, and on it the page of the chosen layout
pub record HasChosenPage (format : Format) (style : Style) (table : Table) (most : ℕ) (answer : Answer) : Type 0 where
  pub height : ℕ
  pub width : ℕ
  pub evidence : Evidence
  pub so : answer ≡ answers.Tidy height width evidence
  pub page : List ℕ
  pub there : evidence.page ≡ Some page
  pub least : IsLeastHeight table style most height
  pub slimmest : IsSlimmestWidth table style height most width
  pub is_page : IsChosenPage format style table height width page

-- an answer of `tidy` with no such page: the height, the width or the choice is open, or the page is too narrow
pub data IsUntidy : Answer → Type 0 where
  height_open : {height lower width : ℕ} {page : List ℕ} {text : Option (List ℕ)}
      → IsUntidy (answers.Bounded height lower width page text)
  width_open : {width least : ℕ} {evidence : Evidence} → IsUntidy (answers.Wider width least evidence)
  choice_open : {evidence : Evidence} → IsUntidy (answers.Unchosen evidence)
  too_narrow : {least width : ℕ} {text : Option (List ℕ)} → IsUntidy (answers.Narrow least width text)

-- that of a layout is such an answer
early_untidy : (task : Task) (table : Table) {answer : Answer} → IsLaidAs task table answer → EndsEarly answer → IsUntidy answer
early_untidy task table (lowest_laid is) early = absurd early
early_untidy task table (bounded_laid is) early = height_open
early_untidy task table (narrow_laid is) early = too_narrow

module _ (law : MetIsSlimmest) (task : Task) (table : Table) (sound : IsSound table) (flat : HasNoNested table) where
  -- one answer or the other
  abbrev Comes : Answer → Type 0
  Comes answer = HasChosenPage task.format task.style table task.width answer ⊎ IsUntidy answer

  module _ (answer : Answer) (trimmed : IsTrimmed task table answer) where
    -- what is told of a search: the page of the certificate that is kept, and that this is so low
    abbrev Told : Slim → Type 0
    Told told = (kept : Certificate) → told.kept ≡ Some kept → IsPageOfKept task table trimmed.height told.width (Some kept)
        trimmed.evidence.page × IsLowCertificate table task.style trimmed.height told.width (budget_in task table) kept

    told_kept : Told trimmed.told
    told_kept kept same = (
      subst (λ (one : Option Certificate). IsPageOfKept task table trimmed.height trimmed.told.width one trimmed.evidence.page)
          same trimmed.is_evidence.drawn,
      (subst (λ (one : Option Certificate). MatchOption one (trimmed.told.width ≡ 0)
          (IsKept table task.style trimmed.height task.width (budget_in task table) trimmed.told.width)) same
          trimmed.tells.between.kept).shown,
    )

    by_end : {told : Slim} {ending : Ending} → IsTidyEnd task table trimmed.height trimmed.slim told ending → Told told →
        Comes (tidy_answer ending trimmed.evidence)
    by_end (may_be_narrower apart) told = inr width_open
    by_end (left_open met left) told = inr choice_open
    by_end (chosen {kept} {problem} {placed} met within) told =
        let changed = laid_with kept placed.widths in
        let found = told changed refl in
        let drawn = found.0.2 in
        let of = subst (λ (w : ℕ). IsFlatProblem table task.style w problem)
        (kept_width table task.style trimmed.height trimmed.slim.width (budget_in task table) sound flat kept placed.widths found.1)
        (flat_problem table task.style kept.width (take (length kept.sections - 1) kept.sections) problem flat met.own) in
        inl (record {
          height = trimmed.height;
          width = trimmed.slim.width;
          evidence = trimmed.evidence;
          so = refl;
          page = found.0.0;
          there = found.0.1;
          least = lowest_is_least by_low by_high table task.style task.width (budget_in task table) trimmed.first trimmed.height
              sound trimmed.lowest.valid trimmed.lowest.claimed;
          slimmest = law table task.style trimmed.height task.width (budget_in task table) trimmed.slim sound trimmed.found.tells
              met.same;
          is_page = record {
            problem = problem;
            of = of;
            placed = placed;
            chosen = within.chosen;
            layout = drawn.layout;
            laid = named_layout table task.style trimmed.height trimmed.slim.width (budget_in task table) sound flat kept
                placed.widths found.1 problem of placed within.chosen.tight.placement refl drawn.layout drawn.named;
            is_page = drawn.is_page;
          };
        })

    of_trimmed : Comes answer
    of_trimmed = subst Comes (sym trimmed.so) (by_end trimmed.ends told_kept)

  pub chosen_or_untidy : (answer : Answer) → IsTidiedAs task table answer → Comes answer
  chosen_or_untidy answer (inl trimmed) = of_trimmed answer trimmed
  chosen_or_untidy answer (inr early) = inr (early_untidy task table early.0 early.1)

-- ---- two answers

-- two narrowest pages are one
one_slimmest : (table : Table) (style : Style) (height most one other : ℕ) → IsSlimmestWidth table style height most one →
    IsSlimmestWidth table style height most other → one ≡ other
one_slimmest table style height most one other is are =
    let first = is.least other are.some are.within are.low in
    let second = are.least one is.some is.within is.low in
    omega (arith, first, second)

-- two such answers have the same numbers, and the same page
module _ (format : Format) (style : Style) (table : Table) (most : ℕ) (flat : HasNoNested table) (one other : Answer)
    (first : HasChosenPage format style table most one) (second : HasChosenPage format style table most other) where
  pub one_height : first.height ≡ second.height
  one_height = one_least table style most first.height second.height first.least second.least

  pub one_width : first.width ≡ second.width
  one_width = one_slimmest table style first.height most first.width second.width first.slimmest
      (subst (λ (h : ℕ). IsSlimmestWidth table style h most second.width) (sym one_height) second.slimmest)

  pub one_chosen_page : first.page ≡ second.page
  one_chosen_page = one_chosen format style table first.height first.width first.page second.page flat first.is_page
      (subst (λ (h : ℕ). IsChosenPage format style table h first.width second.page) (sym one_height)
      (subst (λ (w : ℕ). IsChosenPage format style table second.height w second.page) (sym one_width) second.is_page))
