-- The layout that a certificate names, cell by cell.
use Rattle.tl_base.specs.declared.spacing.Spacing.{Spacing}
use Rattle.std.proofs.Common.{◌≡◌, ◌∙◌, ℕ, zero, suc, ◌+◌, ◌-◌, ◌<◌, ◌≤◌, inl, Result, Ok, Err, IfOk, List, [], ◌∷◌, ◌++◌, length}
use Rattle.std.proofs.Common.{get_or, take, sum}
use Rattle.std.proofs.Common.{Option, None, Some, Contains, MatchOption, sym, ap, subst, refl, append_assoc, append-nil, arith}
use Rattle.std.proofs.lemmas.Grind.{flat_map-append}
use Rattle.std.proofs.lemmas.List.Concat.{flat_map-cons}
use Rattle.std.specs.List.{AllZip, AllByRecursion, flat_map}
use Rattle.std.specs.Option.{IsSomeAnd}
use Rattle.std.proofs.lemmas.List.{get_or_default, get_or-take, length-take, take_all}
use Rattle.std.proofs.lemmas.List.Elements.{All-contains, All-from_recursion, All-get_or, recursion_from_All}
use Rattle.tl_base.specs.declared.limits.TheConstants.{MAX_PAGE_WIDTH}
use Rattle.tl_base.specs.declared.style.Style.{Style}
use Rattle.tl_base.specs.Steps.{first_width, height_at}
use Rattle.tl_base.specs.Style.{gap_of, edges_of}
use Rattle.tl_base.proofs.Members.{All-from_Contains, Contains-first, Contains-flat_map, Contains-later}
use Rattle.tl_base.proofs.Zips.{AllZip-push, AllZip-append}
use Rattle.tl_problem.specs.declared.cell.Cell.{Cell}
use Rattle.tl_problem.specs.declared.placed.Placed.{Placed}
use Rattle.tl_problem.specs.Layouts.{WithinPage}
use Rattle.tl_problem.specs.Problem.{ProblemModel, cell_width}
use Rattle.tl_base.specs.Sizes.{room, total}
use Rattle.tl_problem.specs.Sound.{IsSoundCell}
use Rattle.std.specs.declared.alloc.Global.{Global}
use Rattle.std.specs.declared.boxed.Box.{Box}
use Rattle.tl_base.proofs.SizeLaws.{room-total, sum-total}
use Rattle.tl_base.proofs.Taken.{joined_more, taken_more}
use Rattle.tl_cert.specs.declared.certificate.Certificate.{Certificate}
use Rattle.tl_cert.specs.declared.certificate.Claim.{Claim}
use Rattle.tl_cert.specs.declared.certificate.Claim.TheVariants.{Lowest, Bounded, Narrow}
use Rattle.tl_cert.specs.Text.{IsWritable, IsNarrow}
use Rattle.tl_table.specs.declared.cell.Content.TheOpen as open_content
use Rattle.tl_form.proofs.SmallSections.{small_sections}
use Rattle.tl_cert.specs.declared.section.Section.{Section}
use Rattle.tl_table.specs.declared.cell.Table.{Table, out-Table}
use Rattle.tl_table.specs.declared.cell.TableCell.{TableCell, out-TableCell}
use Rattle.tl_table.specs.declared.cell.Content.{Content, out-Content}
use Rattle.tl_table.specs.declared.layout.Layout.{Layout, out-Layout}
use Rattle.tl_form.specs.Expected.{Document, IsTableOf, own_number, placed_width}
use Rattle.tl_table.specs.Layouts.{Fits}
use Rattle.tl_table.specs.Least.{IsLeastWidth}
use Rattle.tl_form.specs.Named.{IsNamed, IsChosen, IsLaidWithin, IsLastPlacement, IsNamedLayoutBy, IsPlacementOf}
use Rattle.tl_form.specs.Nested.{IsPlacedWithin, IsProblemFor}
use Rattle.tl_form.specs.ProblemLaws.{LayoutsAreByLow, LayoutsByHighFit}
use Rattle.tl_form.specs.Problems.{InnerNeeds, IsCellBy, inside_of}
use Rattle.tl_table.specs.Sound.{IsSound, IsSoundWithin}
use Rattle.tl_table.specs.Tables.{OpenContent, inner_tables, tables_in, tables_of}
use Rattle.tl_form.specs.Valid.{AreWhole, HasPlacement, IsGood, IsProblemAt, IsShown, IsValid}
use Rattle.tl_form.specs.ValidLaws.{HasHeight}
use Rattle.tl_form.proofs.ProblemTruth.{cell-inside, fits-low, high-fits}
use Rattle.tl_form.proofs.NamedLaws.{named_layout}
use Rattle.tl_table.proofs.SoundParts.{at_item, both_each, each_joined}
use Rattle.tl_form.proofs.ValidLaws.{IsOwnLast, no_section, own_last}
use Rattle.tl_table.proofs.TableNumbers.{sound_among}
use Rattle.tl_form.proofs.Truth.{IsTrue, all_true, height_from, nested_among, steps_found}
use Rattle.tl_form.specs.inner.Naming.{CanLay, HasLayoutRoom, HasRooms, IsLaidIn, IsLaidOut, IsPart, IsPlacedBy, LaysOut}
use Rattle.tl_form.specs.inner.Naming.{NoneWithin}
use Rattle.tl_form.proofs.Placing.{for_one, laid_at}

-- the room that columns of these widths give a cell
abbrev pub room_for : Style → List ℕ → TableCell → ℕ
room_for style widths cell = room (gap_of style) widths (out-TableCell cell).place.left (out-TableCell cell).place.right

-- the tables nested in the cells so far are laid out, in order
pub record CellsLaid (style : Style) (sections : List Section) (widths : List ℕ) (cells : List TableCell)
    (inner : List Layout) : Type 0 where
  pub parts : List (List Layout)
  pub each : AllZip (λ cell part. AllZip (IsLaidIn style sections (room_for style widths cell)) (tables_in (out-TableCell cell))
      part) cells parts
  pub given : flat_map (λ part. part) parts ≡ inner

-- ---- laws of problems

pub by_low : LayoutsAreByLow
by_low = λ table style page inner problem of sound below height layout fits.
    fits-low (InnerNeeds (λ bounds. bounds.low) inner) (InnerNeeds (λ bounds. bounds.high) inner)
    table style page problem of sound below height layout fits

pub by_high : LayoutsByHighFit
by_high = λ table style page inner problem of sound above widths heights laid.
    high-fits (InnerNeeds (λ bounds. bounds.low) inner) (InnerNeeds (λ bounds. bounds.high) inner)
    table style page problem of sound above widths heights laid

-- ---- the placement of a section of good ones

module _ (document : Document) (budget : ℕ) (style : Style) (sections : List Section) (table : Table)
    (part : IsPart document budget style sections table) (at : ℕ) (there : at < length sections) (section : Section)
    (is : section ≡ get_or sections at section) (own : (out-Table table).number ≡ section.table) where
  pub sound_part : IsSound table
  sound_part = sound_among document.table table part.sound part.among

  named : IsTableOf document section.table table
  named = record { among = part.among; numbered = own }

  good : IsGood document budget (take at sections) section
  good = subst (IsGood document budget (take at sections)) (sym is) (part.good at section there)

  pub wide_part : (least : ℕ) → IsLeastWidth table style least → least ≤ section.width
  wide_part least least_is =
      let all = all_true by_low by_high document part.sound budget sections (length sections) (omega arith) part.good in
      let told : IsTrue document section = subst (IsTrue document) (
      ap (λ xs. get_or xs at section) (take_all (length sections) sections (omega arith)) ∙ sym is)
      (All-get_or (IsTrue document) (take (length sections) sections) at section
      (omega (arith, there, length-take (length sections) sections)) all) in
      let found = told.found table named in
      omega (
        arith,
        told.within,
        least_is.least (placed_width document.style section) section.height found.0
            (subst (λ s. Fits table s (placed_width document.style section) section.height found.0) part.drawn found.1),
      )

  pub has_place : (problem : ProblemModel) × (placed : Placed) × IsProblemFor table style section.width (take at sections) problem
      × HasPlacement section problem placed
  has_place = (
    good.problem,
    good.laid.placed,
    subst (λ s. IsProblemFor table s section.width (take at sections) good.problem) part.drawn
        (for_one document part.sound (take at sections) section table named good.problem good.laid.own),
    good.laid.placement,
  )

  pub placed_part : (problem : ProblemModel) (placed : Placed) →
      IsProblemFor table style section.width (take at sections) problem →
      HasPlacement section problem placed → IsPlacementOf document sections at placed
  placed_part problem placed of has = λ d.
      let laid = laid_at document part.sound (take at sections) section table named problem placed
      (subst (λ s. IsProblemFor table s section.width (take at sections) problem) (sym part.drawn) of) has in
      let same : section ≡ get_or sections at d = is ∙ sym (get_or_default sections at d section there) in
      subst (λ s. (p : ProblemModel) × IsProblemAt document (take at sections) s p × HasPlacement s p placed) same
      (problem, laid.own, has)

  -- ---- the rooms of cells

  module _ (problem : ProblemModel) (of : IsProblemFor table style section.width (take at sections) problem) (widths : List ℕ)
      (page : WithinPage problem widths) where
    -- a nested table with a height there has a section that the room holds
    nested_can : (nested : Table) → Contains (inner_tables (out-Table table)) nested → (w m : ℕ) → w ≤ section.width →
        InnerNeeds (λ one. one.high) of.inner nested w m → CanLay style sections w nested
    nested_can nested has w m within needs =
        let found = steps_found style section.width (take at sections) (inner_tables (out-Table table))
        of.inner nested of.steps has in
        let high = subst (λ o. IsSomeAnd o (λ one. height_at one.high w ≡ Some m)) found.found needs in
        let any = ((found.are.high.each w m within).0 high).1.attained in
        let few : any.0 < at = omega (arith, any.2, length-take at sections) in record {
          part = (
            document,
            budget,
            record {
              drawn = part.drawn;
              sound = part.sound;
              good = part.good;
              small = part.small;
              among = nested_among document.table table nested part.among has;
            },
          );
          at = any.0;
          there = omega (arith, few, there);
          within = λ d.
              let same : any.1 ≡ get_or sections any.0 d =
              sym any.3 ∙ get_or-take at sections any.0 any.1 few ∙ get_or_default sections any.0 any.1 d
              (omega (arith, few, there)) in
              subst (IsPlacedWithin style (out-Table nested).number w) same
              (subst (λ n. IsPlacedWithin style n w any.1) found.numbered any.4.0);
        }

    cell_room : (cell : TableCell) → Contains (out-Table table).cells cell → (made : Cell) →
        IsCellBy (InnerNeeds (λ one. one.low) of.inner) (InnerNeeds (λ one. one.high) of.inner) section.width
        (inside_of style (out-Table table) cell) (out-TableCell cell) made →
        IsSoundCell problem made → first_width made.low ≤ cell_width problem widths made →
        HasLayoutRoom style sections widths cell
    cell_room cell has made is_made sound_made wide = record {
      some = some;
      within = inside;
      can = recursion_from_All (CanLay style sections w) (tables_in (out-TableCell cell))
          (All-from_Contains (CanLay style sections w) (tables_in (out-TableCell cell)) (λ nested in_cell.
          let m = All-contains (λ one. (m : ℕ) × InnerNeeds (λ each. each.high) of.inner one w m)
          (tables_in (out-TableCell cell)) nested
          (All-from_recursion (λ one. (m : ℕ) × InnerNeeds (λ each. each.high) of.inner one w m)
          (tables_in (out-TableCell cell)) inside_all) in_cell in
          nested_can nested (Contains-flat_map (λ one. tables_in (out-TableCell one))
          (out-Table table).cells cell nested has in_cell) w m.0 upto m.1));
    } where
      w : ℕ
      w = room_for style widths cell

      some : (out-TableCell cell).place.left < (out-TableCell cell).place.right
      some = omega (arith, sound_made.columns.0, is_made.left, is_made.right)

      inside : (out-TableCell cell).place.right ≤ length widths
      inside = omega (arith, sound_made.columns.1, is_made.right, page.columns)

      same_room : cell_width problem widths made ≡ w
      same_room =
          ap (λ (s : Spacing). room s.gap widths made.left made.right) of.made.spaced
          ∙ ap (λ l. room (gap_of style) widths l made.right) is_made.left
          ∙ ap (λ r. room (gap_of style) widths (out-TableCell cell).place.left r) is_made.right

      upto : w ≤ section.width
      upto = omega (
        arith,
        room-total (gap_of style) (edges_of style) widths (out-TableCell cell).place.left
            (out-TableCell cell).place.right some inside,
        ap (λ (s : Spacing). total s.gap s.edges widths) of.made.spaced,
        page.page,
        of.made.wide,
      )

      height : (h : ℕ) × (height_at made.high w ≡ Some h)
      height = height_from made.high w sound_made.steps.1 (omega (arith, wide, same_room, sound_made.same_least))

      inside_all : AllByRecursion (λ one. (m : ℕ) × InnerNeeds (λ each. each.high) of.inner one w m)
          (tables_in (out-TableCell cell))
      inside_all = cell-inside (InnerNeeds (λ each. each.high) of.inner) w (inside_of style (out-Table table) cell) (out-TableCell cell) height.0
          ((is_made.high.each w height.0 upto).0 height.1)

    cells_rooms : (cells : List TableCell) (made : List Cell) →
        ((cell : TableCell) → Contains cells cell → Contains (out-Table table).cells cell) →
        AllZip (λ cell one. IsCellBy (InnerNeeds (λ each. each.low) of.inner) (InnerNeeds (λ each. each.high) of.inner)
        section.width (inside_of style (out-Table table) cell) (out-TableCell cell) one)
        cells made → AllByRecursion (λ one. IsSoundCell problem one × (first_width one.low ≤ cell_width problem widths one))
        made →
        AllByRecursion (HasLayoutRoom style sections widths) cells
    cells_rooms [] made all is_made fine = tt
    cells_rooms (cell ∷ cells) [] all is_made fine = absurd is_made
    cells_rooms (cell ∷ cells) (one ∷ made) all is_made fine = (
      cell_room cell (all cell (Contains-first cell cells)) one is_made.0 fine.0.0 fine.0.1,
      cells_rooms cells made (λ each has. all each (Contains-later cell cells each has)) is_made.1 fine.1,
    )

    pub rooms_part : section.width ≤ MAX_PAGE_WIDTH → (placed : Placed) → placed.widths ≡ widths →
        HasRooms style sections (out-Table table) placed
    rooms_part narrow placed same = record {
      page = omega (
        arith,
        ap (λ (ws : List ℕ). sum ws) same,
        sum-total problem.spacing.gap problem.spacing.edges widths,
        page.page,
        of.made.wide,
        narrow,
      );
      few = omega (arith, ap length same, page.columns, of.sound.few_columns);
      each = subst (λ ws. AllByRecursion (HasLayoutRoom style sections ws) (out-Table table).cells) (sym same)
          (cells_rooms (out-Table table).cells problem.cells (λ cell has. has) of.made.made
          (both_each (IsSoundCell problem) (λ one. first_width one.low ≤ cell_width problem widths one) problem.cells
          (recursion_from_All (IsSoundCell problem) problem.cells of.sound.cells)
          (recursion_from_All (λ one. first_width one.low ≤ cell_width problem widths one) problem.cells page.cells)));
    }

-- a call that found something, where finding nothing is absurd
pub is_some_by : {X : Type 0} (o : Option X) (P : Type 0) (Q : X → Type 0) → (P → ⊥) → MatchOption o P Q → (x : X) × (o ≡ Some x)
is_some_by None P Q never found = absurd (never found)
is_some_by (Some x) P Q never found = (x, refl)

-- ---- layouts one after the other

pub lays_none : (style : Style) (sections : List Section) (w : ℕ) (inner : List Layout) → LaysOut style sections w [] inner inner
lays_none style sections w inner = record { part = []; joined = sym (append-nil inner); each = tt }

pub lays_more : (style : Style) (sections : List Section) (w : ℕ) (tables more : List Table) (before inner after : List Layout) →
    LaysOut style sections w tables before inner → LaysOut style sections w more inner after →
    LaysOut style sections w (tables ++ more) before after
lays_more style sections w tables more before inner after far next = record {
  part = far.part ++ next.part;
  joined = next.joined ∙ ap (λ xs. xs ++ next.part) far.joined ∙ append_assoc before far.part next.part;
  each = AllZip-append (IsLaidIn style sections w) tables more far.part next.part far.each next.each;
}

-- the tables of blocks that are past
abbrev pub tables_past : List Content → ℕ → List Table
tables_past blocks i = flat_map (λ block. tables_of (out-Content block)) (take i blocks)

pub past_more : (blocks : List Content) (i : ℕ) (block : Content) → i < length blocks → block ≡ get_or blocks i block →
    tables_past blocks (i + 1) ≡ tables_past blocks i ++ tables_of (out-Content block)
past_more blocks i block within is = joined_more (λ one. tables_of (out-Content one)) blocks i block block within is

pub blocks_laid : (style : Style) (sections : List Section) (w : ℕ) (blocks : List Content) (i : ℕ) (block : Content)
    (before inner after : List Layout) →
    i < length blocks → block ≡ get_or blocks i block → LaysOut style sections w (tables_past blocks i) before inner →
    LaysOut style sections w (tables_of (out-Content block)) inner after →
    LaysOut style sections w (tables_past blocks (i + 1)) before after
blocks_laid style sections w blocks i block before inner after within is far next =
    subst (λ tables. LaysOut style sections w tables before after) (sym (past_more blocks i block within is))
    (lays_more style sections w (tables_past blocks i) (tables_of (out-Content block)) before inner after far next)

-- one more cell
pub cells_laid : (style : Style) (sections : List Section) (widths : List ℕ) (cells : List TableCell) (i : ℕ) (cell : TableCell)
    (inner after : List Layout) →
    i < length cells → cell ≡ get_or cells i cell → CellsLaid style sections widths (take i cells) inner →
    LaysOut style sections (room_for style widths cell) (tables_in (out-TableCell cell)) inner after →
    CellsLaid style sections widths (take (i + 1) cells) after
cells_laid style sections widths cells i cell inner after within is far next =
    subst (λ some. CellsLaid style sections widths some after)
    (sym (taken_more cells i cell cell within is))
    (record {
      parts = far.parts ++ next.part ∷ [];
      each = AllZip-push (λ one part. AllZip (IsLaidIn style sections (room_for style widths one))
          (tables_in (out-TableCell one)) part)
          (take i cells) far.parts
          cell next.part far.each next.each;
      given = flat_map-append (λ (part : List Layout). part) far.parts (next.part ∷ [])
          ∙ ap (λ xs. xs ++ flat_map (λ (part : List Layout). part) (next.part ∷ [])) far.given
          ∙ ap (λ xs. inner ++ xs) (flat_map-cons (λ (part : List Layout). part) next.part [] ∙ append-nil next.part) ∙ sym
          next.joined;
    })

-- ---- a table is laid out

pub chosen_is : (style : Style) (sections : List Section) (number w i : ℕ) (o : Option ℕ) → o ≡ Some i →
    MatchOption o (NoneWithin style sections number w (length sections)) (IsChosen style sections number w) →
    IsChosen style sections number w i
chosen_is style sections number w i o is found =
    subst (λ one. MatchOption one (NoneWithin style sections number w (length sections)) (IsChosen style sections number w))
    is found

pub laid_one : (style : Style) (sections : List Section) (w : ℕ) (nested : Table) (at : ℕ) (layout : Layout)
    (inner after : List Layout) →
    IsChosen style sections (out-Table nested).number w at → IsLaidOut style sections at nested layout →
    after ≡ inner ++ layout ∷ [] →
    LaysOut style sections w (nested ∷ []) inner after
laid_one style sections w nested at layout inner after chosen laid joined =
    record { part = layout ∷ []; joined = joined; each = (record { at = at; chosen = chosen; laid = laid }, tt) }

-- each laid out at a depth
module _ (document : Document) (budget : ℕ) (style : Style) (sections : List Section) (table : Table)
    (part : IsPart document budget style sections table)
    (depth : ℕ) where
  -- how a nested table is laid out by sections
  abbrev pub Laid : Table → ℕ → Layout → Type 0
  Laid nested w one = (j : ℕ) × IsChosen document.style sections (out-Table nested).number w j ×
      IsLaidWithin depth document sections j nested one

  part_of : (nested : Table) → Contains (inner_tables (out-Table table)) nested → IsPart document budget style sections nested
  part_of nested has = record {
    drawn = part.drawn;
    sound = part.sound;
    good = part.good;
    small = part.small;
    among = nested_among document.table table nested part.among has;
  }

  tables_laid : (w : ℕ) (tables : List Table) (layouts : List Layout) →
      ((nested : Table) → Contains tables nested → Contains (inner_tables (out-Table table)) nested ×
      IsSoundWithin depth nested) →
      AllZip (IsLaidIn style sections w) tables layouts → AllZip (λ nested one. Laid nested w one) tables layouts
  tables_laid w [] [] all laid = tt
  tables_laid w [] (layout ∷ layouts) all laid = absurd laid
  tables_laid w (nested ∷ tables) [] all laid = absurd laid
  tables_laid w (nested ∷ tables) (layout ∷ layouts) all laid =
      let here = all nested (Contains-first nested tables) in (
        (
          laid.0.at,
          subst (λ s. IsChosen s sections (out-Table nested).number w laid.0.at) (sym part.drawn) laid.0.chosen,
          laid.0.laid document budget (part_of nested here.0) depth here.1,
        ),
        tables_laid w tables layouts (λ one has. all one (Contains-later nested tables one has)) laid.1,
      )

  cells_laid_in : (widths : List ℕ) (cells : List TableCell) (parts : List (List Layout)) →
      ((cell : TableCell) → Contains cells cell → Contains (out-Table table).cells cell) →
      AllByRecursion (IsSoundWithin depth) (inner_tables (out-Table table)) →
      AllZip (λ cell one. AllZip (IsLaidIn style sections (room_for style widths cell)) (tables_in (out-TableCell cell)) one)
      cells parts →
      AllZip (λ cell one. AllZip (λ nested layout.
      Laid nested (room (gap_of document.style) widths (out-TableCell cell).place.left (out-TableCell cell).place.right) layout)
      (tables_in (out-TableCell cell)) one) cells parts
  cells_laid_in widths [] [] all sound laid = tt
  cells_laid_in widths [] (one ∷ parts) all sound laid = absurd laid
  cells_laid_in widths (cell ∷ cells) [] all sound laid = absurd laid
  cells_laid_in widths (cell ∷ cells) (one ∷ parts) all sound laid = (
    subst (λ s. AllZip (λ nested layout. Laid nested (room (gap_of s) widths (out-TableCell cell).place.left
        (out-TableCell cell).place.right) layout)
        (tables_in (out-TableCell cell)) one) (sym part.drawn)
        (tables_laid (room_for style widths cell) (tables_in (out-TableCell cell)) one (λ nested has.
        let inside = Contains-flat_map (λ each. tables_in (out-TableCell each)) (out-Table table).cells cell nested
        (all cell (Contains-first cell cells)) has in (
          inside,
          All-contains (IsSoundWithin depth) (inner_tables (out-Table table)) nested
              (All-from_recursion (IsSoundWithin depth) (inner_tables (out-Table table)) sound) inside,
        )) laid.0),
    cells_laid_in widths cells parts (λ each has. all each (Contains-later cell cells each has)) sound laid.1,
  )

pub laid_out : (style : Style) (sections : List Section) (at : ℕ) (table : Table) (placed : Placed) (inner : List Layout)
    (layout : Layout) →
    out-Layout layout ≡ record { widths = placed.widths; heights = placed.heights; inner = inner } →
    IsPlacedBy style sections at table placed →
    CellsLaid style sections placed.widths (out-Table table).cells inner → IsLaidOut style sections at table layout
laid_out style sections at table placed inner layout is own cells document budget part zero sound = absurd sound
laid_out style sections at table placed inner layout is own cells document budget part (suc depth) sound = (
  placed,
  own document budget part,
  subst (IsNamedLayoutBy (Laid document budget style sections table part depth) document.style (out-Table table) placed) (sym is)
      (record {
        columns = refl;
        lines = refl;
        parts = cells.parts;
        cells = cells_laid_in document budget style sections table part depth placed.widths (out-Table table).cells cells.parts
            (λ cell has. has) sound.inner
            cells.each;
        given = cells.given;
      }),
)

-- ---- a block that is a table

pub can_box : (style : Style) (sections : List Section) (w : ℕ) (block : OpenContent) (box : Box Table Global) (table : Table) →
    block ≡ open_content.Table box → table ≡ box.value → AllByRecursion (CanLay style sections w) (tables_of block) →
    CanLay style sections w table
can_box style sections w block box table is inside can =
    subst (CanLay style sections w) (sym inside) (subst (λ b. AllByRecursion (CanLay style sections w) (tables_of b)) is can).0

pub box_laid : (style : Style) (sections : List Section) (w : ℕ) (block : OpenContent) (box : Box Table Global) (table : Table)
    (inner after : List Layout) →
    block ≡ open_content.Table box → table ≡ box.value → LaysOut style sections w (table ∷ []) inner after →
    LaysOut style sections w (tables_of block) inner after
box_laid style sections w block box table inner after is inside laid =
    subst (λ b. LaysOut style sections w (tables_of b) inner after) (sym is)
    (subst (λ t. LaysOut style sections w (t ∷ []) inner after) inside laid)

-- each block of a cell
pub can_block : (style : Style) (sections : List Section) (w : ℕ) (cell : TableCell) (i : ℕ) (block : Content) →
    i < length (out-TableCell cell).blocks →
    block ≡ get_or (out-TableCell cell).blocks i block → AllByRecursion (CanLay style sections w)
    (tables_in (out-TableCell cell)) →
    AllByRecursion (CanLay style sections w) (tables_of (out-Content block))
can_block style sections w cell i block within is can =
    at_item (λ one. AllByRecursion (CanLay style sections w) (tables_of (out-Content one))) (out-TableCell cell).blocks i block
    (each_joined (CanLay style sections w) (λ one. tables_of (out-Content one)) (out-TableCell cell).blocks can) within is

-- ---- a valid certificate

pub whole_of : (document : Document) (budget : ℕ) (certificate : Certificate) (claim : Claim) →
    IsShown document budget certificate claim →
    (IsNarrow claim → ⊥) → AreWhole document budget certificate.sections
whole_of document budget certificate (Lowest height) shown other = shown.0
whole_of document budget certificate (Bounded height lower) shown other = shown.0
whole_of document budget certificate (Narrow least) shown other = absurd (other tt)

module _ (table : Table) (style : Style) (certificate : Certificate) (sound : IsSound table) (written : IsWritable certificate)
    (valid : IsValid table style certificate.width certificate.budget certificate) (by_sections : IsNarrow certificate.claim →
    ⊥) where
  whole : AreWhole valid.0 certificate.budget certificate.sections
  whole = whole_of valid.0 certificate.budget certificate certificate.claim valid.2.shown by_sections

  pub part_of_valid : IsPart valid.0 certificate.budget style certificate.sections table
  part_of_valid = record {
    drawn = valid.1.drawn;
    sound = subst IsSound (sym valid.1.same) sound;
    good = whole.good;
    small = small_sections certificate written;
    among = inl valid.1.same;
  }

  own : IsOwnLast valid.0 certificate.sections
  own = own_last valid.0 certificate.budget certificate.sections (omega (arith, valid.1.numbers)) whole

  pub some_section : 0 < length certificate.sections
  some_section = omega (arith, own.last)

  pub last_own : (d : Section) → (get_or certificate.sections (length certificate.sections - 1) d).table ≡
      (out-Table table).number
  last_own d =
      let n : own.n ≡ length certificate.sections - 1 = omega (arith, own.last) in
      subst (λ k. (get_or certificate.sections k d).table ≡ own_number valid.0) n (own.of d) ∙ ap (λ t. (out-Table t).number)
      valid.1.same

  pub named_of : (layout : Layout) → IsLaidOut style certificate.sections (length certificate.sections - 1) table layout →
      IsNamed table style certificate layout
  named_of layout laid = (
    valid.0,
    valid.1,
    (
      sound.depth,
      subst (λ t. IsLaidWithin sound.depth valid.0 certificate.sections (length certificate.sections - 1) t layout)
          (sym valid.1.same)
          (laid valid.0 certificate.budget part_of_valid sound.depth sound.sound),
    ),
  )

  pub fits_of : (layout : Layout) → IsLaidOut style certificate.sections (length certificate.sections - 1) table layout →
      (height : ℕ) → HasHeight certificate.claim height → Fits table style certificate.width height layout
  fits_of layout laid height has =
      named_layout by_low by_high table style certificate.width certificate.budget certificate height layout sound valid has
      (named_of layout laid)

  -- the last section
  abbrev last : Section
  last = get_or certificate.sections (length certificate.sections - 1) no_section

  last_there : length certificate.sections - 1 < length certificate.sections
  last_there = omega (arith, some_section)

  last_is : last ≡ get_or certificate.sections (length certificate.sections - 1) last
  last_is = get_or_default certificate.sections (length certificate.sections - 1) no_section last last_there

  -- the placement of the last section is its own in each document that has the table as a part
  module _ (placed : Placed) (is : IsLastPlacement table style certificate.width certificate.sections placed) where
    abbrev before : List Section
    before = take (length certificate.sections - 1) certificate.sections

    for_last : (problem : ProblemModel) × IsProblemFor table style last.width before problem × HasPlacement last problem placed
    for_last =
        let found = is.2 no_section in (
          found.0,
          subst (λ s. IsProblemFor table s last.width before found.0) is.1.drawn
              (for_one is.0 (subst IsSound (sym is.1.same) sound) before last table
              (record { among = inl is.1.same; numbered = sym (last_own no_section) }) found.0 found.1),
          found.2,
        )

    pub last_placed : IsPlacedBy style certificate.sections (length certificate.sections - 1) table placed
    last_placed = λ document budget part. placed_part document budget style certificate.sections table part
        (length certificate.sections - 1) last_there last last_is (sym (last_own no_section)) for_last.0 placed for_last.1
        for_last.2

    pub last_rooms : HasRooms style certificate.sections (out-Table table) placed
    last_rooms = rooms_part valid.0 certificate.budget style certificate.sections table part_of_valid
        (length certificate.sections - 1) last_there last last_is (sym (last_own no_section)) for_last.0 for_last.1
        placed.widths for_last.2.tight.placement.page
        (subst (λ (s : Section). s.width ≤ MAX_PAGE_WIDTH) (sym last_is)
        (part_of_valid.small (length certificate.sections - 1) last last_there).narrow)
        placed refl

  -- the placement that belongs to the last section
  pub placed_last : (placed : Placed) →
      IsPlacedBy style certificate.sections (length certificate.sections - 1) table placed →
      IsLastPlacement table style certificate.width certificate.sections placed
  placed_last placed by = (valid.0, valid.1, by valid.0 certificate.budget part_of_valid)

pub ok_so : {X E : Type 0} (P Q : X → Type 0) (result : Result X E) → ((x : X) → P x → Q x) → IfOk result P → IfOk result Q
ok_so P Q (Ok x) so is = so x is
ok_so P Q (Err e) so is = is
