-- The layout that a certificate names fits: each table of it stands by the placement of its section, in which the layouts
-- of the tables nested in it have room.
use Rattle.tl_base.specs.declared.spacing.Spacing.{Spacing}
use Rattle.std.proofs.Common.{◌≡◌, ◌∙◌, ℕ, zero, suc, ◌+◌, ◌-◌, ◌<◌, ◌≤◌, List, [], ◌∷◌, ◌++◌, ◌⊎◌, inl, inr, length, get_or, take}
use Rattle.std.proofs.Common.{sum, sum_by}
use Rattle.std.proofs.Common.{Option, Some, None, refl, sym, ap, subst, arith}
use Rattle.std.specs.List.{All, AllZip, AllByRecursion, Contains, flat_map}
use Rattle.std.specs.Option.{IsSomeAnd}
use Rattle.std.proofs.lemmas.List.{get_or-take, get_or_default, length-take, take_all}
use Rattle.std.proofs.lemmas.List.Concat.{flat_map-cons}
use Rattle.std.proofs.lemmas.List.Elements.{All-get_or, recursion_from_All}
use Rattle.std.proofs.lemmas.List.Sums.{sum_by-cons}
use Rattle.tl_base.specs.declared.style.Style.{Style}
use Rattle.tl_base.specs.Style.{gap_of, row_gap_of, edges_of}
use Rattle.tl_base.specs.Steps.{IsLowAt, height_at}
use Rattle.tl_base.proofs.Members.{Contains-first, Contains-later, Contains-cases, Contains-none, Contains-flat_map}
use Rattle.tl_base.proofs.Sums.{sum-cons}
use Rattle.tl_problem.specs.declared.cell.Cell.{Cell}
use Rattle.tl_problem.specs.declared.placed.Placed.{Placed}
use Rattle.tl_problem.specs.Problem.{ProblemModel}
use Rattle.tl_base.specs.Sizes.{room, total}
use Rattle.tl_problem.specs.Placements.{IsPlacement}
use Rattle.tl_problem.specs.Sound.{IsSound as IsSoundProblem}
use Rattle.tl_base.proofs.SizeLaws.{room-total}
use Rattle.tl_cert.specs.declared.certificate.Certificate.{Certificate}
use Rattle.tl_cert.specs.declared.certificate.Claim.{Claim}
use Rattle.tl_cert.specs.declared.certificate.Claim.TheVariants.{Lowest, Bounded, Narrow}
use Rattle.tl_cert.specs.declared.section.Section.{Section}
use Rattle.tl_table.specs.declared.cell.Content.{Content, out-Content}
use Rattle.tl_table.specs.declared.cell.Content.TheOpen as open_content
use Rattle.tl_table.specs.declared.cell.Table.{Table, out-Table}
use Rattle.tl_table.specs.declared.cell.TableCell.{TableCell, out-TableCell}
use Rattle.tl_form.specs.declared.heights.InnerSteps.{InnerSteps}
use Rattle.tl_table.specs.declared.layout.Layout.{Layout, out-Layout}
use Rattle.tl_form.specs.Expected.{Document, IsDocumentOf, IsTableOf, own_number, placed_width}
use Rattle.tl_table.specs.Layouts.{Share, Fits, FitsRoom, FitsShare, lines_of, width_for}
use Rattle.tl_form.specs.Named.{IsChosen, AreLaidIn, IsLaidWithin, IsNamedBy}
use Rattle.tl_form.specs.Nested.{IsPlacedWithin, IsLeastFound, AreInnerSteps}
use Rattle.tl_form.specs.ProblemLaws.{LayoutsAreByLow, LayoutsByHighFit}
use Rattle.tl_form.specs.Problems.{BlockNeeds, CellNeeds, InnerNeeds, IsCellBy, IsProblemOf, inside_of}
use Rattle.tl_table.specs.Tables.{IsAmong, OpenCell, OpenContent, tables_of, tables_in, inner_tables}
use Rattle.tl_table.specs.Sound.{IsSound}
use Rattle.tl_form.specs.Valid.{AreGoodBelow, AreWhole, EndsWith, HasNumbers, IsShown}
use Rattle.tl_form.specs.ValidLaws.{HasHeight, NamedLayoutFits}
use Rattle.tl_table.proofs.AnyDepth.{fits-from_any}
use Rattle.tl_table.proofs.TableNumbers.{one_of_number}
use Rattle.tl_form.proofs.OneProblem.{one_document}
use Rattle.tl_form.proofs.ValidLaws.{own_last, ends, no_section}
use Rattle.tl_form.proofs.Truth.{Fits-wider, HasStepsOf, IsTrue, all_true, steps_found, nested_among}

-- ---- a cell in which given layouts of its nested tables have room

-- what belongs to two lists joined, in two parts
zip_parts : {A B : Type 0} (R : A → B → Type 0) (xs zs : List A) (ys : List B) → AllZip R (xs ++ zs) ys →
    (first second : List B) × (ys ≡ first ++ second) × AllZip R xs first × AllZip R zs second
zip_parts R [] zs ys all = ([], ys, refl, tt, all)
zip_parts R (x ∷ xs) zs [] all = absurd all
zip_parts {B = B} R (x ∷ xs) zs (y ∷ ys) all =
    let rest = zip_parts R xs zs ys all.1 in
    (y ∷ rest.0, rest.1, ap (λ (more : List B). y ∷ more) rest.2, (all.0, rest.3), rest.4)

module _ (style : Style) (needs : Table → ℕ → ℕ → Type 0) (w : ℕ) where
  abbrev FitsAny : Table → ℕ → ℕ → Layout → Type 0
  FitsAny nested v h layout = Fits nested style v h layout

  -- the layout of a nested table is no higher than it needs
  abbrev pub IsEnoughFor : Table → Layout → Type 0
  IsEnoughFor nested layout = (h : ℕ) → needs nested w h → (k : ℕ) × Fits nested style w k layout × (k ≤ h)

  block_given : (block : OpenContent) (h : ℕ) (part : List Layout) → AllZip IsEnoughFor (tables_of block) part →
      BlockNeeds needs block w h →
      (share : Share) × FitsShare FitsAny w block share × (share.height ≡ h) × (share.inner ≡ part)
  block_given (open_content.Para paragraph) h [] given need =
      let cut = need.attained in
      (record { height = h; inner = [] }, ((cut.0, cut.1, cut.2, omega (arith, cut.3)), refl), refl, refl)
  block_given (open_content.Para paragraph) h (layout ∷ part) given need = absurd given
  block_given (open_content.Table box) h [] given need = absurd given
  block_given (open_content.Table box) h (layout ∷ []) given need =
      let one = given.0 h need in (
        record { height = h; inner = layout ∷ [] },
        record { layout = layout; height = one.0; laid = one.1; within = one.2; given = refl },
        refl,
        refl,
      )
  block_given (open_content.Table box) h (layout ∷ more ∷ part) given need = absurd given.1

  blocks_given : (blocks : List Content) (heights : List ℕ) (part : List Layout) →
      AllZip IsEnoughFor (flat_map (λ block. tables_of (out-Content block)) blocks) part →
      AllZip (λ block height. BlockNeeds needs (out-Content block) w height) blocks heights →
      (shares : List Share) × AllZip (λ block share. FitsShare FitsAny w (out-Content block) share) blocks shares
      × (sum_by (λ share. share.height) shares ≡ sum heights) × (flat_map (λ share. share.inner) shares ≡ part)
  blocks_given [] [] [] given need = ([], tt, refl, refl)
  blocks_given [] [] (layout ∷ part) given need = absurd given
  blocks_given [] (h ∷ heights) part given need = absurd need
  blocks_given (block ∷ blocks) [] part given need = absurd need
  blocks_given (block ∷ blocks) (h ∷ heights) part given need =
      let split = zip_parts IsEnoughFor (tables_of (out-Content block)) (flat_map (λ each. tables_of (out-Content each)) blocks)
      part
      (subst (λ tables. AllZip IsEnoughFor tables part) (flat_map-cons (λ each. tables_of (out-Content each)) block blocks)
      given) in
      let first = block_given (out-Content block) h split.0 split.3 need.0 in
      let rest = blocks_given blocks heights split.1 split.4 need.1 in (
        first.0 ∷ rest.0,
        (first.1, rest.1),
        omega (arith, sum-cons h heights, sum_by-cons (λ (one : Share). one.height) first.0 rest.0, first.2, rest.2),
        flat_map-cons (λ (one : Share). one.inner) first.0 rest.0
            ∙ ap (λ (inner : List Layout). inner ++ flat_map (λ (one : Share). one.inner) rest.0) first.3
            ∙ ap (λ (inner : List Layout). split.0 ++ inner) rest.3 ∙ sym split.2,
      )

  pub cell_given : (inside : ℕ) (cell : OpenCell) (n h : ℕ) (part : List Layout) → AllZip IsEnoughFor (tables_in cell) part →
      CellNeeds needs inside cell w n → n + inside ≤ h →
      FitsRoom FitsAny w h cell part
  cell_given inside cell n h part given need enough =
      let all = blocks_given cell.blocks need.heights part given need.blocks in
      record {
        floor = need.floor;
        shares = all.0;
        blocks = all.1;
        within = omega (arith, all.2, need.all, enough);
        given =
            all.3;
      }

-- ---- all cells

low_height : (o : Option ℕ) (h : ℕ) → IsSomeAnd o (λ height. height ≤ h) → (n : ℕ) × (o ≡ Some n) × (n ≤ h)
low_height None h low = absurd low
low_height (Some n) h low = (n, refl, low)

module _ (style : Style) (lows highs : Table → ℕ → ℕ → Type 0) (page : ℕ) (lines : TableCell → ℕ) (widths heights : List ℕ)
    (narrow : total (gap_of style) (edges_of style) widths ≤ page) where
  -- the cell lies in the columns, and its `high` is within its room
  pub record IsFine (made : Cell) : Type 0 where
    pub some : made.left < made.right
    pub within : made.right ≤ length widths
    pub low : IsLowAt made.high (room (row_gap_of style) heights made.top made.bottom)
        (room (gap_of style) widths made.left made.right)

  -- the layouts of the tables nested in the cell are no higher than these need in its room
  abbrev pub IsGiven : TableCell → List Layout → Type 0
  IsGiven cell part = AllZip
      (IsEnoughFor style highs (room (gap_of style) widths (out-TableCell cell).place.left (out-TableCell cell).place.right))
      (tables_in (out-TableCell cell)) part

  abbrev FitsIn : TableCell → List Layout → Type 0
  FitsIn cell part = FitsRoom (λ nested v h layout. Fits nested style v h layout)
      (room (gap_of style) widths (out-TableCell cell).place.left (out-TableCell cell).place.right)
      (room (row_gap_of style) heights (out-TableCell cell).place.top (out-TableCell cell).place.bottom + lines cell)
      (out-TableCell cell) part

  one_given : (cell : TableCell) (made : Cell) (part : List Layout) → IsCellBy lows highs page (lines cell) (out-TableCell cell) made →
      IsFine made →
      IsGiven cell part → FitsIn cell part
  one_given cell made part is fine given =
      let place = (out-TableCell cell).place in
      let across : room (gap_of style) widths made.left made.right ≡ room (gap_of style) widths place.left place.right =
      ap (λ left. room (gap_of style) widths left made.right) is.left ∙ ap
      (λ right. room (gap_of style) widths place.left right) is.right in
      let down : room (row_gap_of style) heights made.top made.bottom ≡ room (row_gap_of style) heights place.top place.bottom =
      ap (λ top. room (row_gap_of style) heights top made.bottom) is.top ∙ ap
      (λ bottom. room (row_gap_of style) heights place.top bottom) is.bottom in
      let within = room-total (gap_of style) (edges_of style) widths made.left made.right fine.some fine.within in
      let low = low_height (height_at made.high (room (gap_of style) widths made.left made.right))
      (room (row_gap_of style) heights made.top made.bottom) fine.low in
      let need = (is.high.each (room (gap_of style) widths place.left place.right) low.0
      (omega (arith, across, within, narrow))).0
      (ap (height_at made.high) (sym across) ∙ low.1) in
      cell_given style highs (room (gap_of style) widths place.left place.right) (lines cell) (out-TableCell cell) low.0
      (room (row_gap_of style) heights place.top place.bottom + lines cell) part given need (omega (arith, low.2, down))

  pub all_given : (cells : List TableCell) (made : List Cell) (parts : List (List Layout)) →
      AllZip (λ cell one. IsCellBy lows highs page (lines cell) (out-TableCell cell) one) cells made → AllByRecursion IsFine made →
      AllZip IsGiven cells parts →
      AllZip FitsIn cells parts
  all_given [] [] [] are fine given = tt
  all_given [] [] (part ∷ parts) are fine given = absurd given
  all_given [] (one ∷ made) parts are fine given = absurd are
  all_given (cell ∷ cells) [] parts are fine given = absurd are
  all_given (cell ∷ cells) (one ∷ made) [] are fine given = absurd given
  all_given (cell ∷ cells) (one ∷ made) (part ∷ parts) are fine given =
      (one_given cell one part are.0 fine.0 given.0, all_given cells made parts are.1 fine.1 given.1)

-- ---- one table

module _ (table : Table) (style : Style) (page : ℕ) (inner : List InnerSteps) (problem : ProblemModel)
    (of : IsProblemOf table style page inner problem) (sound : IsSoundProblem problem) (placed : Placed)
    (placement : IsPlacement problem placed) where
  abbrev highs : Table → ℕ → ℕ → Type 0
  highs = InnerNeeds (λ one. one.high) inner

  fits_page : total (gap_of style) (edges_of style) placed.widths ≤ page
  fits_page = subst (λ w. total (gap_of style) (edges_of style) placed.widths ≤ w) of.wide
      (subst (λ (s : Spacing). total s.gap s.edges placed.widths ≤ problem.width) of.spaced placement.page.page)

  low_enough : All (λ one. IsLowAt one.high (room (row_gap_of style) placed.heights one.top one.bottom)
      (room (gap_of style) placed.widths one.left one.right)) problem.cells
  low_enough = subst (λ (s : Spacing). All (λ one. IsLowAt one.high (room s.row_gap placed.heights one.top one.bottom)
      (room s.gap placed.widths one.left one.right)) problem.cells) of.spaced placement.rows.kind.cells

  -- the lines inside each cell
  abbrev lines : TableCell → ℕ
  lines = inside_of style (out-Table table)

  all_fine : AllByRecursion (IsFine style (InnerNeeds (λ one. one.low) inner) highs page lines placed.widths placed.heights fits_page)
      problem.cells
  all_fine = recursion_from_All (IsFine style (InnerNeeds (λ one. one.low) inner)
      highs page lines placed.widths placed.heights fits_page) problem.cells
      (λ k d within. record {
        some = (sound.cells k d within).columns.0;
        within = omega (arith, (sound.cells k d within).columns.1, placement.page.columns);
        low = low_enough k d within;
      })

  -- the room of each cell is within the page
  pub cell_within : (cell : TableCell) → Contains (out-Table table).cells cell →
      room (gap_of style) placed.widths (out-TableCell cell).place.left (out-TableCell cell).place.right ≤ page
  cell_within cell has = from (out-Table table).cells problem.cells cell of.made all_fine has
    where
      from : (cells : List TableCell) (made : List Cell) (cell : TableCell) →
          AllZip (λ each one. IsCellBy (InnerNeeds (λ one. one.low) inner) highs page (lines each) (out-TableCell each) one) cells
          made →
          AllByRecursion (IsFine style (InnerNeeds (λ one. one.low) inner) highs page lines placed.widths placed.heights fits_page)
          made →
          Contains cells cell → room (gap_of style) placed.widths (out-TableCell cell).place.left
          (out-TableCell cell).place.right ≤ page
      from [] made cell are fine has = absurd (Contains-none cell has)
      from (each ∷ cells) [] cell are fine has = absurd are
      from (each ∷ cells) (one ∷ made) cell are fine has = by_case (Contains-cases each cells cell has)
          (from cells made cell are.1 fine.1)
        where
          here : room (gap_of style) placed.widths (out-TableCell each).place.left (out-TableCell each).place.right ≤ page
          here =
              let place = (out-TableCell each).place in
              let across : room (gap_of style) placed.widths one.left one.right ≡ room (gap_of style)
              placed.widths place.left place.right =
              ap (λ left. room (gap_of style) placed.widths left one.right) are.0.left
              ∙ ap (λ right. room (gap_of style) placed.widths place.left right) are.0.right in
              omega (
                arith,
                across,
                room-total (gap_of style) (edges_of style)
                    placed.widths one.left one.right fine.0.some fine.0.within,
                fits_page,
              )

          by_case : (each ≡ cell) ⊎ Contains cells cell →
              (Contains cells cell → room (gap_of style) placed.widths (out-TableCell cell).place.left
              (out-TableCell cell).place.right ≤ page) →
              room (gap_of style) placed.widths (out-TableCell cell).place.left (out-TableCell cell).place.right ≤ page
          by_case (inl same) again =
              subst (λ it. room (gap_of style) placed.widths (out-TableCell it).place.left (out-TableCell it).place.right ≤
              page) same here
          by_case (inr later) again = again later

  -- the placement with given layouts of the nested tables is a layout that fits
  pub given_fits : (layout : Layout) (parts : List (List Layout)) → (out-Layout layout).widths ≡ placed.widths →
      (out-Layout layout).heights ≡ placed.heights →
      AllZip (λ cell part. AllZip (IsEnoughFor style highs (room (gap_of style) placed.widths (out-TableCell cell).place.left
      (out-TableCell cell).place.right)) (tables_in (out-TableCell cell)) part) (out-Table table).cells parts →
      flat_map (λ part. part) parts ≡ (out-Layout layout).inner →
      Fits table style (total (gap_of style) (edges_of style) placed.widths)
      (total (row_gap_of style) (lines_of style (out-Table table)) placed.heights) layout
  given_fits layout parts wide high given joined =
      let any = fits-from_any style (out-Table table) (total (gap_of style) (edges_of style) placed.widths)
      (total (row_gap_of style) (lines_of style (out-Table table)) placed.heights) (out-Layout layout) (record {
        columns = ap length wide ∙ placement.page.columns ∙ of.columns;
        rows = ap length high ∙ placement.rows.kind.rows ∙ of.lines;
        within = omega (arith, ap (total (gap_of style) (edges_of style)) wide);
        high = ap (total (row_gap_of style) (lines_of style (out-Table table))) high;
        parts = parts;
        cells = subst (λ widths. AllZip (λ cell part. FitsRoom (λ nested v h one. Fits nested style v h one)
            (room (gap_of style) widths (out-TableCell cell).place.left (out-TableCell cell).place.right)
            (room (row_gap_of style) (out-Layout layout).heights (out-TableCell cell).place.top
            (out-TableCell cell).place.bottom + lines cell) (out-TableCell cell) part)
            (out-Table table).cells parts) (sym wide)
            (subst (λ heights. AllZip (λ cell part. FitsRoom (λ nested v h one. Fits nested style v h one)
            (room (gap_of style) placed.widths (out-TableCell cell).place.left (out-TableCell cell).place.right)
            (room (row_gap_of style) heights (out-TableCell cell).place.top (out-TableCell cell).place.bottom + lines cell)
            (out-TableCell cell) part)
            (out-Table table).cells parts) (sym high)
            (all_given style (InnerNeeds (λ one. one.low) inner) highs page lines placed.widths placed.heights fits_page
            (out-Table table).cells problem.cells
            parts of.made all_fine given));
        given = joined;
      }) in (suc any.0, any.1)

-- ---- by the number of tables inside one another

-- what is so of layouts in each cell
zip_weaker : {A B : Type 0} (P Q : A → B → Type 0) (xs : List A) (ys : List B) →
    ((x : A) (y : B) → Contains xs x → P x y → Q x y) →
    AllZip P xs ys → AllZip Q xs ys
zip_weaker P Q [] [] weaker all = tt
zip_weaker P Q [] (y ∷ ys) weaker all = absurd all
zip_weaker P Q (x ∷ xs) [] weaker all = absurd all
zip_weaker P Q (x ∷ xs) (y ∷ ys) weaker all = (
  weaker x y (Contains-first x xs) all.0,
  zip_weaker P Q xs ys (λ z w has one. weaker z w (Contains-later x xs z has) one) all.1,
)

module _ (document : Document) (sound : IsSound document.table) (budget : ℕ) (sections : List Section)
    (good : AreGoodBelow document budget sections (length sections)) (d : Section) where
  -- the section with a number
  abbrev at : ℕ → Section
  at i = get_or sections i d

  -- a layout by a section fits the columns of its placement, as high
  abbrev LaidFit : ℕ → Type 0
  LaidFit depth = (i : ℕ) → i < length sections → (one : Table) → IsTableOf document (at i).table one → (layout : Layout) →
      IsLaidWithin depth document sections i one layout → Fits one document.style (placed_width document.style (at i))
      (at i).height layout

  -- the steps that the sections before tell are those of some section, which is chosen or higher
  chosen_enough : (i : ℕ) (one : Table) (inner : List InnerSteps) (w : ℕ) (nested : Table) (layout : Layout) (depth : ℕ) →
      i ≤ length sections →
      IsAmong document.table one → AreInnerSteps one document.style (at i).width (take i sections) inner → w ≤ (at i).width →
      Contains (inner_tables (out-Table one)) nested → LaidFit depth →
      (j : ℕ) × IsChosen document.style sections (out-Table nested).number w j ×
      IsLaidWithin depth document sections j nested layout →
      IsEnoughFor document.style (InnerNeeds (λ each. each.high) inner) w nested layout
  chosen_enough i one inner w nested layout depth before among steps within has again (j, chosen, laid) h needs = (
    (at j).height,
    Fits-wider document.style nested (placed_width document.style (at j)) w (at j).height layout (chosen.within d).narrow
        (again j chosen.there nested (record {
          among = nested_among document.table one nested among has;
          numbered =
              sym (chosen.within d).of;
        }) layout laid),
    lower,
  )
    where
      found : HasStepsOf document.style (at i).width (take i sections) (inner_tables (out-Table one)) inner
          (out-Table nested).number
      found = steps_found document.style (at i).width (take i sections) (inner_tables (out-Table one)) inner nested steps has

      high : height_at found.steps.high w ≡ Some h
      high = subst (λ o. IsSomeAnd o (λ each. height_at each.high w ≡ Some h)) found.found needs

      least : IsLeastFound document.style (take i sections) (out-Table found.of).number w h
      least = ((found.are.high.each w h within).0 high).1

      lower : (at j).height ≤ h
      lower =
          let told = least.attained in
          let k = told.0 in
          let inside : k < length sections = omega (arith, told.2, length-take i sections, before) in
          let early : k < i = omega (arith, told.2, length-take i sections, before) in
          let same : get_or sections k d ≡ told.1 =
          get_or_default sections k d told.1 inside ∙ sym (get_or-take i sections k told.1 early) ∙ told.3 in
          let counts : IsPlacedWithin document.style (out-Table nested).number w told.1 =
          subst (λ n. IsPlacedWithin document.style n w told.1) found.numbered told.4.0 in
          omega (
            arith,
            chosen.least k d inside (subst (IsPlacedWithin document.style (out-Table nested).number w) (sym same) counts),
            ap (λ (s : Section). s.height) same,
            told.4.1,
          )

  laid_fits : (depth : ℕ) → LaidFit depth
  laid_fits zero i there one named layout laid = absurd laid
  laid_fits (suc depth) i there one named layout (placed, placing, laid) =
      let by = placing d in
      let own = by.1 in
      let placement = by.2.tight.placement in
      let same = one_of_number document.table own.one one sound own.named.among named.among
      (own.named.numbered ∙ sym named.numbered) in
      let made : IsProblemOf one document.style (at i).width own.inner by.0 =
      subst (λ t. IsProblemOf t document.style (at i).width own.inner by.0) same own.made in
      let steps : AreInnerSteps one document.style (at i).width (take i sections) own.inner =
      subst (λ t. AreInnerSteps t document.style (at i).width (take i sections) own.inner) same own.steps in
      let narrow = fits_page one document.style (at i).width own.inner by.0 made own.sound placed placement in
      let given = zip_weaker
      (λ cell part. AreLaidIn (λ nested w each. (j : ℕ) × IsChosen document.style sections (out-Table nested).number w j
      × IsLaidWithin depth document sections j nested each) (width_for document.style (out-Layout layout)
      (out-TableCell cell).place) (out-TableCell cell) part)
      (λ cell part. AllZip (IsEnoughFor document.style (InnerNeeds (λ each. each.high) own.inner)
      (room (gap_of document.style) placed.widths (out-TableCell cell).place.left (out-TableCell cell).place.right))
      (tables_in (out-TableCell cell)) part)
      (out-Table one).cells laid.parts
      (λ cell part has laid_in. zip_weaker
      (λ nested each. (j : ℕ) × IsChosen document.style sections (out-Table nested).number
      (width_for document.style (out-Layout layout) (out-TableCell cell).place) j ×
      IsLaidWithin depth document sections j nested each)
      (IsEnoughFor document.style (InnerNeeds (λ each. each.high) own.inner)
      (room (gap_of document.style) placed.widths (out-TableCell cell).place.left (out-TableCell cell).place.right))
      (tables_in (out-TableCell cell)) part
      (λ nested each among chosen.
      let w = room (gap_of document.style) placed.widths (out-TableCell cell).place.left (out-TableCell cell).place.right in
      chosen_enough i one own.inner w nested each depth (omega (arith, there)) named.among steps
      (cell_within one document.style (at i).width own.inner by.0 made own.sound placed placement cell has)
      (Contains-flat_map (λ each_cell. tables_in (out-TableCell each_cell)) (out-Table one).cells cell nested has among)
      (laid_fits depth)
      (subst (λ widths. (j : ℕ) × IsChosen document.style sections (out-Table nested).number
      (room (gap_of document.style) widths (out-TableCell cell).place.left (out-TableCell cell).place.right) j
      × IsLaidWithin depth document sections j nested each) laid.columns chosen)) laid_in) laid.cells in
      let fits = given_fits one document.style (at i).width own.inner by.0 made own.sound placed placement layout laid.parts
      laid.columns laid.lines given
      laid.given in
      let wide : total (gap_of document.style) (edges_of document.style) placed.widths ≡ placed_width document.style (at i) =
      ap (total (gap_of document.style) (edges_of document.style)) by.2.wide in
      let high : total (row_gap_of document.style) (lines_of document.style (out-Table one)) placed.heights ≡ (at i).height =
      ap (λ (s : Spacing). total s.row_gap s.lines placed.heights) (sym made.spaced) ∙ sym placement.height ∙ by.2.high in
      subst (λ h. Fits one document.style (placed_width document.style (at i)) h layout) high
      (subst (λ w. Fits one document.style w (total (row_gap_of document.style) (lines_of document.style (out-Table one)) placed.heights) layout)
      wide fits)

-- ---- for a certificate

-- the layout that the sections of a document name fits its page, as high as the last of them
pub named_fits : (document : Document) → IsSound document.table → (budget : ℕ) (sections : List Section) →
    own_number document ≤ document.last →
    AreWhole document budget sections → (d : Section) (layout : Layout) → IsNamedBy document sections layout →
    Fits document.table document.style (placed_width document.style (get_or sections (length sections - 1) d))
    (get_or sections (length sections - 1) d).height
    layout
named_fits document sound budget sections some whole d layout named =
    let own = own_last document budget sections some whole in
    let n : own.n ≡ length sections - 1 = omega (arith, own.last) in
    laid_fits document sound budget sections whole.good d named.0 (length sections - 1) (omega (arith, own.last)) document.table
    (record { among = inl refl; numbered = sym (subst (λ k. (get_or sections k d).table ≡ own_number document) n (own.of d)) })
    layout named.1

module _ (below : LayoutsAreByLow) (above : LayoutsByHighFit) (table : Table) (style : Style) (page budget : ℕ)
    (certificate : Certificate)
    (height : ℕ) (layout : Layout) (sound : IsSound table) (document : Document) (of : IsDocumentOf table style page document)
    (named : IsNamedBy document certificate.sections layout) where
  by_sections : (claim : Claim) → AreWhole document budget certificate.sections → EndsWith claim certificate.sections →
      ((section : Section) → HasNumbers claim section → section.height ≡ height) → Fits table style page height layout
  by_sections claim whole with_numbers is =
      let sections = certificate.sections in
      let sound_document = subst IsSound (sym of.same) sound in
      let some : own_number document ≤ document.last = omega (arith, of.numbers) in
      let own = own_last document budget sections some whole in
      let n : own.n ≡ length sections - 1 = omega (arith, own.last) in
      let last : Section = get_or sections (length sections - 1) no_section in
      let inside : length sections - 1 < length sections = omega (arith, own.last) in
      let all = all_true below above document sound_document budget sections (length sections) (omega arith) whole.good in
      let told : IsTrue document last = subst (IsTrue document)
      (ap (λ xs. get_or xs (length sections - 1) no_section) (take_all (length sections) sections (omega arith)))
      (All-get_or (IsTrue document) (take (length sections) sections) (length sections - 1) no_section
      (omega (arith, inside, length-take (length sections) sections)) all) in
      let page_is : last.width ≡ page = subst (λ k. (get_or sections k no_section).width ≡ page) n
      (own.whole no_section ∙ of.wide) in
      let numbers : HasNumbers claim last = subst (λ k. HasNumbers claim (get_or sections k no_section)) n
      (ends claim sections own.n no_section own.last with_numbers) in
      let fits = named_fits document sound_document budget sections some whole no_section layout named in
      subst (λ t. Fits t style page height layout) of.same
      (subst (λ s. Fits document.table s page height layout) of.drawn
      (subst (λ h. Fits document.table document.style page h layout) (is last numbers)
      (Fits-wider document.style document.table (placed_width document.style last) page last.height layout
      (omega (arith, told.within, page_is)) fits)))

  by_claim : (claim : Claim) → IsShown document budget certificate claim → HasHeight claim height →
      Fits table style page height layout
  by_claim (Lowest most) shown has = by_sections (Lowest most) shown.0 shown.1 (λ section numbers. numbers.0 ∙ has)
  by_claim (Bounded most lower) shown has = by_sections (Bounded most lower) shown.0 shown.1 (λ section numbers. numbers.0 ∙ has)
  by_claim (Narrow least) shown has = absurd has

pub named_layout : LayoutsAreByLow → LayoutsByHighFit → NamedLayoutFits
named_layout below above table style page budget certificate height layout sound valid has named =
    let wide : certificate.width ≡ page = valid.2.claim.wide ∙ valid.1.wide in
    let same = one_document table style page named.0 valid.0 sound
    (subst (λ w. IsDocumentOf table style w named.0) wide named.1) valid.1 in
    by_claim below above table style page budget certificate height layout sound valid.0 valid.1
    (subst (λ document. IsNamedBy document certificate.sections layout) same named.2) certificate.claim valid.2.shown has
