-- A sound table that fits a page has a least height on it, and it can be found.
use Rattle.std.proofs.Common.{◌≡◌, ℕ, zero, suc, ◌+◌, ◌-◌, ◌<◌, ◌≤◌, ◌⊎◌, inl, inr, List, [], ◌∷◌, length, replicate, sum, refl, subst}
use Rattle.std.proofs.Common.{arith}
use Rattle.std.specs.List.{AllZip, AllByRecursion, flat_map}
use Rattle.std.proofs.lemmas.Bool.{cases_lt}
use Rattle.std.proofs.lemmas.List.{get_or-map, length-map, length-replicate}
use Rattle.std.proofs.lemmas.List.Elements.{recursion_from_All}
use Rattle.tl_base.specs.declared.style.Style.{Style}
use Rattle.tl_base.specs.Style.{gap_of, row_gap_of, edges_of}
use Rattle.tl_base.proofs.Members.{AllByRecursion-weaker}
use Rattle.tl_grid.specs.Dropping.{IsPlaced}
use Rattle.tl_base.specs.Sizes.{room, total}
use Rattle.tl_base.proofs.SizeLaws.{total-within}
use Rattle.tl_table.specs.declared.cell.Content.{Content, out-Content}
use Rattle.tl_table.specs.declared.cell.Content.TheOpen as open_content
use Rattle.tl_table.specs.declared.cell.Table.{Table, out-Table}
use Rattle.tl_table.specs.declared.cell.TableCell.{TableCell, out-TableCell}
use Rattle.tl_table.specs.declared.layout.Layout.{Layout, out-Layout, roll-Layout}
use Rattle.tl_table.specs.Tables.{OpenTable, OpenCell, OpenContent, inner_tables, tables_in, tables_of}
use Rattle.tl_table.specs.Layouts.{OpenLayout, Share, Fits, FitsBy, FitsCell, FitsRoom, FitsShare, FitsWithin, lines_of}
use Rattle.tl_table.specs.Least.{IsLeastHeight}
use Rattle.tl_form.specs.Problems.{BlockNeeds, CellNeeds, inside_of}
use Rattle.tl_table.specs.Sound.{IsSoundBy, IsSoundWithin, place_of}
use Rattle.tl_text.proofs.Minimals.{AllFit-from_cutting}
use Rattle.tl_form.proofs.CellNeedLemmas.{cell-functional}
use Rattle.tl_table.proofs.Deeper.{FitsBy-weaker}
use Rattle.tl_table.proofs.LeastWidths.{room-equal}
use Rattle.tl_form.proofs.ParagraphSteps.{fits-or-not, lines-from_fit}
use Rattle.tl_form.proofs.ProblemLayouts.{IsAboveAt, IsBelowAt, cell-above, cell-below}
use Rattle.tl_form.proofs.ProblemTruth.{cell-inside, least-functional}
use Rattle.tl_table.proofs.AnyDepth.{fits-rolled}
use Rattle.tl_form.proofs.Searches.{Decides, Found, decide-some}
use Rattle.tl_table.proofs.SoundParts.{each_joined}

module _ (style : Style) where
  abbrev Real : Table → ℕ → ℕ → Type 0
  Real nested = IsLeastHeight nested style

  abbrev Any : Table → ℕ → ℕ → Layout → Type 0
  Any nested w h layout = Fits nested style w h layout

  -- on each page the table has a least height, or no layout fits
  abbrev pub Settles : Table → Type 0
  Settles table = (w : ℕ) → ((h : ℕ) × IsLeastHeight table style w h) ⊎
      ((h : ℕ) (layout : Layout) → Fits table style w h layout → ⊥)

  -- ---- a cell, where its nested tables settle

  block-settles : (w : ℕ) (block : OpenContent) → AllByRecursion Settles (tables_of block) →
      ((h : ℕ) × BlockNeeds Real block w h) ⊎ ((share : Share) → FitsShare Any w block share → ⊥)
  block-settles w (open_content.Para paragraph) settle =
      elim (fits-or-not w paragraph) [
        | inl fit ↦ inl (lines-from_fit w paragraph fit)
        | inr not ↦ inr (λ share held. let cut = held.0 in not (AllFit-from_cutting w paragraph (cut.0, cut.1, cut.2)))
      ]
  block-settles w (open_content.Table box) settle =
      elim (settle.0 w) [
        | inl least ↦ inl least
        | inr none ↦ inr (λ share held. none held.height held.layout held.laid)
      ]

  blocks-settle : (w : ℕ) (blocks : List Content) → AllByRecursion
      (λ block. AllByRecursion Settles (tables_of (out-Content block))) blocks →
      ((heights : List ℕ) × AllZip (λ block height. BlockNeeds Real (out-Content block) w height) blocks heights)
      ⊎ ((shares : List Share) → AllZip (λ block share. FitsShare Any w (out-Content block) share) blocks shares → ⊥)
  blocks-settle w [] settle = inl ([], tt)
  blocks-settle w (block ∷ blocks) settle =
      elim (block-settles w (out-Content block) settle.0) [
        | inr none ↦ inr (none-first none)
        | inl first ↦ elim (blocks-settle w blocks settle.1) [
          | inr none ↦ inr (none-later none)
          | inl rest ↦ inl (first.0 ∷ rest.0, (first.1, rest.1))
        ]
      ]
    where
      none-first : ((share : Share) → FitsShare Any w (out-Content block) share → ⊥) → (shares : List Share) →
          AllZip (λ one share. FitsShare Any w (out-Content one) share) (block ∷ blocks) shares → ⊥
      none-first none [] held = absurd held
      none-first none (share ∷ shares) held = none share held.0

      none-later : ((shares : List Share) → AllZip (λ one share. FitsShare Any w (out-Content one) share) blocks shares → ⊥) →
          (shares : List Share) →
          AllZip (λ one share. FitsShare Any w (out-Content one) share) (block ∷ blocks) shares → ⊥
      none-later none [] held = absurd held
      none-later none (share ∷ shares) held = none shares held.1

  cell-settles : (w inside : ℕ) (cell : OpenCell) → AllByRecursion Settles (tables_in cell) →
      ((h : ℕ) × CellNeeds Real inside cell w h) ⊎ ((h : ℕ) (inner : List Layout) → FitsRoom Any w h cell inner → ⊥)
  cell-settles w inside cell settle =
      elim (cases_lt w cell.least) [
        | inl below ↦ inr (λ h inner held. omega (arith, held.floor, below))
        | inr floor ↦ elim (blocks-settle w cell.blocks (each_joined Settles (λ block. tables_of (out-Content block))
            cell.blocks settle)) [
              | inr none ↦ inr (λ h inner held. none held.shares held.blocks)
              | inl all ↦ inl (sum all.0 - inside, record { floor = floor; heights = all.0; blocks = all.1; all = refl })
            ]
      ]

  -- a cell that needs a height of its rows fits a room that is as high with the lines inside, and no lower one
  cell-fits : (w n h inside : ℕ) (cell : OpenCell) → CellNeeds Real inside cell w n → n + inside ≤ h →
      (inner : List Layout) × FitsRoom Any w h cell inner
  cell-fits w n h inside cell need enough =
      cell-above Any Real w inside cell n h
      (AllByRecursion-weaker (λ nested. (m : ℕ) × Real nested w m) (IsAboveAt Any Real w) (tables_in cell)
      (λ nested some m least. (m, least.attained.0, least.attained.1, omega arith)) (cell-inside Real w inside cell n need)) need enough

  cell-lower : (w n h inside : ℕ) (cell : OpenCell) (inner : List Layout) → CellNeeds Real inside cell w n →
      FitsRoom Any w h cell inner → n ≤ h - inside
  cell-lower w n h inside cell inner need held =
      let low = cell-below Any Real w inside cell h inner
      (AllByRecursion-weaker (λ nested. (m : ℕ) × Real nested w m) (IsBelowAt Any Real w) (tables_in cell)
      (λ nested some k layout fits. (some.0, some.1, some.1.least k layout fits)) (cell-inside Real w inside cell n need)) held in
      omega (arith, cell-functional Real (least-functional style) inside cell w n low.0 need low.1, low.2)

  -- ---- widths and heights of a table

  module _ (table : OpenTable) (settle : AllByRecursion (λ cell. AllByRecursion Settles (tables_in (out-TableCell cell)))
      table.cells)
      (placed : AllByRecursion (λ cell. IsPlaced table.cols table.rows (place_of cell)) table.cells) where
    abbrev room_for : List ℕ → TableCell → ℕ
    room_for widths cell = room (gap_of style) widths (place_of cell).left (place_of cell).right

    abbrev lines_for : List ℕ → TableCell → ℕ
    lines_for heights cell = room (row_gap_of style) heights (place_of cell).top (place_of cell).bottom

    -- what a cell needs of its rows
    abbrev Needs : TableCell → ℕ → ℕ → Type 0
    Needs cell = CellNeeds Real (inside_of style table cell) (out-TableCell cell)

    -- each cell needs some height at its room
    abbrev AllNeed : List ℕ → List TableCell → Type 0
    AllNeed widths cells = AllByRecursion (λ cell. (n : ℕ) × Needs cell (room_for widths cell) n) cells

    -- each cell needs no more than its room has
    abbrev AllHeld : List ℕ → List ℕ → List TableCell → Type 0
    AllHeld widths heights cells = AllByRecursion (λ cell. (n : ℕ) × Needs cell (room_for widths cell) n
        × (n ≤ lines_for heights cell)) cells

    decide-need : (widths : List ℕ) (cells : List TableCell) →
        AllByRecursion (λ cell. AllByRecursion Settles (tables_in (out-TableCell cell))) cells →
        Decides (AllNeed widths cells)
    decide-need widths [] each = inl tt
    decide-need widths (cell ∷ cells) each =
        elim (cell-settles (room_for widths cell) (inside_of style table cell) (out-TableCell cell) each.0) [
          | inr none ↦ inr (λ all.
              let high = all.0.0 + inside_of style table cell in
              let fits = cell-fits (room_for widths cell) all.0.0 high (inside_of style table cell) (out-TableCell cell) all.0.1
              (omega arith) in
              none high fits.0 fits.1)
          | inl need ↦ elim (decide-need widths cells each.1) [ inl rest ↦ inl (need, rest) | inr not ↦ inr (λ all. not all.1) ]
        ]

    decide-held : (widths heights : List ℕ) (cells : List TableCell) →
        AllByRecursion (λ cell. AllByRecursion Settles (tables_in (out-TableCell cell))) cells →
        Decides (AllHeld widths heights cells)
    decide-held widths heights [] each = inl tt
    decide-held widths heights (cell ∷ cells) each =
        elim (cell-settles (room_for widths cell) (inside_of style table cell) (out-TableCell cell) each.0) [
          | inr none ↦ inr (λ all.
              let high = all.0.0 + inside_of style table cell in
              let fits = cell-fits (room_for widths cell) all.0.0 high (inside_of style table cell) (out-TableCell cell) all.0.1
              (omega arith) in
              none high fits.0 fits.1)
          | inl need ↦ elim (cases_lt (lines_for heights cell) need.0) [
            | inl high ↦ inr (λ all.
                let same = cell-functional Real (least-functional style) (inside_of style table cell) (out-TableCell cell) (room_for widths cell)
                need.0 all.0.0 need.1 all.0.1 in
                omega (arith, same, all.0.2, high))
            | inr low ↦ elim (decide-held widths heights cells each.1) [
              | inl rest ↦ inl ((need.0, need.1, low), rest)
              | inr not ↦ inr (λ all. not all.1)
            ]
          ]
        ]

    -- ---- such sizes are those of layouts

    pub record IsGood (page : ℕ) (widths heights : List ℕ) : Type 0 where
      pub columns : length widths ≡ table.cols
      pub rows : length heights ≡ table.rows
      pub narrow : total (gap_of style) (edges_of style) widths ≤ page
      pub held : AllHeld widths heights table.cells

    parts-of : (widths heights : List ℕ) (cells : List TableCell) → AllHeld widths heights cells →
        (parts : List (List Layout)) × AllZip (λ cell inner. FitsRoom Any (room_for widths cell)
        (lines_for heights cell + inside_of style table cell) (out-TableCell cell) inner)
        cells parts
    parts-of widths heights [] held = ([], tt)
    parts-of widths heights (cell ∷ cells) held =
        let lines = inside_of style table cell in
        let first = cell-fits (room_for widths cell) held.0.0 (lines_for heights cell + lines) lines (out-TableCell cell) held.0.1
        (omega (arith, held.0.2)) in
        let rest = parts-of widths heights cells held.1 in
        (first.0 ∷ rest.0, (first.1, rest.1))

    good-fits : (page : ℕ) (widths heights : List ℕ) → IsGood page widths heights →
        (layout : OpenLayout) × FitsBy Any style table page (total (row_gap_of style) (lines_of style table) heights) layout
    good-fits page widths heights good =
        let parts = parts-of widths heights table.cells good.held in (
          record { widths = widths; heights = heights; inner = flat_map (λ inner. inner) parts.0 },
          record {
            columns = good.columns;
            rows = good.rows;
            within = good.narrow;
            high = refl;
            parts = parts.0;
            cells = parts.1;
            given = refl;
          },
        )

    held-by : (layout : OpenLayout) (cells : List TableCell) (parts : List (List Layout)) →
        AllByRecursion (λ cell. AllByRecursion Settles (tables_in (out-TableCell cell))) cells →
        AllZip (λ cell inner. FitsCell Any style table layout (out-TableCell cell) inner) cells parts →
        AllHeld layout.widths layout.heights cells
    held-by layout [] parts each fits = tt
    held-by layout (cell ∷ cells) [] each fits = absurd fits
    held-by layout (cell ∷ cells) (inner ∷ parts) each fits = (
      elim (cell-settles (room_for layout.widths cell) (inside_of style table cell) (out-TableCell cell) each.0) [
        | inr none ↦ absurd (none (lines_for layout.heights cell + inside_of style table cell) inner fits.0)
        | inl need ↦
            let lines = inside_of style table cell in
            let low = cell-lower (room_for layout.widths cell) need.0 (lines_for layout.heights cell + lines) lines
            (out-TableCell cell) inner need.1 fits.0 in
            (need.0, need.1, omega (arith, low))
      ],
      held-by layout cells parts each.1 fits.1,
    )

    fits-good : (page height : ℕ) (layout : OpenLayout) → FitsBy Any style table page height layout →
        IsGood page layout.widths layout.heights
    fits-good page height layout fits = record {
      columns = fits.columns;
      rows = fits.rows;
      narrow = fits.within;
      held = held-by layout table.cells fits.parts settle fits.cells;
    }

    -- ---- the least of them

    abbrev total_of : List ℕ → ℕ
    total_of heights = total (row_gap_of style) (lines_of style table) heights

    -- good sizes that are lower
    abbrev IsLower : ℕ → ℕ → List ℕ → List ℕ → Type 0
    IsLower page height widths heights = IsGood page widths heights × (total_of heights < height)

    decide-lower : (page height : ℕ) (widths heights : List ℕ) → Decides (IsLower page height widths heights)
    decide-lower page height widths heights =
        elim (decide-held widths heights table.cells settle) [
          | inr not ↦ inr (λ is. not is.0.held)
          | inl held ↦ elim (cases_lt (length widths) table.cols) [
            | inl few ↦ inr (λ is. omega (arith, is.0.columns, few))
            | inr enough ↦ elim (cases_lt table.cols (length widths)) [
              | inl many ↦ inr (λ is. omega (arith, is.0.columns, many))
              | inr columns ↦ elim (cases_lt (length heights) table.rows) [
                | inl few ↦ inr (λ is. omega (arith, is.0.rows, few))
                | inr some ↦ elim (cases_lt table.rows (length heights)) [
                  | inl many ↦ inr (λ is. omega (arith, is.0.rows, many))
                  | inr rows ↦ elim (cases_lt page (total (gap_of style) (edges_of style) widths)) [
                    | inl wide ↦ inr (λ is. omega (arith, is.0.narrow, wide))
                    | inr narrow ↦ elim (cases_lt (total_of heights) height) [
                      | inr high ↦ inr (λ is. omega (arith, is.1, high))
                      | inl low ↦ inl (
                        record {
                          columns = omega (arith, enough, columns);
                          rows = omega (arith, some, rows);
                          narrow =
                              narrow;
                          held = held;
                        },
                        low,
                      )
                    ]
                  ]
                ]
              ]
            ]
          ]
        ]

    some-lower : (page height : ℕ) →
        Decides (Found table.cols (λ widths. Found table.rows (λ heights. IsLower page height widths heights)))
    some-lower page height =
        decide-some table.cols page (λ widths. Found table.rows (λ heights. IsLower page height widths heights))
        (λ widths. decide-some table.rows height (λ heights. IsLower page height widths heights)
        (λ heights. decide-lower page height widths heights)
        (λ heights is. total-within (row_gap_of style) (lines_of style table) height heights (omega (arith, is.1))))
        (λ widths found. total-within (gap_of style) (edges_of style) page widths found.2.0.narrow)

    -- the least total height of good sizes
    pub record IsLeastGood (page : ℕ) : Type 0 where
      pub widths : List ℕ
      pub heights : List ℕ
      pub good : IsGood page widths heights
      pub least : (others more : List ℕ) → IsGood page others more → total_of heights ≤ total_of more

    lower-down : (fuel page : ℕ) (widths heights : List ℕ) → IsGood page widths heights → total_of heights ≤ fuel →
        IsLeastGood page
    lower-down zero page widths heights good small =
        record { widths = widths; heights = heights; good = good; least = λ others more is. omega (arith, small) }
    lower-down (suc fuel) page widths heights good small =
        elim (some-lower page (total_of heights)) [
          | inl found ↦
              let lower = found.2.2 in lower-down fuel page found.0 found.2.0 lower.0 (omega (arith, lower.1, small))
          | inr none ↦ record {
            widths = widths;
            heights = heights;
            good = good;
            least = λ others more is. elim (cases_lt (total_of more) (total_of heights)) [
              | inr no_lower ↦ no_lower
              | inl lower ↦ absurd (none (others, is.columns, (more, is.rows, (is, lower))))
            ];
          }
        ]

    -- ---- widths at which each cell has a height have rows that are high enough

    abbrev need-sum : (widths : List ℕ) (cells : List TableCell) → AllNeed widths cells → ℕ
    need-sum widths [] need = 0
    need-sum widths (cell ∷ cells) need = need.0.0 + need-sum widths cells need.1

    held-high : (widths : List ℕ) (high : ℕ) (cells : List TableCell) (need : AllNeed widths cells) →
        need-sum widths cells need ≤ high →
        AllByRecursion (λ cell. IsPlaced table.cols table.rows (place_of cell)) cells →
        AllHeld widths (replicate table.rows high) cells
    held-high widths high [] need enough at = tt
    held-high widths high (cell ∷ cells) need enough at = (
      (
        need.0.0,
        need.0.1,
        omega (
          arith,
          enough,
          room-equal (row_gap_of style) table.rows high (place_of cell).top (place_of cell).bottom at.0.2 at.0.3,
        ),
      ),
      held-high widths high cells need.1 (omega (arith, enough)) at.1,
    )

    abbrev IsWide : ℕ → List ℕ → Type 0
    IsWide page widths = (total (gap_of style) (edges_of style) widths ≤ page) × AllNeed widths table.cells

    some-wide : (page : ℕ) → Decides (Found table.cols (IsWide page))
    some-wide page =
        decide-some table.cols page (IsWide page)
        (λ widths. elim (cases_lt page (total (gap_of style) (edges_of style) widths)) [
          | inl wide ↦ inr (λ is. omega (arith, is.0, wide))
          | inr narrow ↦ elim (decide-need widths table.cells settle)
              [ inl need ↦ inl (narrow, need) | inr not ↦ inr (λ is. not is.1) ]
        ])
        (λ widths is. total-within (gap_of style) (edges_of style) page widths is.0)

    need-held : (widths heights : List ℕ) (cells : List TableCell) → AllHeld widths heights cells → AllNeed widths cells
    need-held widths heights [] held = tt
    need-held widths heights (cell ∷ cells) held = ((held.0.0, held.0.1), need-held widths heights cells held.1)

    -- good sizes, or none
    pub settled : (page : ℕ) → IsLeastGood page ⊎ ((height : ℕ) (layout : OpenLayout) →
        FitsBy Any style table page height layout → ⊥)
    settled page =
        elim (some-wide page) [
          | inr none ↦ inr (λ height layout fits.
              let good = fits-good page height layout fits in
              none (layout.widths, good.columns, (good.narrow, need-held layout.widths layout.heights table.cells good.held)))
          | inl found ↦
              let high = need-sum found.0 table.cells found.2.1 in
              let heights = replicate table.rows high in
              inl (lower-down (total_of heights) page found.0 heights (record {
                columns = found.1;
                rows = length-replicate table.rows high;
                narrow = found.2.0;
                held = held-high found.0 high table.cells found.2.1 (omega arith) placed;
              }) (omega arith))
        ]

  -- ---- one table, and all depths

  any-by : (depth : ℕ) (table : OpenTable) (width height : ℕ) (layout : OpenLayout) →
      FitsBy (FitsWithin depth style) style table width height layout →
      FitsBy Any style table width height layout
  any-by depth table width height layout fits =
      FitsBy-weaker (FitsWithin depth style) Any (λ nested w h one held. (depth, held)) style table width height layout fits

  table-settles : {sound : Table → Type 0} (table : Table) → IsSoundBy sound (out-Table table) →
      AllByRecursion Settles (inner_tables (out-Table table)) →
      Settles table
  table-settles table by settle page =
      elim (settled (out-Table table) each placed page) [
        | inl least ↦
            let fits = good-fits (out-Table table) each placed page least.widths least.heights least.good in
            inl (
              total (row_gap_of style) (lines_of style (out-Table table)) least.heights,
              record {
                attained = (
                  roll-Layout fits.0,
                  fits-rolled style table page (total (row_gap_of style) (lines_of style (out-Table table)) least.heights) fits.0 fits.1,
                );
                least = least-of least;
              },
            )
        | inr none ↦ inr (none-fits none)
      ]
    where
      each : AllByRecursion (λ cell. AllByRecursion Settles (tables_in (out-TableCell cell))) (out-Table table).cells
      each = each_joined Settles (λ cell. tables_in (out-TableCell cell)) (out-Table table).cells settle

      placed : AllByRecursion (λ cell. IsPlaced (out-Table table).cols (out-Table table).rows (place_of cell))
          (out-Table table).cells
      placed = recursion_from_All (λ cell. IsPlaced (out-Table table).cols (out-Table table).rows (place_of cell))
          (out-Table table).cells
          (λ k d within. subst (IsPlaced (out-Table table).cols (out-Table table).rows)
          (get_or-map place_of (out-Table table).cells k d (place_of d) within)
          (by.placed k (place_of d) (omega (arith, within, length-map (out-Table table).cells place_of))))

      least-of : (least : IsLeastGood (out-Table table) each placed page) → (other : ℕ) (layout : Layout) →
          Fits table style page other layout →
          total (row_gap_of style) (lines_of style (out-Table table)) least.heights ≤ other
      least-of least other layout (zero, held) = absurd held
      least-of least other layout (suc depth, held) =
          let good = fits-good (out-Table table) each placed page other (out-Layout layout)
          (any-by depth (out-Table table) page other (out-Layout layout) held) in
          omega (arith, least.least (out-Layout layout).widths (out-Layout layout).heights good, held.high)

      none-fits : ((height : ℕ) (layout : OpenLayout) → FitsBy Any style (out-Table table) page height layout → ⊥) →
          (h : ℕ) (layout : Layout) →
          Fits table style page h layout → ⊥
      none-fits none h layout (zero, held) = absurd held
      none-fits none h layout (suc depth, held) = none h (out-Layout layout)
          (any-by depth (out-Table table) page h (out-Layout layout) held)

  pub settles : (depth : ℕ) (table : Table) → IsSoundWithin depth table → Settles table
  settles zero table sound = absurd sound
  settles (suc depth) table sound =
      table-settles table sound
      (AllByRecursion-weaker (IsSoundWithin depth) Settles (inner_tables (out-Table table))
      (λ nested is. settles depth nested is) sound.inner)
