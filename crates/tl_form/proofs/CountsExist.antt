-- A sound table that fits a page has a true problem there, and a count, and so have the tables nested in it.
use Rattle.std.proofs.Common.{◌≡◌, ℕ, zero, suc, ◌+◌, ◌≤◌, ◌⊎◌, inl, inr, List, [], ◌∷◌, length, Contains, refl, sym, subst, arith}
use Rattle.std.specs.List.{AllZip, AllByRecursion}
use Rattle.std.proofs.lemmas.Bool.{cases_lt}
use Rattle.std.proofs.lemmas.List.{get_or-map, length-map}
use Rattle.std.proofs.lemmas.List.Elements.{recursion_from_All}
use Rattle.tl_base.specs.declared.style.Style.{Style}
use Rattle.tl_base.specs.Style.{gap_of, row_gap_of, edges_of}
use Rattle.tl_base.proofs.Members.{Contains-cases, Contains-first, Contains-later, Contains-none, AllByRecursion-weaker}
use Rattle.tl_grid.specs.Dropping.{IsPlaced}
use Rattle.tl_problem.specs.declared.cell.Cell.{Cell}
use Rattle.tl_base.specs.Sizes.{room, total}
use Rattle.tl_problem.specs.Problem.{ProblemModel}
use Rattle.tl_problem.specs.Spans.{count_of}
use Rattle.tl_base.proofs.SizeLaws.{room-total}
use Rattle.tl_table.specs.declared.cell.Table.{Table, out-Table}
use Rattle.tl_table.specs.declared.cell.TableCell.{TableCell, out-TableCell}
use Rattle.tl_table.specs.declared.layout.Layout.{Layout, out-Layout}
use Rattle.tl_table.specs.Tables.{OpenTable, OpenCell, inner_tables, tables_in, IsAmong}
use Rattle.tl_table.specs.Layouts.{OpenLayout, Fits, FitsBy, FitsCell, FitsRoom, FitsWithin, spacing_in}
use Rattle.tl_table.specs.Least.{IsLeastHeight}
use Rattle.tl_form.specs.Problems.{CellNeeds, IsCellBy, IsCount, IsCountAll, IsTrueProblem, inside_of}
use Rattle.tl_table.specs.Sound.{IsSoundBy, IsSoundWithin, place_of}
use Rattle.tl_table.proofs.Deeper.{FitsBy-weaker}
use Rattle.tl_form.proofs.LeastExists.{Settles, settles}
use Rattle.tl_form.proofs.ProblemLayouts.{IsBelowAt, cell-below}
use Rattle.tl_form.proofs.ProblemTruth.{cell-inside}
use Rattle.tl_form.proofs.Searches.{Decides, first-of}
use Rattle.tl_table.proofs.SoundParts.{both_each, each_joined, joined-each}
use Rattle.tl_table.proofs.FewCells.{among-from, among-to}
use Rattle.tl_form.proofs.StepsExist.{HasStart, cell-begins, cell-steps}
use Rattle.tl_form.proofs.Truth.{Fits-wider}

module _ (style : Style) where
  abbrev Real : Table → ℕ → ℕ → Type 0
  Real nested = IsLeastHeight nested style

  abbrev Any : Table → ℕ → ℕ → Layout → Type 0
  Any nested w h layout = Fits nested style w h layout

  -- ---- the least heights of a table begin at a width, and fall

  has-start : (table : Table) → Settles style table → (w m : ℕ) → Real table w m → HasStart Real table
  has-start table settle w m least =
      let first = first-of (λ v. (h : ℕ) × Real table v h) decide w (m, least) in record {
        start = first.0;
        begins = record {
          from = λ v h real. elim (cases_lt v first.0) [ inl before ↦ absurd (first.2 v (h, real) before) | inr after ↦ after ];
          has = λ v wide. elim (settle v) [
            | inl here ↦ here
            | inr none ↦
                let at = first.1.1.attained in
                absurd (none first.1.0 at.0 (Fits-wider style table first.0 v first.1.0 at.0 wide at.1))
          ];
        };
        falls = λ v u k n wider one other.
            other.least k one.attained.0 (Fits-wider style table v u k one.attained.0 wider one.attained.1);
      }
    where
      decide : (v : ℕ) → Decides ((h : ℕ) × Real table v h)
      decide v = elim (settle v) [
        | inl here ↦ inl here
        | inr none ↦ inr
            (λ some. none some.0 some.1.attained.0 some.1.attained.1)
      ]

  -- ---- the cells of a layout that fits need heights at their rooms

  -- a width up to the page's at which the cell needs some height
  pub record NeedsWithin (page inside : ℕ) (cell : OpenCell) : Type 0 where
    pub w : ℕ
    pub n : ℕ
    pub within : w ≤ page
    pub need : CellNeeds Real inside cell w n

  cell-needs : (w h inside : ℕ) (cell : OpenCell) (inner : List Layout) → AllByRecursion (Settles style) (tables_in cell) →
      FitsRoom Any w h cell inner →
      (n : ℕ) × CellNeeds Real inside cell w n
  cell-needs w h inside cell inner settle held =
      let low = cell-below Any Real w inside cell h inner
      (AllByRecursion-weaker (Settles style) (IsBelowAt Any Real w) (tables_in cell)
      (λ nested one k layout fits. elim (one w) [
        | inl least ↦ (least.0, least.1, least.1.least k layout fits)
        | inr none ↦ absurd (none k layout fits)
      ]) settle) held in
      (low.0, low.1)

  cells-need : (page : ℕ) (table : OpenTable) (layout : OpenLayout) → length layout.widths ≡ table.cols →
      total (gap_of style) (edges_of style) layout.widths ≤ page → (cells : List TableCell) (parts : List (List Layout)) →
      AllByRecursion (λ cell. AllByRecursion (Settles style) (tables_in (out-TableCell cell))) cells →
      AllByRecursion (λ cell. IsPlaced table.cols table.rows (place_of cell)) cells →
      AllZip (λ cell inner. FitsCell Any style table layout (out-TableCell cell) inner) cells parts →
      AllByRecursion (λ cell. NeedsWithin page (inside_of style table cell) (out-TableCell cell)) cells
  cells-need page table layout columns narrow [] parts settle placed held = tt
  cells-need page table layout columns narrow (cell ∷ cells) [] settle placed held = absurd held
  cells-need page table layout columns narrow (cell ∷ cells) (inner ∷ parts) settle placed held =
      let w = room (gap_of style) layout.widths (place_of cell).left (place_of cell).right in
      let lines = inside_of style table cell in
      let h = room (row_gap_of style) layout.heights (place_of cell).top (place_of cell).bottom + lines in
      let need = cell-needs w h lines (out-TableCell cell) inner settle.0 held.0 in (
        record {
          w = w;
          n = need.0;
          within =
              omega (
                arith,
                room-total (gap_of style) (edges_of style) layout.widths (place_of cell).left (place_of cell).right placed.0.0
                    (omega (arith, placed.0.1, columns)),
                narrow,
              );
          need = need.1;
        },
        cells-need page table layout columns narrow cells parts settle.1 placed.1 held.1,
      )

  -- ---- the true problem

  module _ (page : ℕ) where
    -- each cell, with so many lines inside, needs some height within the page
    abbrev EachNeeds : (TableCell → ℕ) → List TableCell → Type 0
    EachNeeds inside cells = AllByRecursion (λ cell. NeedsWithin page (inside cell) (out-TableCell cell)) cells

    cell-starts : (inside : ℕ) (cell : OpenCell) → AllByRecursion (Settles style) (tables_in cell) → NeedsWithin page inside cell →
        AllByRecursion (HasStart Real) (tables_in cell)
    cell-starts inside cell settle some =
        AllByRecursion-weaker (λ nested. Settles style nested × ((m : ℕ) × Real nested some.w m)) (HasStart Real) (tables_in cell)
        (λ nested both. has-start nested both.0 some.w both.1.0 both.1.1)
        (both_each (Settles style) (λ nested. (m : ℕ) × Real nested some.w m) (tables_in cell) settle
        (cell-inside Real some.w inside cell some.n some.need))

    true-cells : (inside : TableCell → ℕ) (cells : List TableCell) →
        AllByRecursion (λ cell. AllByRecursion (Settles style) (tables_in (out-TableCell cell))) cells →
        EachNeeds inside cells →
        (made : List Cell) × AllZip (λ cell made. IsCellBy Real Real page (inside cell) (out-TableCell cell) made) cells made
    true-cells inside [] settle some = ([], tt)
    true-cells inside (cell ∷ cells) settle some =
        let have = cell-starts (inside cell) (out-TableCell cell) settle.0 some.0 in
        let begins = cell-begins Real (inside cell) (out-TableCell cell) have in
        let steps = cell-steps Real (inside cell) (out-TableCell cell) have page
        (omega (arith, begins.1.from some.0.w some.0.n some.0.need, some.0.within)) in
        let place = place_of cell in
        let rest = true-cells inside cells settle.1 some.1 in (
          record {
            left = place.left;
            right = place.right;
            top = place.top;
            bottom = place.bottom;
            low = steps.0;
            high =
                steps.0;
          } ∷ rest.0,
          (record { left = refl; right = refl; top = refl; bottom = refl; low = steps.1; high = steps.1 }, rest.1),
        )

    -- each table in the cells fits the page
    inner-fit : (inside : TableCell → ℕ) (cells : List TableCell) → EachNeeds inside cells →
        AllByRecursion (λ cell. AllByRecursion (λ nested. (h : ℕ) × (layout : Layout) × Fits nested style page h layout)
        (tables_in (out-TableCell cell))) cells
    inner-fit inside [] some = tt
    inner-fit inside (cell ∷ cells) some = (
      AllByRecursion-weaker (λ nested. (m : ℕ) × Real nested some.0.w m)
          (λ nested. (h : ℕ) × (layout : Layout) × Fits nested style page h layout)
          (tables_in (out-TableCell cell))
          (λ nested least.
          let at = least.1.attained in
          (least.0, at.0, Fits-wider style nested some.0.w page least.0 at.0 some.0.within at.1))
          (cell-inside Real some.0.w (inside cell) (out-TableCell cell) some.0.n some.0.need),
      inner-fit inside cells some.1,
    )

    -- ---- one table that fits

    module _ {sound : Table → Type 0} (table : Table) (by : IsSoundBy sound (out-Table table))
        (settle : AllByRecursion (Settles style) (inner_tables (out-Table table))) (height depth : ℕ) (layout : Layout)
        (held : FitsBy (FitsWithin depth style) style (out-Table table) page height (out-Layout layout)) where
      each : AllByRecursion (λ cell. AllByRecursion (Settles style) (tables_in (out-TableCell cell))) (out-Table table).cells
      each = each_joined (Settles style) (λ cell. tables_in (out-TableCell cell)) (out-Table table).cells settle

      needs : EachNeeds (inside_of style (out-Table table)) (out-Table table).cells
      needs =
          let fits = FitsBy-weaker (FitsWithin depth style) Any (λ nested w h one is. (depth, is)) style (out-Table table)
          page height
          (out-Layout layout) held in
          cells-need page (out-Table table) (out-Layout layout) fits.columns fits.within (out-Table table).cells fits.parts each
          (recursion_from_All (λ cell. IsPlaced (out-Table table).cols (out-Table table).rows (place_of cell))
          (out-Table table).cells
          (λ k d within. subst (IsPlaced (out-Table table).cols (out-Table table).rows)
          (get_or-map place_of (out-Table table).cells k d (place_of d) within)
          (by.placed k (place_of d) (omega (arith, within, length-map (out-Table table).cells place_of))))) fits.cells

      pub true-problem : (problem : ProblemModel) × IsTrueProblem table style page problem
      true-problem =
          let made = true-cells (inside_of style (out-Table table)) (out-Table table).cells each needs in (
            record { cols = (out-Table table).cols; rows = (out-Table table).rows; spacing = spacing_in style (out-Table table); width = page; cells = made.0 },
            record { columns = refl; lines = refl; spaced = refl; wide = refl; made = made.1 },
          )

      pub inner-fits : AllByRecursion (λ nested. (h : ℕ) × (one : Layout) × Fits nested style page h one)
          (inner_tables (out-Table table))
      inner-fits =
          joined-each (λ nested. (h : ℕ) × (one : Layout) × Fits nested style page h one)
          (λ cell. tables_in (out-TableCell cell)) (out-Table table).cells
          (inner-fit (inside_of style (out-Table table)) (out-Table table).cells needs)

    -- ---- the greatest count of some tables

    record MostOf (P : Table → Type 0) (most : ℕ) : Type 0 where
      attained : (inside : Table) × P inside × IsCount inside style page most
      never_more : (inside : Table) → P inside → (count : ℕ) × IsCount inside style page count × (count ≤ most)

    most-same : (P Q : Table → Type 0) (most : ℕ) → ((inside : Table) → P inside → Q inside) →
        ((inside : Table) → Q inside → P inside) → MostOf P most →
        MostOf Q most
    most-same P Q most there back is = record {
      attained = (is.attained.0, there is.attained.0 is.attained.1, is.attained.2);
      never_more = λ inside one. is.never_more inside (back inside one);
    }

    most-both : (P Q : Table → Type 0) (m n : ℕ) → MostOf P m → MostOf Q n →
        (most : ℕ) × MostOf (λ inside. P inside ⊎ Q inside) most
    most-both P Q m n first second =
        elim (cases_lt m n) [
          | inl less ↦ (
            n,
            record {
              attained = (second.attained.0, inr second.attained.1, second.attained.2);
              never_more = λ inside one. elim one [
                | inl left ↦ let some = first.never_more inside left in (some.0, some.1, omega (arith, some.2, less))
                | inr right ↦ second.never_more inside right
              ];
            },
          )
          | inr more ↦ (
            m,
            record {
              attained = (first.attained.0, inl first.attained.1, first.attained.2);
              never_more = λ inside one. elim one [
                | inl left ↦ first.never_more inside left
                | inr right ↦ let some = second.never_more inside right in (some.0, some.1, omega (arith, some.2, more))
              ];
            },
          )
        ]

    -- it is among some of the tables
    abbrev AmongOf : List Table → Table → Type 0
    AmongOf tables inside = (nested : Table) × Contains tables nested × IsAmong nested inside

    most-all : (P : Table → Type 0) (most : ℕ) (tables : List Table) →
        AllByRecursion (λ nested. (m : ℕ) × IsCountAll nested style page m) tables →
        MostOf P most → (more : ℕ) × MostOf (λ inside. P inside ⊎ AmongOf tables inside) more
    most-all P most [] those is = (
      most,
      most-same P (λ inside. P inside ⊎ AmongOf [] inside) most (λ inside one. inl one)
          (λ inside one. elim one [ inl left ↦ left | inr none ↦ absurd (Contains-none none.0 none.1) ]) is,
    )
    most-all P most (nested ∷ tables) those is =
        let one : MostOf (IsAmong nested) those.0.0 = record {
          attained = those.0.1.attained;
          never_more =
              those.0.1.never_more;
        } in
        let both = most-both P (IsAmong nested) most those.0.0 is one in
        let all = most-all (λ inside. P inside ⊎ IsAmong nested inside) both.0 tables those.1 both.1 in (
          all.0,
          most-same (λ inside. (P inside ⊎ IsAmong nested inside) ⊎ AmongOf tables inside)
              (λ inside. P inside ⊎ AmongOf (nested ∷ tables) inside) all.0
              (λ inside some. elim some [
                | inl before ↦ elim before [ inl left ↦ inl left | inr here ↦ inr (nested, Contains-first nested tables, here) ]
                | inr later ↦ inr (later.0, Contains-later nested tables later.0 later.1, later.2)
              ])
              (λ inside some. elim some [
                | inl left ↦ inl (inl left)
                | inr among ↦ elim (Contains-cases nested tables among.0 among.1) [
                  | inl here ↦ inl (inr (subst (λ (any : Table). IsAmong any inside) (sym here) among.2))
                  | inr later ↦ inr (among.0, later, among.2)
                ]
              ]) all.1,
        )

    count-all : (table : Table) (count : ℕ) → IsCount table style page count →
        AllByRecursion (λ nested. (m : ℕ) × IsCountAll nested style page m) (inner_tables (out-Table table)) →
        (most : ℕ) × IsCountAll table style page most
    count-all table count is each =
        let own : MostOf (λ inside. table ≡ inside) count = record {
          attained = (table, refl, is);
          never_more = λ inside same. (count, subst (λ (any : Table). IsCount any style page count) same is, omega arith);
        } in
        let all = most-all (λ inside. table ≡ inside) count (inner_tables (out-Table table)) each own in
        let whole = most-same (λ inside. (table ≡ inside) ⊎ AmongOf (inner_tables (out-Table table)) inside) (IsAmong table)
        all.0 (λ inside one. elim one [
          | inl same ↦ inl same
          | inr deeper ↦ among-from table deeper.0 inside deeper.1 deeper.2
        ])
        (among-to table) all.1 in
        (all.0, record { attained = whole.attained; never_more = whole.never_more })

    -- ---- all depths

    pub counts : (depth : ℕ) (table : Table) → IsSoundWithin depth table → (height : ℕ) (layout : Layout) →
        Fits table style page height layout →
        (most : ℕ) × IsCountAll table style page most
    counts zero table sound height layout fits = absurd sound
    counts (suc depth) table sound height layout (zero, held) = absurd held
    counts (suc depth) table sound height layout (suc within, held) =
        let settle = AllByRecursion-weaker (IsSoundWithin depth) (Settles style) (inner_tables (out-Table table))
        (λ nested is. settles style depth nested is)
        sound.inner in
        let own = true-problem table sound settle height within layout held in
        count-all table (count_of own.0) (own.0, own.1, refl)
        (AllByRecursion-weaker (λ nested. IsSoundWithin depth nested × ((h : ℕ) × (one : Layout) × Fits nested style page h one))
        (λ nested. (m : ℕ) × IsCountAll nested style page m) (inner_tables (out-Table table))
        (λ nested both. counts depth nested both.0 both.1.0 both.1.1 both.1.2)
        (both_each (IsSoundWithin depth) (λ nested. (h : ℕ) × (one : Layout) × Fits nested style page h one)
        (inner_tables (out-Table table)) sound.inner
        (inner-fits table sound settle height within layout held)))

    pub problems : (depth : ℕ) (table : Table) → IsSoundWithin depth table → (height : ℕ) (layout : Layout) →
        Fits table style page height layout →
        (problem : ProblemModel) × IsTrueProblem table style page problem
    problems zero table sound height layout fits = absurd sound
    problems (suc depth) table sound height layout (zero, held) = absurd held
    problems (suc depth) table sound height layout (suc within, held) =
        true-problem table sound
        (AllByRecursion-weaker (IsSoundWithin depth) (Settles style) (inner_tables (out-Table table))
        (λ nested is. settles style depth nested is) sound.inner)
        height within layout held
