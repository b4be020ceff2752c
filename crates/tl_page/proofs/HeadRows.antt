-- The rows after which a line of its own stands: how many there are in a table, and inside a place of it.
use Rattle.std.proofs.Common.{◌≡◌, ℕ, ◌+◌, ◌-◌, ◌*◌, ◌<◌, ◌≤◌, inl, inr, Bool, true, false, ◌&&◌, nat_le, nat_lt, if◌then◌else◌}
use Rattle.std.proofs.Common.{is_some, Option, Some, None, map, refl, sym, ap, arith, tests}
use Rattle.std.proofs.lemmas.Bool.{cases_lt, le-leb, lt-ltb, le-ltb}
use Rattle.std.proofs.lemmas.Option.{none-some, same_Some}
use Rattle.tl_base.specs.declared.style.Style.{Style}
use Rattle.tl_base.specs.declared.style.Style.TheVariants.{Plain, Compact, Frame, Grid, Box, Rule, Apart}
use Rattle.tl_base.specs.Style.{edge_of}
use Rattle.tl_grid.specs.declared.shape.Place.{Place}
use Rattle.tl_table.specs.declared.cell.TableCell.{out-TableCell}
use Rattle.tl_table.specs.Heads.{caption_rows_of, end_of_head, head_row}
use Rattle.tl_table.specs.Layouts.{lines_inside, lines_of}
use Rattle.tl_table.specs.Tables.{OpenTable}
use Rattle.tl_page.specs.declared.strip.Lined.{Lined}
use Rattle.tl_page.specs.declared.strip.Lined.TheVariants.{No, After, From}
use Rattle.tl_page.specs.Pages.{grid_of}
use Rattle.tl_page.specs.Pictures.{lined_rows, row_gaps}
use Rattle.tl_page.specs.Strips.{lines_after}
use Rattle.tl_page.proofs.StripLemmas.{lines_from, lines-each, lines-first, lines-more, lines-no, lines-one}

-- the last row of the head ends where the head does, and another one is below it
row_of_head : (table : OpenTable) (row : ℕ) → head_row table ≡ Some row →
    (0 < row) × (row < table.rows) × (row ≡ end_of_head table)
row_of_head table row is = found (nat_lt (caption_rows_of (map out-TableCell table.cells)) end && nat_lt end table.rows) refl is where
  end : ℕ
  end = end_of_head table

  found : (drawn : Bool) → nat_lt (caption_rows_of (map out-TableCell table.cells)) end && nat_lt end table.rows ≡ drawn →
      (if drawn then Some end else None) ≡ Some row → (0 < row) × (row < table.rows) × (row ≡ end)
  found false test some = absurd (none-some row some)
  found true test some =
      let same : end ≡ row = same_Some end row some in
      let ahead : caption_rows_of (map out-TableCell table.cells) < end = grind (arith, tests) in
      let within : end < table.rows = grind (arith, tests) in
      (omega (arith, same, ahead), omega (arith, same, within), sym same)

-- the rows of the table after which a line of its own stands
abbrev rows_lined : Style → OpenTable → Lined
rows_lined style table = (row_gaps style (grid_of table)).lined

-- the lines beside those of the rows and of the gaps between any two are those of the edges and those of their own
pub lines_beside : (style : Style) (table : OpenTable) (rows : ℕ) → rows ≡ table.rows →
    2 * edge_of style + lines_from (rows_lined style table) 1 (rows - 1) ≡ lines_of style table
lines_beside Plain table rows same = omega (arith, lines-first No (rows - 1), lines-no (rows - 1))
lines_beside Compact table rows same = omega (arith, lines-first No (rows - 1), lines-no (rows - 1))
lines_beside Frame table rows same = omega (arith, lines-first No (rows - 1), lines-no (rows - 1))
lines_beside Grid table rows same = omega (arith, lines-first No (rows - 1), lines-no (rows - 1))
lines_beside Box table rows same = omega (arith, lines-first No (rows - 1), lines-no (rows - 1))
lines_beside Rule table rows same = of_head (head_row table) (λ row is. row_of_head table row is) where
  of_head : (head : Option ℕ) → ((row : ℕ) → head ≡ Some row → (0 < row) × (row < table.rows) × (row ≡ end_of_head table)) →
      2 * 0 + lines_from (lined_rows Rule head (end_of_head table)) 1 (rows - 1) ≡ (if is_some head then 1 else 0)
  of_head None lies = omega (arith, lines-first No (rows - 1), lines-no (rows - 1))
  of_head (Some row) lies =
      let is = lies row refl in
      let here : nat_le row (rows - 1) ≡ true = le-leb row (rows - 1) (omega (arith, is.1, same)) in
      omega (
        arith,
        lines-first (After row) (rows - 1),
        lines-one row (rows - 1) is.0,
        ap {B = ℕ} (λ (t : Bool). if t then 1 else 0) here,
      )
lines_beside Apart table rows same = of_head (head_row table) (λ row is. row_of_head table row is) where
  of_head : (head : Option ℕ) → ((row : ℕ) → head ≡ Some row → (0 < row) × (row < table.rows) × (row ≡ end_of_head table)) →
      2 * 0 + lines_from (lined_rows Apart head (end_of_head table)) 1 (rows - 1)
      ≡ (if is_some head then 1 else 0) + (table.rows - end_of_head table - 1)
  of_head None lies =
      let first = end_of_head table + 1 in
      omega (arith, lines-first (From first) (rows - 1), lines-each first (rows - 1) (omega arith), same)
  of_head (Some row) lies =
      let is = lies row refl in
      omega (arith, lines-first (From row) (rows - 1), lines-each row (rows - 1) is.0, is.0, is.1, is.2, same)

-- the lines inside a place, after those above it, are no more than those after all its rows but the last
pub lines_within : (style : Style) (table : OpenTable) (place : Place) → place.top < place.bottom →
    lines_after (rows_lined style table) place.top + lines_inside style table place
    ≤ lines_after (rows_lined style table) (place.bottom - 1)
lines_within Plain table place ahead = omega (arith, lines-no place.top)
lines_within Compact table place ahead = omega (arith, lines-no place.top)
lines_within Frame table place ahead = omega (arith, lines-no place.top)
lines_within Grid table place ahead = omega (arith, lines-no place.top)
lines_within Box table place ahead = omega (arith, lines-no place.top)
lines_within Rule table place ahead =
    omega (arith, lines-more (rows_lined Rule table) place.top (place.bottom - 1) (omega (arith, ahead)))
lines_within Apart table place ahead = of_head (head_row table) (λ row is. row_of_head table row is) where
  below : (first : ℕ) → 0 < first → first ≤ end_of_head table + 1 →
      lines_after (From first) place.top + lines_inside Apart table place ≤ lines_after (From first) (place.bottom - 1)
  below first some near = elim (cases_lt place.top (end_of_head table)) [
    | inl above ↦
        let none = ap {B = ℕ} (λ (t : Bool). if t then 0 else place.bottom - place.top - 1) (lt-ltb place.top (end_of_head table) above) in
        omega (arith, none, lines-more (From first) place.top (place.bottom - 1) (omega (arith, ahead)))
    | inr under ↦
        let all = ap {B = ℕ} (λ (t : Bool). if t then 0 else place.bottom - place.top - 1) (le-ltb place.top (end_of_head table) under) in
        omega (
          arith,
          all,
          under,
          near,
          ahead,
          lines-each first place.top some,
          lines-each first (place.bottom - 1) some,
        )
  ]

  of_head : (head : Option ℕ) → ((row : ℕ) → head ≡ Some row → (0 < row) × (row < table.rows) × (row ≡ end_of_head table)) →
      lines_after (lined_rows Apart head (end_of_head table)) place.top + lines_inside Apart table place
      ≤ lines_after (lined_rows Apart head (end_of_head table)) (place.bottom - 1)
  of_head None lies = below (end_of_head table + 1) (omega arith) (omega arith)
  of_head (Some row) lies = let is = lies row refl in below row is.0 (omega (arith, is.2))

-- no more lines stand inside a place of the table than beside all its rows
pub lines_inside-few : (style : Style) (table : OpenTable) (place : Place) → place.top < place.bottom → place.bottom ≤ table.rows →
    lines_inside style table place ≤ lines_of style table
lines_inside-few style table place ahead within =
    let lined = rows_lined style table in
    omega (
      arith,
      lines_within style table place ahead,
      lines-more lined (place.bottom - 1) (table.rows - 1) (omega (arith, within)),
      lines-first lined (table.rows - 1),
      lines_beside style table table.rows refl,
    )
