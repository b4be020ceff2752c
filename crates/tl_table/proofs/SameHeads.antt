-- Two tables that are the same have their heads in the same rows, and as many lines beside their rows.
use Rattle.std.proofs.Common.{◌≡◌, ◌∙◌, ℕ, zero, suc, ◌+◌, ◌-◌, Bool, ◌&&◌, ◌||◌, nat_le, nat_lt, ◌≤◌, if◌then◌else◌, List, [], ◌∷◌, map}
use Rattle.std.proofs.Common.{Option, Some, None, is_some, refl, ap, ap₂, arith}
use Rattle.std.proofs.lemmas.Bool.{cond_both}
use Rattle.std.specs.List.{AllZip, list_all, list_any}
use Rattle.tl_base.specs.declared.style.Style.{Style}
use Rattle.tl_base.specs.declared.style.Style.TheVariants.{Plain, Compact, Frame, Grid, Box, Rule, Apart}
use Rattle.tl_grid.specs.declared.shape.Place.{Place}
use Rattle.tl_table.specs.declared.cell.Kind.{Kind}
use Rattle.tl_table.specs.declared.cell.Table.{Table}
use Rattle.tl_table.specs.declared.cell.TableCell.{TableCell, out-TableCell}
use Rattle.tl_table.specs.Heads.{is_caption, is_header, stands_with, is_run, run_end, caption_rows_of, head_end_of, head_row_of}
use Rattle.tl_table.specs.Heads.{end_of_head, head_row}
use Rattle.tl_table.specs.Layouts.{lines_inside, lines_of}
use Rattle.tl_table.specs.Same.{AreSame, AreSameCell, AreSameBy}
use Rattle.tl_table.specs.Tables.{OpenCell, OpenTable}

abbrev Twins : TableCell → TableCell → Type 0
Twins cell twin = AreSameCell AreSame (out-TableCell cell) (out-TableCell twin)

-- a cell and its twin stand with the same runs, whichever of the two tests is asked
grouped_same : (end : ℕ) (a b : OpenCell) → AreSameCell AreSame a b →
    stands_with (λ cell. cell.in_head) end a ≡ stands_with (λ cell. cell.in_head) end b
grouped_same end a b is =
    ap (λ (place : Place). nat_le end place.top || (nat_le place.bottom end && (is_caption a.kind || a.in_head))) is.place
    ∙ ap (λ (kind : Kind). nat_le end b.place.top || (nat_le b.place.bottom end && (is_caption kind || a.in_head))) is.kind
    ∙ ap (λ in_head. nat_le end b.place.top || (nat_le b.place.bottom end && (is_caption b.kind || in_head))) is.in_head

header_same : (end : ℕ) (a b : OpenCell) → AreSameCell AreSame a b →
    stands_with (λ cell. is_header cell.kind) end a ≡ stands_with (λ cell. is_header cell.kind) end b
header_same end a b is =
    ap (λ (place : Place). nat_le end place.top || (nat_le place.bottom end && (is_caption a.kind || is_header a.kind))) is.place
    ∙ ap (λ (kind : Kind). nat_le end b.place.top || (nat_le b.place.bottom end && (is_caption kind || is_header kind))) is.kind

module _ (passes : OpenCell → Bool)
    (same : (end : ℕ) (a b : OpenCell) → AreSameCell AreSame a b → stands_with passes end a ≡ stands_with passes end b) where
  runs_same : (end : ℕ) (cells twins : List TableCell) → AllZip Twins cells twins →
      is_run passes (map out-TableCell cells) end ≡ is_run passes (map out-TableCell twins) end
  runs_same end [] [] all = refl
  runs_same end [] (twin ∷ twins) all = absurd all
  runs_same end (cell ∷ cells) [] all = absurd all
  runs_same end (cell ∷ cells) (twin ∷ twins) all =
      ap₂ (λ first rest. first && rest) (same end (out-TableCell cell) (out-TableCell twin) all.0)
      (runs_same end cells twins all.1)

  ends_same : (rows : ℕ) (cells twins : List TableCell) → AllZip Twins cells twins →
      run_end passes (map out-TableCell cells) rows ≡ run_end passes (map out-TableCell twins) rows
  ends_same zero cells twins all = refl
  ends_same (suc rows) cells twins all =
      ap₂ (λ (is : Bool) (end : ℕ). if is then suc rows else end) (runs_same (suc rows) cells twins all)
      (ends_same rows cells twins all)

captions_same : (cells twins : List TableCell) → AllZip Twins cells twins →
    list_any (λ cell. is_caption cell.kind) (map out-TableCell cells)
    ≡ list_any (λ cell. is_caption cell.kind) (map out-TableCell twins)
captions_same [] [] all = refl
captions_same [] (twin ∷ twins) all = absurd all
captions_same (cell ∷ cells) [] all = absurd all
captions_same (cell ∷ cells) (twin ∷ twins) all =
    ap₂ (λ first rest. first || rest) (ap is_caption all.0.kind) (captions_same cells twins all.1)

-- the head ends at the same row
end_same : (rows : ℕ) (cells twins : List TableCell) → AllZip Twins cells twins →
    head_end_of (map out-TableCell cells) rows ≡ head_end_of (map out-TableCell twins) rows
end_same rows cells twins all =
    ap (λ n. if nat_lt n (run_end (λ cell. cell.in_head) (map out-TableCell cells) rows)
    then run_end (λ cell. cell.in_head) (map out-TableCell cells) rows
    else run_end (λ cell. is_header cell.kind) (map out-TableCell cells) rows)
    (ap (λ (is : Bool). if is then 1 else 0) (captions_same cells twins all))
    ∙ ap₂ (λ (grouped headed : ℕ). if nat_lt (caption_rows_of (map out-TableCell twins)) grouped then grouped else headed)
    (ends_same (λ cell. cell.in_head) grouped_same rows cells twins all)
    (ends_same (λ cell. is_header cell.kind) header_same rows cells twins all)

-- the last row of the head is the same
row_same : (rows : ℕ) (cells twins : List TableCell) → AllZip Twins cells twins →
    head_row_of (map out-TableCell cells) rows ≡ head_row_of (map out-TableCell twins) rows
row_same rows cells twins all =
    ap₂ (λ (n end : ℕ). if nat_lt n end && nat_lt end rows then Some end else None)
    (ap (λ (is : Bool). if is then 1 else 0) (captions_same cells twins all)) (end_same rows cells twins all)

module _ (one other : OpenTable) (is : AreSameBy AreSame one other) where
  ends : end_of_head one ≡ end_of_head other
  ends = end_same one.rows one.cells other.cells is.cells ∙ ap (head_end_of (map out-TableCell other.cells)) is.rows

  rows : head_row one ≡ head_row other
  rows = row_same one.rows one.cells other.cells is.cells ∙ ap (head_row_of (map out-TableCell other.cells)) is.rows

  -- as many lines stand beside the rows
  pub lines_same : (style : Style) → lines_of style one ≡ lines_of style other
  lines_same Plain = refl
  lines_same Compact = refl
  lines_same Frame = refl
  lines_same Grid = refl
  lines_same Box = refl
  lines_same Rule = ap (λ (row : Option ℕ). if is_some row then 1 else 0) rows
  lines_same Apart =
      ap₂ (λ (row : Option ℕ) (n : ℕ). (if is_some row then 1 else 0) + (n - end_of_head one - 1)) rows is.rows
      ∙ ap (λ (end : ℕ). (if is_some (head_row other) then 1 else 0) + (other.rows - end - 1)) ends

  -- as many lie inside a place
  pub inside_same : (style : Style) (place : Place) → lines_inside style one place ≡ lines_inside style other place
  inside_same Plain place = refl
  inside_same Compact place = refl
  inside_same Frame place = refl
  inside_same Grid place = refl
  inside_same Box place = refl
  inside_same Rule place = refl
  inside_same Apart place = ap (λ (end : ℕ). if nat_lt place.top end then 0 else place.bottom - place.top - 1) ends

-- at most two lines stand beside the rows, and one more for each row
pub lines-few : (style : Style) (table : OpenTable) → lines_of style table ≤ table.rows + 2
lines-few Plain table = omega arith
lines-few Compact table = omega arith
lines-few Frame table = omega arith
lines-few Grid table = omega arith
lines-few Box table = omega arith
lines-few Rule table =
    cond_both (is_some (head_row table)) 1 0 (λ n. n ≤ table.rows + 2) (λ yes. omega arith) (λ no. omega arith)
lines-few Apart table =
    cond_both (is_some (head_row table)) 1 0 (λ n. n + (table.rows - end_of_head table - 1) ≤ table.rows + 2) (λ yes. omega arith)
    (λ no. omega arith)
