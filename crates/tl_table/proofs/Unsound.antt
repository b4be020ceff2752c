-- Tables that are not sound, though their grids are: no file spells them. The smallest has one column and one row, and in it a
-- caption without blocks, whose floor is 1: no attribute gives a caption a floor. And a table without a caption has no more
-- rows and cells than a grid may have: the one more is for the caption.
use Rattle.std.proofs.Common.{◌≡◌, ◌∙◌, ℕ, zero, suc, ◌+◌, ◌≤◌, Bool, true, false, List, [], ◌∷◌, ◌++◌, length, refl, sym, ap}
use Rattle.std.proofs.Common.{subst, arith}
use Rattle.std.proofs.Common.{None}
use Rattle.std.specs.List.{AllByRecursion}
use Rattle.tl_base.specs.declared.limits.TheConstants.{MAX_CELLS, MAX_ROWS}
use Rattle.tl_grid.specs.declared.shape.Place.{Place}
use Rattle.tl_table.specs.declared.cell.Kind.{Kind}
use Rattle.tl_table.specs.declared.cell.Kind.TheVariants as kinds
use Rattle.tl_table.specs.declared.cell.Table.{Table, out-Table, roll-Table, out-roll-Table}
use Rattle.tl_table.specs.declared.cell.TableCell.{TableCell, out-TableCell, roll-TableCell, out-roll-TableCell}
use Rattle.tl_table.proofs.HeadLaws.{row-kind}
use Rattle.tl_table.specs.Heads.{is_caption}
use Rattle.tl_table.specs.Sound.{IsSound}
use Rattle.tl_table.specs.Spellable.{AreCaption, IsRowCell, IsSpellableBy, IsSpellableWithin}
use Rattle.tl_table.specs.Tables.{OpenCell, OpenTable}

-- ---- a caption with a floor

abbrev place : Place
place = record { left = 0; right = 1; top = 0; bottom = 1 }

abbrev open_cell : OpenCell
open_cell = record { kind = kinds.Caption; in_head = false; place = place; least = 1; align = None; blocks = [] }

abbrev cell : TableCell
cell = roll-TableCell open_cell

abbrev open_table : OpenTable
open_table = record { number = 0; cols = 1; rows = 1; cells = cell ∷ [] }

abbrev floored : Table
floored = roll-Table open_table

-- the cell is none of a row, so it is the caption, and has a floor
no_split : (cols : ℕ) (caption body : List TableCell) → cell ∷ [] ≡ caption ++ body → AreCaption cols caption →
    AllByRecursion IsRowCell body → ⊥
no_split cols [] [] same captioned rows =
    let many : 1 ≡ 0 = ap (λ (cells : List TableCell). length cells) same in omega (arith, many)
no_split cols [] (one ∷ body) same captioned rows =
    let kind : true ≡ false = ap (λ (c : OpenCell). is_caption c.kind) (sym (out-roll-TableCell open_cell))
    ∙ ap kind_of same ∙ ap is_caption rows.0.1 ∙ row-kind rows.0.0 in
    absurd cc
  where
    kind_of : List TableCell → Bool
    kind_of [] = true
    kind_of (c ∷ cells) = is_caption (out-TableCell c).kind
no_split cols (one ∷ caption) body same captioned rows =
    let floor : 1 ≡ (out-TableCell one).least = ap (λ (c : OpenCell). c.least) (sym (out-roll-TableCell open_cell))
    ∙ ap floor_of same in
    omega (arith, captioned.0.least)
  where
    floor_of : List TableCell → ℕ
    floor_of [] = 1
    floor_of (c ∷ cells) = (out-TableCell c).least

floored_is_unsound : IsSound floored → ⊥
floored_is_unsound sound = by_depth sound.spellable.0 sound.spellable.1
  where
    by_depth : (depth : ℕ) → IsSpellableWithin depth sound.breaking floored → ⊥
    by_depth zero spelt = spelt
    by_depth (suc depth) spelt =
        let own = subst (IsSpellableBy (IsSpellableWithin depth sound.breaking) sound.breaking) (out-roll-Table open_table)
        spelt in
        no_split 1 own.caption own.body own.split own.captioned own.in_rows

-- ---- a row and a cell too many

-- no cell of the table is a caption
abbrev HasNoCaption : Table → Type 0
HasNoCaption table = AllByRecursion (λ cell. is_caption (out-TableCell cell).kind ≡ false) (out-Table table).cells

within_limits : (table : Table) → IsSound table → HasNoCaption table →
    ((out-Table table).rows ≤ MAX_ROWS) × (length (out-Table table).cells ≤ MAX_CELLS)
within_limits table sound none = by_depth sound.spellable.0 sound.spellable.1
  where
    by_depth : (depth : ℕ) → IsSpellableWithin depth sound.breaking table →
        ((out-Table table).rows ≤ MAX_ROWS) × (length (out-Table table).cells ≤ MAX_CELLS)
    by_depth zero spelt = absurd spelt
    by_depth (suc depth) spelt = by_caption spelt.caption spelt.split spelt.captioned spelt.few_rows
      where
        by_caption : (caption : List TableCell) → (out-Table table).cells ≡ caption ++ spelt.body →
            AreCaption (out-Table table).cols caption → (out-Table table).rows ≤ MAX_ROWS + length caption →
            ((out-Table table).rows ≤ MAX_ROWS) × (length (out-Table table).cells ≤ MAX_CELLS)
        by_caption [] same captioned few = (
          omega (arith, few),
          omega (arith, ap (λ (cells : List TableCell). length cells) same, spelt.few_cells),
        )
        by_caption (one ∷ caption) same captioned few =
            let all = subst (AllByRecursion (λ cell. is_caption (out-TableCell cell).kind ≡ false)) same none in
            let kind : true ≡ false = sym (ap is_caption captioned.0.kind) ∙ all.0 in
            absurd cc
