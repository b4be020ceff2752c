-- A file of HTML can spell the cells of fields: their paragraphs are words without control characters.
use Rattle.std.proofs.Common.{◌≡◌, ℕ, ◌<◌, ◌==◌, ◌&&◌, ◌+◌, Bool, false, List, [], ◌∷◌, length, map, refl, sym, subst, arith}
use Rattle.std.specs.List.{All, AllByRecursion}
use Rattle.std.specs.Str.{chars}
use Rattle.std.proofs.lemmas.List.Elements.{All-head, All-tail}
use Rattle.tl_base.specs.declared.breaking.Breaking.{Breaking}
use Rattle.tl_base.proofs.Members.{AllByRecursion-append}
use Rattle.tl_base.proofs.Texts.{byte_count-chars}
use Rattle.tl_text.specs.declared.paragraph.Atom.TheVariants.{Word}
use Rattle.tl_text.specs.Paragraph.{IsParagraph}
use Rattle.tl_text.specs.Words.{words_of}
use Rattle.tl_text.proofs.WordParagraphs.{words_are_paragraph}
use Rattle.tl_tree.specs.Sound.{IsPlainAtom}
use Rattle.tl_table.specs.declared.cell.TableCell.{TableCell, out-TableCell}
use Rattle.tl_table.specs.Spellable.{AreSpellableBlocks, IsRowCell, IsSpellableBlock}
use Rattle.tl_columns.specs.Columns.{blocks_of_words, placed_fields, PlacedField}
use Rattle.tl_columns.specs.Records.{Fields, column_count}
use Rattle.tl_columns.specs.Refused.{has_control, AreWellFormed, IsWellFormed}
use Rattle.tl_columns.proofs.PlainWords.{words_are_plain}
use Rattle.tl_columns.proofs.Slots.{row_from, rows_from}
use Rattle.tl_columns.proofs.TextCells.{opened, AreCellsOf, IsField}

-- a field without control characters
abbrev pub IsPlainField : List ℕ → Type 0
IsPlainField field = has_control field ≡ false

blocks_spellable : (breaking : Breaking) (field : List ℕ) → IsField field → IsPlainField field →
    AllByRecursion (IsSpellableBlock breaking) (blocks_of_words breaking (words_of (chars field)))
blocks_spellable breaking field (utf8, small) plain =
    by (words_of (chars field)) (λ some. words_are_paragraph (chars field) (omega (arith, byte_count-chars field utf8)) some)
    (words_are_plain (chars field) plain)
  where
    by : (words : List (List ℕ)) → (0 < length words → IsParagraph (map Word words)) →
        AllByRecursion IsPlainAtom (map Word words) →
        AllByRecursion (IsSpellableBlock breaking) (blocks_of_words breaking words)
    by [] is plain = tt
    by (word ∷ words) is plain =
        ((map Word (word ∷ words), record { is_paragraph = is (omega arith); plain = plain }, refl), tt)

module _ (head : Bool) (floors : List ℕ) (breaking : Breaking) where
  pub cells_spellable : (ats : List PlacedField) (cells : List TableCell) → AreCellsOf head floors breaking ats cells →
      AllByRecursion (λ at. IsField at.field) ats → AllByRecursion (λ at. IsPlainField at.field) ats →
      AllByRecursion (λ cell. AreSpellableBlocks breaking (out-TableCell cell).blocks) cells
  cells_spellable [] [] are each plain = tt
  cells_spellable [] (cell ∷ cells) are each plain = absurd are
  cells_spellable (at ∷ ats) [] are each plain = absurd are
  cells_spellable (at ∷ ats) (cell ∷ cells) are each plain = (
    opened (IsSpellableBlock breaking) (out-TableCell cell).blocks
        (subst (AllByRecursion (IsSpellableBlock breaking)) (sym are.0.blocks)
        (blocks_spellable breaking at.field each.0 plain.0)),
    cells_spellable ats cells are.1 each.1 plain.1,
  )

  -- none is a caption
  pub cells_in_rows : (ats : List PlacedField) (cells : List TableCell) → AreCellsOf head floors breaking ats cells →
      AllByRecursion IsRowCell cells
  cells_in_rows [] [] are = tt
  cells_in_rows [] (cell ∷ cells) are = absurd are
  cells_in_rows (at ∷ ats) [] are = absurd are
  cells_in_rows (at ∷ ats) (cell ∷ cells) are = ((head && (at.row == 0), are.0.kind), cells_in_rows ats cells are.1)

-- ---- the fields of records

row_plain : (row column : ℕ) (fields : Fields) → All IsPlainField fields →
    AllByRecursion (λ at. IsPlainField at.field) (row_from row column fields)
row_plain row column [] plain = tt
row_plain row column (field ∷ fields) plain =
    (All-head IsPlainField field fields plain, row_plain row (column + 1) fields (All-tail IsPlainField field fields plain))

plain_from : (columns row : ℕ) (all : List Fields) → All (IsWellFormed columns) all →
    AllByRecursion (λ at. IsPlainField at.field) (rows_from row all)
plain_from columns row [] good = tt
plain_from columns row (fields ∷ all) good =
    AllByRecursion-append (λ at. IsPlainField at.field) (row_from row 0 fields) (rows_from (row + 1) all)
    (row_plain row 0 fields (All-head (IsWellFormed columns) fields all good).clean)
    (plain_from columns (row + 1) all (All-tail (IsWellFormed columns) fields all good))

pub are_plain_fields : (all : List Fields) → AreWellFormed all →
    AllByRecursion (λ at. IsPlainField at.field) (placed_fields all)
are_plain_fields all good = plain_from (column_count all) 0 all good
