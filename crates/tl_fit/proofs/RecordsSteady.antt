-- Two numbers of columns break the table of records alike where no unit of it is of a width between them.
use Rattle.std.proofs.Common.{◌≡◌, ◌∙◌, ℕ, ◌<◌, ◌≤◌, Bool, List, [], ◌∷◌, ◌++◌, map, ◌⊎◌, refl, sym, ap, subst}
use Rattle.std.specs.List.{AllByRecursion, AllZip, flat_map}
use Rattle.std.specs.Str.{chars}
use Rattle.std.proofs.lemmas.List.Elements.{All-from_recursion}
use Rattle.tl_base.specs.declared.breaking.Breaking.TheVariants.{Wider}
use Rattle.tl_base.proofs.Members.{AllByRecursion-prefix, AllByRecursion-suffix}
use Rattle.tl_text.specs.declared.paragraph.Atom.{Atom}
use Rattle.tl_text.specs.declared.paragraph.Atom.TheVariants.{Word}
use Rattle.tl_text.specs.Paragraph.{unit_width}
use Rattle.tl_text.specs.Parts.{broken_above}
use Rattle.tl_text.specs.Widest.{widest_within}
use Rattle.tl_text.specs.Words.{words_of}
use Rattle.tl_text.proofs.Steadiness.{broken_above-steady}
use Rattle.tl_text.proofs.WidestLemmas.{widest_within-apart}
use Rattle.tl_table.specs.declared.cell.Content.{Content, out-Content}
use Rattle.tl_table.specs.declared.cell.Content.TheOpen as open_content
use Rattle.tl_table.specs.declared.cell.Table.{Table, out-Table}
use Rattle.tl_table.specs.declared.cell.TableCell.{TableCell, out-TableCell}
use Rattle.tl_table.specs.Tables.{OpenContent}
use Rattle.tl_columns.specs.Columns.{blocks_of_words, placed_fields, IsCsvTable, IsFieldCell, PlacedField}
use Rattle.tl_columns.specs.Records.{Fields}
use Rattle.tl_fit.specs.Units.{units_in_table, units_in_cell, units_in_content}
use Rattle.tl_fit.proofs.UnitsOpen.{open_units, units_in_table-out, units_in_cell-out, units_in_content-out}

-- the units of blocks are those of the blocks opened
units_opened : (blocks : List Content) → flat_map units_in_content blocks ≡ flat_map open_units (map out-Content blocks)
units_opened [] = refl
units_opened (block ∷ blocks) = λ i. units_in_content-out block i ++ units_opened blocks i

-- a unit is at most `wide` columns wide, or wider than `most`
abbrev IsApart : ℕ → ℕ → Atom → Type 0
IsApart wide most unit = (unit_width unit ≤ wide) ⊎ (most < unit_width unit)

-- each unit of a list is at most `wide` columns wide, or wider than `most`
abbrev AreApart : ℕ → ℕ → List Atom → Type 0
AreApart wide most units = AllByRecursion (IsApart wide most) units

module _ (wide less most : ℕ) (wide_below : wide ≤ less) (some : 0 < less) (below : less ≤ most) where
  -- a paragraph with such units is the same with both numbers
  atoms_steady : (atoms : List Atom) → AreApart wide most (broken_above most atoms) → broken_above less atoms ≡ broken_above most atoms
  atoms_steady atoms apart =
      broken_above-steady atoms wide less most
      (All-from_recursion (IsApart wide most) (broken_above most atoms) apart)
      wide_below some below

  -- the blocks of words with such units are the same with both numbers
  words_steady : (words : List (List ℕ)) → AreApart wide most (flat_map open_units (blocks_of_words (Wider most) words)) →
      blocks_of_words (Wider most) words ≡ blocks_of_words (Wider less) words
  words_steady [] apart = refl
  words_steady (word ∷ words) apart =
      let atoms = map Word (word ∷ words) in
      let same = atoms_steady atoms (AllByRecursion-prefix (IsApart wide most) (broken_above most atoms) [] apart) in
      λ i. open_content.Para (sym same i) ∷ []

  module _ (head : Bool) (floors : List ℕ) where
    -- the units of the cell of a field are those of its words
    field_units : (at : PlacedField) (cell : TableCell) → IsFieldCell head floors (Wider most) at (out-TableCell cell) →
        units_in_cell cell ≡ flat_map open_units (blocks_of_words (Wider most) (words_of (chars at.field)))
    field_units at cell is =
        units_in_cell-out cell ∙ units_opened (out-TableCell cell).blocks
        ∙ ap (λ (blocks : List OpenContent). flat_map open_units blocks) is.blocks

    -- the cell of a field is its cell with the lesser number too
    cell_steady : (at : PlacedField) (cell : TableCell) → IsFieldCell head floors (Wider most) at (out-TableCell cell) →
        AreApart wide most (units_in_cell cell) → IsFieldCell head floors (Wider less) at (out-TableCell cell)
    cell_steady at cell is apart = record {
      kind = is.kind;
      in_head = is.in_head;
      place = is.place;
      least = is.least;
      align = is.align;
      blocks = is.blocks ∙ words_steady (words_of (chars at.field)) (subst (AreApart wide most) (field_units at cell is) apart);
    }

    -- the cells of fields are their cells with the lesser number too
    cells_steady : (ats : List PlacedField) (cells : List TableCell) →
        AllZip (λ at cell. IsFieldCell head floors (Wider most) at (out-TableCell cell)) ats cells →
        AreApart wide most (flat_map units_in_cell cells) →
        AllZip (λ at cell. IsFieldCell head floors (Wider less) at (out-TableCell cell)) ats cells
    cells_steady [] [] each apart = tt
    cells_steady [] (cell ∷ cells) each apart = absurd each
    cells_steady (at ∷ ats) [] each apart = absurd each
    cells_steady (at ∷ ats) (cell ∷ cells) each apart =
        let first = AllByRecursion-prefix (IsApart wide most) (units_in_cell cell) (flat_map units_in_cell cells) apart in
        let others = AllByRecursion-suffix (IsApart wide most) (units_in_cell cell) (flat_map units_in_cell cells) apart in
        (cell_steady at cell each.0 first, cells_steady ats cells each.1 others)

-- where no unit of the table of records is of a width between the two numbers, it is their table with the
-- lesser number too
pub records_steady : (all : List Fields) (head : Bool) (floors : List ℕ) (less most : ℕ) (table : Table) →
    IsCsvTable all head floors (Wider most) table → widest_within most (units_in_table table) ≤ less → 0 < less →
    less ≤ most → IsCsvTable all head floors (Wider less) table
records_steady all head floors less most table is wide_below some below =
    let wide = widest_within most (units_in_table table) in
    let apart = widest_within-apart most (units_in_table table) in
    record {
      well_formed = is.well_formed;
      limits = is.limits;
      number = is.number;
      cols = is.cols;
      rows = is.rows;
      cells = cells_steady wide less most wide_below some below head floors (placed_fields all) (out-Table table).cells
          is.cells (subst (AreApart wide most) (units_in_table-out table) apart);
    }
