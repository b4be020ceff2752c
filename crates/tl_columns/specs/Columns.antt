-- The table of a list of records: a row for each record, a column for each field of the first, and a cell for each field,
-- whose words are its one paragraph.
use Rattle.std.specs.Prelude.{◌≡◌, ℕ, ◌+◌, ◌==◌, ◌&&◌, Bool, false, List, [], ◌∷◌, length, map, if◌then◌else◌, slice_index}
use Rattle.std.specs.Prelude.{None}
use Rattle.std.specs.List.{AllZip, enumerate_from, flat_map}
use Rattle.std.specs.Str.{chars}
use Rattle.tl_base.specs.declared.breaking.Breaking.{Breaking}
use Rattle.tl_grid.specs.declared.shape.Place.{Place}
use Rattle.tl_text.specs.declared.paragraph.Atom.TheVariants.{Word}
use Rattle.tl_text.specs.Words.{words_of}
use Rattle.tl_table.specs.declared.cell.Content.{out-Content}
use Rattle.tl_table.specs.declared.cell.Content.TheOpen as open_content
use Rattle.tl_table.specs.declared.cell.Kind.{Kind}
use Rattle.tl_table.specs.declared.cell.Table.{Table, out-Table}
use Rattle.tl_table.specs.declared.cell.TableCell.{out-TableCell}
use Rattle.tl_table.specs.Formed.{broken, header_kind}
use Rattle.tl_table.specs.Tables.{OpenCell, OpenContent}
use Rattle.tl_columns.specs.Records.{Fields, column_count}
use Rattle.tl_columns.specs.Refused.{AreWellFormed, AreWithinLimits}

-- a field with the numbers of its record and of its column, both counted from 0
pub record PlacedField : Type 0 where
  pub row : ℕ
  pub column : ℕ
  pub field : List ℕ

-- the fields of the record of that number, from left to right
abbrev pub placed_in : ℕ → Fields → List PlacedField
placed_in row fields = map (λ one. record { row = row; column = one.0; field = one.1 }) (enumerate_from 0 fields)

-- the fields of all records, row by row
abbrev pub placed_fields : List Fields → List PlacedField
placed_fields all = flat_map (λ one. placed_in one.0 one.1) (enumerate_from 0 all)

-- the one slot in that row and column
abbrev pub slot_in : ℕ → ℕ → Place
slot_in row column = record { left = column; right = column + 1; top = row; bottom = row + 1 }

-- the cells of the first row are header cells where it is to be one, and all others are plain
abbrev pub kind_in : Bool → ℕ → Kind
kind_in head row = header_kind (head && (row == 0))

-- the cells of the first row have the floors that are there, and all others the floor 0
abbrev pub floor_in : List ℕ → ℕ → ℕ → ℕ
floor_in floors row column = if row == 0 then slice_index floors column else 0

-- the words are one paragraph, as they are or each separated into its units; no word makes no block
abbrev pub blocks_of_words : Breaking → List (List ℕ) → List OpenContent
blocks_of_words breaking [] = []
blocks_of_words breaking (word ∷ words) = open_content.Para (broken breaking (map Word (word ∷ words))) ∷ []

-- the cell is that of the field in its row and column
pub record IsFieldCell (head : Bool) (floors : List ℕ) (breaking : Breaking) (at : PlacedField) (cell : OpenCell) : Type 0 where
  pub kind : cell.kind ≡ kind_in head at.row
  pub in_head : cell.in_head ≡ false
  pub place : cell.place ≡ slot_in at.row at.column
  pub least : cell.least ≡ floor_in floors at.row at.column
  pub align : cell.align ≡ None
  pub blocks : map out-Content cell.blocks ≡ blocks_of_words breaking (words_of (chars at.field))

-- the records are within the limits, nothing is wrong with them, and this is their table
pub record IsCsvTable (all : List Fields) (head : Bool) (floors : List ℕ) (breaking : Breaking) (table : Table) : Type 0 where
  pub well_formed : AreWellFormed all
  pub limits : AreWithinLimits all
  pub number : (out-Table table).number ≡ 0
  pub cols : (out-Table table).cols ≡ column_count all
  pub rows : (out-Table table).rows ≡ length all
  pub cells : AllZip (λ at cell. IsFieldCell head floors breaking at (out-TableCell cell)) (placed_fields all)
      (out-Table table).cells
