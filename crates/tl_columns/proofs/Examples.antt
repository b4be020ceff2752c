-- The definitions, run on files that are drawn and counted by hand. A letter takes one column.
--
--   a,b        |a  |b|     the first record: a floor of 5 is given for its first column
--   ccc,d      |ccc|d|     the second record
use Rattle.std.proofs.Common.{◌≡◌, ℕ, true, false, List, [], ◌∷◌, codes, IsUtf8, inl, refl, sym, ap, subst, arith}
use Rattle.std.proofs.Common.{None}
use Rattle.std.specs.Char.{encode_utf8}
use Rattle.std.specs.List.{AllZip}
use Rattle.std.specs.Str.{chars, is_utf8}
use Rattle.std.proofs.lemmas.Bool.{false≢true}
use Rattle.std.proofs.lemmas.List.Elements.{All-from_recursion, All-nil}
use Rattle.std.proofs.lemmas.Str.{is_utf8-from_IsUtf8}
use Rattle.csv.proofs.OnLiterals.{csv_on_literals}
use Rattle.tl_base.specs.declared.breaking.Breaking.TheVariants.{Words}
use Rattle.tl_text.specs.declared.paragraph.Atom.TheVariants.{Word}
use Rattle.tl_table.specs.declared.cell.Content.{out-roll-Content, roll-Content}
use Rattle.tl_table.specs.declared.cell.Content.TheOpen as open_content
use Rattle.tl_table.specs.declared.cell.Kind.TheVariants as kinds
use Rattle.tl_table.specs.declared.cell.Table.{out-roll-Table, roll-Table}
use Rattle.tl_table.specs.declared.cell.TableCell.{out-TableCell, out-roll-TableCell, roll-TableCell}
use Rattle.tl_table.specs.Tables.{OpenCell, OpenTable}
use Rattle.tl_columns.specs.declared.error.CsvError.TheVariants.{BadCharacter, NotUtf8, Uneven}
use Rattle.tl_columns.specs.Columns.{blocks_of_words, floor_in, kind_in, placed_fields, slot_in, IsFieldCell, IsCsvTable}
use Rattle.tl_columns.specs.Columns.{PlacedField}
use Rattle.tl_columns.specs.Records.{Fields, column_count, csv_records, field_count}
use Rattle.tl_columns.specs.Refused.{has_control, IsCsvRefused, IsWellFormed}

-- ---- the records of a file

abbrev first : Fields
first = codes "a" ∷ codes "b" ∷ []

abbrev second : Fields
second = codes "ccc" ∷ codes "d" ∷ []

two_records : csv_records (codes "a,b\nccc,d\n") ≡ first ∷ second ∷ []
unfolding csv_records csv_on_literals
two_records = refl

-- a carriage return, and no line end after the last record
other_line_ends : csv_records (codes "a,b\r\nccc,d") ≡ first ∷ second ∷ []
unfolding csv_records csv_on_literals
other_line_ends = refl

no_record : csv_records [] ≡ []
unfolding csv_records csv_on_literals
no_record = refl

-- a line without a byte is no record; two quotes are one empty field
empty_line : csv_records (codes "a\n\n\"\"\n") ≡ (codes "a" ∷ []) ∷ ([] ∷ []) ∷ []
unfolding csv_records csv_on_literals
empty_line = refl

-- within quotes a comma, a line end and a doubled quote belong to the field
quoted : csv_records (codes "\"a,b\nc\"\"\",d") ≡ (codes "a,b\nc\"" ∷ codes "d" ∷ []) ∷ []
unfolding csv_records csv_on_literals
quoted = refl

byte_order_mark : csv_records (0xEF ∷ 0xBB ∷ 0xBF ∷ codes "a") ≡ (codes "a" ∷ []) ∷ []
unfolding csv_records csv_on_literals
byte_order_mark = refl

-- records of several lengths are all given
uneven : csv_records (codes "a,b\nc\n") ≡ first ∷ (codes "c" ∷ []) ∷ []
unfolding csv_records csv_on_literals
uneven = refl

-- ---- counts

columns_of_first : column_count (first ∷ (codes "c" ∷ []) ∷ []) ≡ 2
columns_of_first = refl

no_columns : column_count [] ≡ 0
no_columns = refl

fields_of_all : field_count (first ∷ (codes "c" ∷ []) ∷ []) ≡ 3
fields_of_all = refl

-- ---- cells

abbrev at : ℕ → ℕ → List ℕ → PlacedField
at row column field = record { row = row; column = column; field = field }

row_by_row : placed_fields (first ∷ second ∷ []) ≡
    at 0 0 (codes "a") ∷ at 0 1 (codes "b") ∷ at 1 0 (codes "ccc") ∷ at 1 1 (codes "d") ∷ []
row_by_row = refl

slot_of_d : slot_in 1 1 ≡ record { left = 1; right = 2; top = 1; bottom = 2 }
slot_of_d = refl

header_cell : kind_in true 0 ≡ kinds.Head
header_cell = refl

below_the_header : kind_in true 1 ≡ kinds.Plain
below_the_header = refl

no_header : kind_in false 0 ≡ kinds.Plain
no_header = refl

floor_of_a : floor_in (5 ∷ []) 0 0 ≡ 5
floor_of_a = refl

no_floor_for_b : floor_in (5 ∷ []) 0 1 ≡ 0
no_floor_for_b = refl

no_floor_below : floor_in (5 ∷ []) 1 0 ≡ 0
no_floor_below = refl

one_paragraph : blocks_of_words Words (codes "a" ∷ codes "b" ∷ []) ≡
    open_content.Para (Word (codes "a") ∷ Word (codes "b") ∷ []) ∷ []
one_paragraph = refl

no_word_no_block : blocks_of_words Words [] ≡ []
no_word_no_block = refl

-- ---- the table of the first record alone, with a header row, and a floor of 5 for its first column

first_is_well_formed : IsWellFormed 2 first
unfolding chars encode_utf8
first_is_well_formed = record {
  even = refl;
  utf8 = All-from_recursion IsUtf8 first ((codes "a", (refl, refl)), ((codes "b", (refl, refl)), tt));
  clean = All-from_recursion (λ field. has_control field ≡ false) first (refl, (refl, tt));
}

abbrev cell_a : OpenCell
cell_a = record {
  kind = kinds.Head;
  in_head = false;
  place = slot_in 0 0;
  least = 5;
  align = None;
  blocks = roll-Content (open_content.Para (Word (codes "a") ∷ [])) ∷ [];
}

abbrev cell_b : OpenCell
cell_b = record {
  kind = kinds.Head;
  in_head = false;
  place = slot_in 0 1;
  least = 0;
  align = None;
  blocks = roll-Content (open_content.Para (Word (codes "b") ∷ [])) ∷ [];
}

abbrev drawn : OpenTable
drawn = record { number = 0; cols = 2; rows = 1; cells = roll-TableCell cell_a ∷ roll-TableCell cell_b ∷ [] }

is_cell_a : IsFieldCell true (5 ∷ []) Words (at 0 0 (codes "a")) cell_a
unfolding chars
is_cell_a = record {
  kind = refl;
  in_head = refl;
  place = refl;
  least = refl;
  align = refl;
  blocks = λ i. out-roll-Content (open_content.Para (Word (codes "a") ∷ [])) i ∷ [];
}

is_cell_b : IsFieldCell true (5 ∷ []) Words (at 0 1 (codes "b")) cell_b
unfolding chars
is_cell_b = record {
  kind = refl;
  in_head = refl;
  place = refl;
  least = refl;
  align = refl;
  blocks = λ i. out-roll-Content (open_content.Para (Word (codes "b") ∷ [])) i ∷ [];
}

is_drawn : IsCsvTable (first ∷ []) true (5 ∷ []) Words (roll-Table drawn)
is_drawn = record {
  well_formed = All-from_recursion (IsWellFormed 2) (first ∷ []) (first_is_well_formed, tt);
  limits = record { few_cells = omega arith; few_columns = omega arith; few_rows = omega arith };
  number = ap (λ (table : OpenTable). table.number) (out-roll-Table drawn);
  cols = ap (λ (table : OpenTable). table.cols) (out-roll-Table drawn);
  rows = ap (λ (table : OpenTable). table.rows) (out-roll-Table drawn);
  cells = subst (λ (table : OpenTable). AllZip (λ one cell. IsFieldCell true (5 ∷ []) Words one (out-TableCell cell))
      (placed_fields (first ∷ [])) table.cells) (sym (out-roll-Table drawn)) (
        subst (IsFieldCell true (5 ∷ []) Words (at 0 0 (codes "a"))) (sym (out-roll-TableCell cell_a)) is_cell_a,
        (subst (IsFieldCell true (5 ∷ []) Words (at 0 1 (codes "b"))) (sym (out-roll-TableCell cell_b)) is_cell_b, tt),
      );
}

-- ---- refusals

-- the second record is named, which has one field
second_is_uneven : IsCsvRefused (first ∷ (codes "c" ∷ []) ∷ []) (Uneven 1)
second_is_uneven = inl (record {
  number = 1;
  found = (refl, (λ same. omega (arith, same)));
  before = All-from_recursion (IsWellFormed 2) (first ∷ []) (first_is_well_formed, tt);
})

-- a field of the byte 255, which is no UTF-8
not_utf8 : IsCsvRefused (((255 ∷ []) ∷ []) ∷ []) (NotUtf8 0)
unfolding chars is_utf8
not_utf8 = inl (record {
  number = 0;
  found = (refl, refl, (0, 255 ∷ [], omega arith, refl, (λ is. false≢true (is_utf8-from_IsUtf8 (255 ∷ []) is))));
  before = All-nil (IsWellFormed 1);
})

-- a field of the control character U+0001
control_character : IsCsvRefused (((1 ∷ []) ∷ []) ∷ []) (BadCharacter 0)
unfolding chars encode_utf8
control_character = inl (record {
  number = 0;
  found = (
    refl,
    refl,
    All-from_recursion IsUtf8 ((1 ∷ []) ∷ []) ((1 ∷ [], (refl, refl)), tt),
    (0, 1 ∷ [], omega arith, refl, refl),
  );
  before = All-nil (IsWellFormed 1);
})
