-- The tree of a table is sound: one table, with words without control characters.
use Rattle.std.proofs.Common.{◌≡◌, ◌∙◌, ℕ, zero, suc, ◌+◌, ◌*◌, ◌≤◌, false, List, [], ◌∷◌, map, length, refl, sym, ap, subst}
use Rattle.std.proofs.Common.{arith, sum_by, None}
use Rattle.std.specs.List.{AllByRecursion, list_any}
use Rattle.std.specs.Str.{IsAscii}
use Rattle.std.proofs.lemmas.List.{length-map}
use Rattle.std.proofs.lemmas.List.Elements.{All-from_recursion}
use Rattle.std.proofs.lemmas.List.Sums.{sum_by-cons}
use Rattle.std.proofs.lemmas.Str.{chars-IsAscii, IsUtf8-from_ascii}
use Rattle.std.proofs.lemmas.Str.Ascii.{IsAscii-from_all}
use Rattle.tl_base.specs.declared.limits.TheConstants.{MAX_ROWS}
use Rattle.tl_base.specs.Text.{byte_count}
use Rattle.tl_base.proofs.Texts.{byte_count-chars}
use Rattle.tl_token.specs.Characters.{is_control}
use Rattle.tl_token.proofs.Sizes.{byte_count-cons}
use Rattle.tl_text.specs.declared.paragraph.Atom.TheVariants.{Word}
use Rattle.tl_text.specs.Paragraph.{IsParagraph, atom_size}
use Rattle.tl_text.proofs.WordParagraphs.{words_are_paragraph}
use Rattle.tl_tree.specs.Outline.{Entries, cell, row, group, columns, paragraph}
use Rattle.tl_tree.specs.Outline as entries
use Rattle.tl_tree.specs.Sound.{IsNumberedFrom, table_count, IsNestedBelow, IsPlainAtom, IsCellInRange, IsEntryInRange}
use Rattle.tl_tree.specs.Sound.{entry_size}
use Rattle.tl_tree.specs.Sound.{AreSound, IsSound}
use Rattle.tl_tree.specs.declared.node.Part.TheVariants as parts
use Rattle.tl_demo.specs.Demo.{DemoCell, word_text, words_text}
use Rattle.tl_demo.proofs.DrawnRows.{IsWordLength, IsDrawnCell, IsDrawnRow, columns_of, some_columns, few_columns}
use Rattle.tl_demo.proofs.TableItems.{IsByte, letters_ascii, words_letters, words_length}
use Rattle.tl_demo.proofs.TableTree.{paragraph_in, words_are, cells_listed, rows_listed, table_listed, table_node}

-- ---- one table

cells_numbered : (k : ℕ) (cells : List DemoCell) (later : Entries) → IsNumberedFrom k later →
    IsNumberedFrom k (cells_listed cells later)
cells_numbered k [] later is = is
cells_numbered k (c ∷ cells) later is = cells_numbered k cells later is

-- no table is nested in a row, so the numbers stay as they are
rows_numbered : (k : ℕ) (rows : List (List DemoCell)) (later : Entries) → IsNumberedFrom k later →
    IsNumberedFrom k (rows_listed rows later)
rows_numbered k [] later is = is
rows_numbered k (cells ∷ rows) later is = cells_numbered k cells (rows_listed rows later) (rows_numbered k rows later is)

cells_count : (cells : List DemoCell) (later : Entries) → table_count (cells_listed cells later) ≡ table_count later
cells_count [] later = refl
cells_count (c ∷ cells) later = cells_count cells later

-- no table is nested in a row, so their count stays as it is
rows_count : (rows : List (List DemoCell)) (later : Entries) → table_count (rows_listed rows later) ≡ table_count later
rows_count [] later = refl
rows_count (cells ∷ rows) later = cells_count cells (rows_listed rows later) ∙ rows_count rows later

cells_nested : (most depth : ℕ) (cells : List DemoCell) (later : Entries) → IsNestedBelow most depth later →
    IsNestedBelow most depth (cells_listed cells later)
cells_nested most depth [] later is = is
cells_nested most depth (c ∷ cells) later is = cells_nested most depth cells later is

-- no table is nested in a row, so tables stand as deep as before
rows_nested : (most depth : ℕ) (rows : List (List DemoCell)) (later : Entries) → IsNestedBelow most depth later →
    IsNestedBelow most depth (rows_listed rows later)
rows_nested most depth [] later is = is
rows_nested most depth (cells ∷ rows) later is = cells_nested most depth cells (rows_listed rows later)
    (rows_nested most depth rows later is)

-- ---- its paragraphs

-- a letter is no control character
no_control : (n : ℕ) → list_any is_control (word_text n) ≡ false
no_control zero = refl
no_control (suc n) = no_control n

all_plain : (lengths : List ℕ) → AllByRecursion IsPlainAtom (map Word (map word_text lengths))
all_plain [] = tt
all_plain (n ∷ lengths) = (no_control n, all_plain lengths)

-- a letter is one byte
word_bytes : (n : ℕ) → byte_count (word_text n) ≡ n
word_bytes zero = refl
word_bytes (suc n) = omega (arith, byte_count-cons 0x61 (word_text n), word_bytes n)

-- eight bytes at most for each word
few_bytes : (lengths : List ℕ) → AllByRecursion IsWordLength lengths →
    sum_by atom_size (map Word (map word_text lengths)) ≤ 8 * length lengths
few_bytes [] all = omega arith
few_bytes (n ∷ lengths) all =
    omega (
      arith,
      sum_by-cons atom_size (Word (word_text n)) (map Word (map word_text lengths)),
      word_bytes n,
      (all.0).1,
      few_bytes lengths all.1,
    )

-- the words of a cell are a paragraph
is_paragraph : (c : DemoCell) → IsDrawnCell c → IsParagraph (paragraph_in c)
is_paragraph c is =
    let text = words_text c.words in
    let same = words_are c.words is.words in
    let ascii : IsAscii text =
    IsAscii-from_all text (All-from_recursion IsByte text (letters_ascii text (words_letters c.words))) in
    let bytes : byte_count text ≡ length text = ap byte_count (sym (chars-IsAscii text ascii)) ∙ byte_count-chars text
    (IsUtf8-from_ascii text ascii) in
    subst (λ (ws : List (List ℕ)). IsParagraph (map Word ws)) same
    (words_are_paragraph text (omega (arith, bytes, words_length c.words is.words, is.few))
    (omega (arith, ap length same, length-map c.words word_text, is.some)))

-- ---- each entry in its range

-- the spans of a cell are in their ranges
cell_in_range : (c : DemoCell) → IsDrawnCell c → IsCellInRange c.colspan 1 0
cell_in_range c is = record {
  some_column = omega (arith, some_columns c is);
  few_columns = few_columns c is;
  few_rows = omega arith;
  narrow = omega arith;
}

cells_in_range : (cells : List DemoCell) (later : Entries) → AllByRecursion IsDrawnCell cells →
    AllByRecursion IsEntryInRange later →
    AllByRecursion IsEntryInRange (cells_listed cells later)
cells_in_range [] later all is = is
cells_in_range (c ∷ cells) later all is = (
  cell_in_range c all.0,
  (
    record { is_paragraph = is_paragraph c all.0; plain = all_plain c.words },
    cells_in_range cells later all.1 is,
  ),
)

-- all that stands in the rows is in its range
rows_in_range : (rows : List (List DemoCell)) (later : Entries) → AllByRecursion IsDrawnRow rows →
    AllByRecursion IsEntryInRange later →
    AllByRecursion IsEntryInRange (rows_listed rows later)
rows_in_range [] later all is = is
rows_in_range (cells ∷ rows) later all is =
    (tt, cells_in_range cells (rows_listed rows later) (all.0).each (rows_in_range rows later all.1 is))

-- a cell counts 1, and the bytes of its words
cells_size : (cells : List DemoCell) (later : Entries) → AllByRecursion IsDrawnCell cells →
    sum_by entry_size (cells_listed cells later) ≤ 49 * columns_of cells + sum_by entry_size later
cells_size [] later all = omega arith
cells_size (c ∷ cells) later all =
    omega (
      arith,
      sum_by-cons entry_size (cell false c.colspan 1 0 None) (paragraph (paragraph_in c) ∷ cells_listed cells later),
      sum_by-cons entry_size (paragraph (paragraph_in c)) (cells_listed cells later),
      few_bytes c.words (all.0).words,
      (all.0).few,
      some_columns c all.0,
      cells_size cells later all.1,
    )

rows_size : (rows : List (List DemoCell)) (later : Entries) → AllByRecursion IsDrawnRow rows →
    sum_by entry_size (rows_listed rows later) ≤ 295 * length rows + sum_by entry_size later
rows_size [] later all = omega arith
rows_size (cells ∷ rows) later all =
    omega (
      arith,
      sum_by-cons entry_size row (cells_listed cells (rows_listed rows later)),
      cells_size cells (rows_listed rows later) (all.0).each,
      (all.0).narrow,
      rows_size rows later all.1,
    )

-- the tree of the rows is sound
pub table_sound : (rows : List (List DemoCell)) → AllByRecursion IsDrawnRow rows → length rows ≤ MAX_ROWS →
    IsSound (table_node rows)
table_sound rows all few =
    let listed = table_listed rows in
    let last : Entries = entries.table_end ∷ [] in
    let body : Entries = rows_listed rows last in
    let whole : Entries = entries.table 0 ∷ columns 0 ∷ group parts.Loose ∷ body in
    record {
      numbered = subst (IsNumberedFrom 0) (sym listed) (refl, rows_numbered 1 rows last tt);
      few_tables = omega (arith, ap table_count listed, rows_count rows last);
      shallow = subst (IsNestedBelow 8 0) (sym listed) (omega arith, rows_nested 8 1 rows last tt);
      sound = subst AreSound (sym listed) (record {
        in_range = (tt, (omega arith, (tt, rows_in_range rows last all (tt, tt))));
        size = omega (
          arith,
          sum_by-cons entry_size (entries.table 0) (columns 0 ∷ group parts.Loose ∷ body),
          sum_by-cons entry_size (columns 0) (group parts.Loose ∷ body),
          sum_by-cons entry_size (group parts.Loose) body,
          sum_by-cons entry_size entries.table_end [],
          rows_size rows last all,
          few,
        );
      });
    }
