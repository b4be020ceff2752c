-- The text of a table as tags, each with the text up to the next tag.
use Rattle.std.proofs.Common.{◌≡◌, ℕ, zero, suc, ◌*◌, ◌<◌, ◌≤◌, ◌==◌, ltb, Bool, true, false, ◌⊎◌, List, [], ◌∷◌, ◌++◌, map}
use Rattle.std.proofs.Common.{length, codes}
use Rattle.std.proofs.Common.{refl, sym, ap, ◌∙◌, subst, inl, inr, arith}
use Rattle.std.specs.Prelude.{if◌then◌else◌}
use Rattle.std.specs.List.{AllByRecursion, flat_map}
use Rattle.std.specs.Str.{IsAscii}
use Rattle.std.proofs.lemmas.Bool.{and_parts, ltb-true}
use Rattle.std.proofs.lemmas.List.{length-append, length-replicate}
use Rattle.std.proofs.lemmas.List.Concat.{flat_map-append}
use Rattle.std.proofs.lemmas.List.Elements.{All-from_recursion}
use Rattle.std.proofs.lemmas.Str.{chars-IsAscii, IsUtf8-from_ascii}
use Rattle.std.proofs.lemmas.Str.Ascii.{IsAscii-from_all}
use Rattle.tl_base.specs.declared.limits.TheConstants.{MAX_FILE_BYTES}
use Rattle.tl_base.proofs.Members.{AllByRecursion-append}
use Rattle.tl_token.specs.Characters.{is_control}
use Rattle.tl_token.specs.Elements.{no_spans}
use Rattle.tl_token.specs.Grammar.{markup, unquoted}
use Rattle.tl_token.specs.Grammar as grammar
use Rattle.tl_token.specs.Spelling.{SpellsTokens, without_mark}
use Rattle.tl_token.specs.declared.token.Element.TheVariants as elements
use Rattle.tl_token.specs.declared.token.Token.{Token}
use Rattle.tl_html.specs.Html.{escaped}
use Rattle.tl_base.specs.Text.{is_ascii}
use Rattle.tl_html.proofs.Items.{Item, item_text, items_text, item_kinds, IsItem, IsTagText, AreFine, kind_of, items_spelt}
use Rattle.tl_html.proofs.PageTags.{numbers, plain_start, table_start, table_end, row_start}
use Rattle.tl_demo.specs.Demo.{DemoCell, word_text, words_text, tag_text, cell_text, row_text, rows_text, demo_rows, demo_text_of}
use Rattle.tl_demo.proofs.DrawnRows.{IsWordLength, IsDrawnCell, IsDrawnRow, columns_of, some_columns, demo_rows_drawn}

-- ---- the letters of words

-- a letter, or the space between two words
abbrev pub IsLetterOrSpace : ℕ → Type 0
IsLetterOrSpace c = (c ≡ 0x61) ⊎ (c ≡ 0x20)

-- a word is letters
letters : (n : ℕ) → AllByRecursion IsLetterOrSpace (word_text n)
letters zero = tt
letters (suc n) = (inl refl, letters n)

next_letters : (lengths : List ℕ) → AllByRecursion IsLetterOrSpace (flat_map (λ n. codes " " ++ word_text n) lengths)
next_letters [] = tt
next_letters (n ∷ lengths) =
    AllByRecursion-append IsLetterOrSpace (codes " " ++ word_text n) (flat_map (λ m. codes " " ++ word_text m) lengths)
    (inr refl, letters n) (next_letters lengths)

-- the words of a cell are letters and spaces
pub words_letters : (lengths : List ℕ) → AllByRecursion IsLetterOrSpace (words_text lengths)
words_letters [] = tt
words_letters (n ∷ lengths) =
    AllByRecursion-append IsLetterOrSpace (word_text n) (flat_map (λ m. codes " " ++ word_text m) lengths) (letters n)
    (next_letters lengths)

-- a text of letters and spaces is written as it is
unescaped : (text : List ℕ) → AllByRecursion IsLetterOrSpace text → flat_map escaped text ≡ text
unescaped [] all = refl
unescaped (c ∷ text) all = ap (λ cs. cs ++ flat_map escaped text) (one c all.0) ∙ ap (λ (cs : List ℕ). c ∷ cs)
    (unescaped text all.1)
  where
    one : (d : ℕ) → IsLetterOrSpace d → escaped d ≡ d ∷ []
    one d (inl is) = subst (λ e. escaped e ≡ e ∷ []) (sym is) refl
    one d (inr is) = subst (λ e. escaped e ≡ e ∷ []) (sym is) refl

-- letters and spaces are no control characters
fine : (text : List ℕ) → AllByRecursion IsLetterOrSpace text → AreFine text
fine [] all = tt
fine (c ∷ text) all = (one c all.0, fine text all.1)
  where
    one : (d : ℕ) → IsLetterOrSpace d → is_control d ≡ false
    one d (inl is) = subst (λ e. is_control e ≡ false) (sym is) refl
    one d (inr is) = subst (λ e. is_control e ≡ false) (sym is) refl

-- ---- tags

-- the tag of a cell over two columns, whose colspan has no quotes
wide_start : IsTagText (codes "<td colspan=2>") false elements.Td (numbers 2 1 0)
wide_start rest =
    markup elements.Td (record {
      is_end = false;
      name = codes "td";
      attributes =
          record { name = codes "colspan"; value = codes "2" } ∷ [];
    })
    (record {
      following = codes " colspan=2>" ++ rest;
      spelled = refl;
      named = (refl, (refl, tt));
      separated = refl;
      attributes = grammar.gap refl (grammar.attribute (λ e. cc) (refl, (refl, (refl, (refl, (refl, (refl, (refl, tt))))))) refl
          (unquoted [] [] tt tt (λ e. cc) (refl, tt) refl refl) (grammar.end refl));
    })
    refl refl

narrow_start : IsTagText (codes "<td>") false elements.Td (numbers 1 1 0)
narrow_start = plain_start 1 1 0 (omega arith) (omega arith) (omega arith) (omega arith) (omega arith)

-- the tag of a cell
tag_is : (colspan : ℕ) → (colspan ≡ 1) ⊎ (colspan ≡ 2) → IsTagText (tag_text colspan) false elements.Td (numbers colspan 1 0)
tag_is colspan (inl is) = subst (λ n. IsTagText (tag_text n) false elements.Td (numbers n 1 0)) (sym is) narrow_start
tag_is colspan (inr is) = subst (λ n. IsTagText (tag_text n) false elements.Td (numbers n 1 0)) (sym is) wide_start

-- ---- items

-- a cell is its tag and its words; no end tag stands after them
abbrev pub cell_item : DemoCell → Item
cell_item cell = record {
  mark = tag_text cell.colspan;
  is_end = false;
  element = elements.Td;
  spans = numbers cell.colspan 1 0;
  text = words_text cell.words;
}

abbrev pub row_item : Item
row_item = record { mark = codes "<tr>"; is_end = false; element = elements.Tr; spans = no_spans; text = [] }

abbrev pub row_items : List DemoCell → List Item
row_items cells = row_item ∷ map cell_item cells

abbrev pub first_item : Item
first_item = record { mark = codes "<table>"; is_end = false; element = elements.Table; spans = no_spans; text = [] }

abbrev pub last_item : Item
last_item = record { mark = codes "</table>"; is_end = true; element = elements.Table; spans = no_spans; text = [] }

-- the tags of a table
abbrev pub table_items : List (List DemoCell) → List Item
table_items rows = first_item ∷ (flat_map row_items rows ++ last_item ∷ [])

cells_are : (cells : List DemoCell) → AllByRecursion IsDrawnCell cells → AllByRecursion IsItem (map cell_item cells)
cells_are [] all = tt
cells_are (cell ∷ cells) all =
    ((tag_is cell.colspan (all.0).colspan, fine (words_text cell.words) (words_letters cell.words)), cells_are cells all.1)

rows_are : (rows : List (List DemoCell)) → AllByRecursion IsDrawnRow rows → AllByRecursion IsItem (flat_map row_items rows)
rows_are [] all = tt
rows_are (cells ∷ rows) all =
    AllByRecursion-append IsItem (row_items cells) (flat_map row_items rows) ((row_start, tt), cells_are cells (all.0).each)
    (rows_are rows all.1)

-- the items of a table are tags with fine texts
items_are : (rows : List (List DemoCell)) → AllByRecursion IsDrawnRow rows → AllByRecursion IsItem (table_items rows)
items_are rows all = (
  (table_start, tt),
  AllByRecursion-append IsItem (flat_map row_items rows) (last_item ∷ [])
      (rows_are rows all) ((table_end, tt), tt),
)

-- ---- their text

-- the text of cells is that of their tags
cells_written : (cells : List DemoCell) → flat_map cell_text cells ≡ items_text (map cell_item cells)
cells_written [] = refl
cells_written (cell ∷ cells) =
    ap (λ (cs : List ℕ). tag_text cell.colspan ++ cs ++ flat_map cell_text cells)
    (sym (unescaped (words_text cell.words) (words_letters cell.words)))
    ∙ ap (λ (cs : List ℕ). item_text (cell_item cell) ++ cs) (cells_written cells)

rows_written : (rows : List (List DemoCell)) → flat_map row_text rows ≡ items_text (flat_map row_items rows)
rows_written [] = refl
rows_written (cells ∷ rows) =
    ap (λ (cs : List ℕ). (codes "<tr>" ++ cs) ++ flat_map row_text rows) (cells_written cells)
    ∙ ap (λ (cs : List ℕ). items_text (row_items cells) ++ cs) (rows_written rows)
    ∙ sym (flat_map-append item_text (row_items cells) (flat_map row_items rows))

-- the text of a table is that of its tags
text_written : (rows : List (List DemoCell)) → rows_text rows ≡ items_text (table_items rows)
text_written rows =
    ap (λ (cs : List ℕ). codes "<table>" ++ cs ++ codes "</table>") (rows_written rows)
    ∙ ap (λ (cs : List ℕ). codes "<table>" ++ cs) (sym (flat_map-append item_text (flat_map row_items rows) (last_item ∷ [])))

-- ---- its bytes

-- an ASCII character
abbrev pub IsByte : ℕ → Type 0
IsByte c = c < 128

-- a text that is written out
recursion_from_test : (text : List ℕ) → is_ascii text ≡ true → AllByRecursion IsByte text
recursion_from_test [] is = tt
recursion_from_test (c ∷ text) is =
    let both = and_parts (ltb c 128) (is_ascii text) is in (ltb-true c 128 both.0, recursion_from_test text both.1)

pub letters_ascii : (text : List ℕ) → AllByRecursion IsLetterOrSpace text → AllByRecursion IsByte text
letters_ascii [] all = tt
letters_ascii (c ∷ text) all = (one c all.0, letters_ascii text all.1)
  where
    one : (d : ℕ) → IsLetterOrSpace d → IsByte d
    one d (inl is) = omega (arith, is)
    one d (inr is) = omega (arith, is)

tag_ascii : (colspan : ℕ) → AllByRecursion IsByte (tag_text colspan)
tag_ascii colspan = by_test (colspan == 2)
  where
    by_test : (wide : Bool) → AllByRecursion IsByte (if wide then codes "<td colspan=2>" else codes "<td>")
    by_test true = recursion_from_test (codes "<td colspan=2>") refl
    by_test false = recursion_from_test (codes "<td>") refl

cells_ascii : (cells : List DemoCell) → AllByRecursion IsByte (flat_map cell_text cells)
cells_ascii [] = tt
cells_ascii (cell ∷ cells) =
    AllByRecursion-append IsByte (cell_text cell) (flat_map cell_text cells)
    (AllByRecursion-append IsByte (tag_text cell.colspan) (words_text cell.words) (tag_ascii cell.colspan)
    (letters_ascii (words_text cell.words) (words_letters cell.words)))
    (cells_ascii cells)

rows_ascii : (rows : List (List DemoCell)) → AllByRecursion IsByte (flat_map row_text rows)
rows_ascii [] = tt
rows_ascii (cells ∷ rows) =
    AllByRecursion-append IsByte (row_text cells) (flat_map row_text rows)
    (AllByRecursion-append IsByte (codes "<tr>") (flat_map cell_text cells) (recursion_from_test (codes "<tr>") refl)
    (cells_ascii cells)) (rows_ascii rows)

-- the text of a table is ASCII
text_ascii : (rows : List (List DemoCell)) → IsAscii (rows_text rows)
text_ascii rows = IsAscii-from_all (rows_text rows) (All-from_recursion IsByte (rows_text rows)
    (AllByRecursion-append IsByte (codes "<table>" ++ flat_map row_text rows) (codes "</table>")
    (AllByRecursion-append IsByte (codes "<table>") (flat_map row_text rows) (recursion_from_test (codes "<table>") refl)
    (rows_ascii rows))
    (recursion_from_test (codes "</table>") refl)))

-- ---- its length

-- a space and at most eight letters for each word
next_length : (lengths : List ℕ) → AllByRecursion IsWordLength lengths →
    length (flat_map (λ n. codes " " ++ word_text n) lengths) ≤ 9 * length lengths
next_length [] all = omega arith
next_length (n ∷ lengths) all =
    omega (
      arith,
      (all.0).1,
      next_length lengths all.1,
      length-append (codes " " ++ word_text n) (flat_map (λ m. codes " " ++ word_text m) lengths),
      length-replicate {A = ℕ} n 0x61,
    )

pub words_length : (lengths : List ℕ) → AllByRecursion IsWordLength lengths → length (words_text lengths) ≤ 9 * length lengths
words_length [] all = omega arith
words_length (n ∷ lengths) all =
    omega (
      arith,
      (all.0).1,
      next_length lengths all.1,
      length-append (word_text n) (flat_map (λ m. codes " " ++ word_text m) lengths),
      length-replicate {A = ℕ} n 0x61,
    )

-- the longer tag has 14 characters
tag_length : (colspan : ℕ) → length (tag_text colspan) ≤ 14
tag_length colspan = by_test (colspan == 2)
  where
    by_test : (wide : Bool) → length (if wide then codes "<td colspan=2>" else codes "<td>") ≤ 14
    by_test true = omega arith
    by_test false = omega arith

-- a tag and six words take 68 characters at most
cells_length : (cells : List DemoCell) → AllByRecursion IsDrawnCell cells →
    length (flat_map cell_text cells) ≤ 68 * columns_of cells
cells_length [] all = omega arith
cells_length (cell ∷ cells) all =
    omega (
      arith,
      tag_length cell.colspan,
      words_length cell.words (all.0).words,
      (all.0).few,
      some_columns cell all.0,
      cells_length cells all.1,
      length-append (cell_text cell) (flat_map cell_text cells),
      length-append (tag_text cell.colspan) (words_text cell.words),
    )

-- a row takes 412 at most
rows_length : (rows : List (List DemoCell)) → AllByRecursion IsDrawnRow rows → length (flat_map row_text rows) ≤ 412 * length rows
rows_length [] all = omega arith
rows_length (cells ∷ rows) all =
    omega (
      arith,
      cells_length cells (all.0).each,
      (all.0).narrow,
      rows_length rows all.1,
      length-append (row_text cells) (flat_map row_text rows),
      length-append (codes "<tr>") (flat_map cell_text cells),
    )

-- a file with a number's text is within its limit
pub demo_length : (number : ℕ) → length (demo_text_of number) ≤ MAX_FILE_BYTES
unfolding demo_text_of
demo_length number =
    let rows = demo_rows number in
    let drawn = demo_rows_drawn number in
    omega (
      arith,
      rows_length rows drawn.0,
      drawn.1,
      length-append (codes "<table>" ++ flat_map row_text rows) (codes "</table>"),
      length-append (codes "<table>") (flat_map row_text rows),
    )

-- ---- the text is tokens

abbrev pub demo_items : ℕ → List Item
demo_items number = table_items (demo_rows number)

-- the text spells the tokens of its tags
pub demo_tokens : (number : ℕ) →
    (tokens : List Token) × (SpellsTokens (demo_text_of number) tokens ×
    (map kind_of tokens ≡ flat_map item_kinds (demo_items number)))
unfolding demo_text_of
demo_tokens number =
    let rows = demo_rows number in
    let ascii = text_ascii rows in
    let same = chars-IsAscii (rows_text rows) ascii in
    items_spelt (rows_text rows) (table_items rows) (IsUtf8-from_ascii (rows_text rows) ascii) (same ∙ text_written rows)
    (ap without_mark same ∙ sym same) (items_are rows (demo_rows_drawn number).0)
