-- The table of a number: thirty rows over six columns, with cells, words and letters drawn by a
-- linear congruential generator, and its text as a table file. The generator multiplies and adds as
-- ISO C's example of `rand` does (ISO/IEC 9899:1999, 7.20.2.2).
use Rattle.std.specs.Prelude.{ℕ, zero, suc, ◌+◌, ◌*◌, ◌/◌, ◌%◌, ◌^◌, ◌==◌, List, [], ◌∷◌, ◌++◌}
use Rattle.std.specs.Prelude.{codes, replicate, if◌then◌else◌}
use Rattle.std.specs.List.{flat_map, join_by}

-- ---- draws

-- the state after a draw
unfoldable pub next_state : ℕ → ℕ
next_state state = (state * 1103515245 + 12345) % 2 ^ 31

-- what is drawn in a state: a number below `below`, from the upper bits of the next state
unfoldable pub drawn_number : ℕ → ℕ → ℕ
drawn_number below state = next_state state / 65536 % below

-- something drawn, and the state after it
pub record Drawn (A : Type 0) : Type 0 where
  pub value : A
  pub state : ℕ

-- ---- the table

-- a cell: how many columns it is over, and the lengths of its words
pub record DemoCell : Type 0 where
  pub colspan : ℕ
  pub words : List ℕ

-- so many words, each of 1 to 8 letters
abbrev pub words_from : ℕ → ℕ → Drawn (List ℕ)
words_from zero state = record { value = []; state = state }
words_from (suc count) state =
    let others = words_from count (next_state state) in
    record { value = (1 + drawn_number 8 state) ∷ others.value; state = others.state }

-- the words of a cell: 1 to 6
abbrev pub cell_words_from : ℕ → Drawn (List ℕ)
cell_words_from state = words_from (1 + drawn_number 6 state) (next_state state)

-- a cell over so many columns
abbrev pub cell_from : ℕ → ℕ → Drawn DemoCell
cell_from colspan state =
    let words = cell_words_from state in
    record { value = record { colspan = colspan; words = words.value }; state = words.state }

-- a cell over so many columns, and the cells that are drawn after it
abbrev pub cell_before : (ℕ → Drawn (List DemoCell)) → ℕ → ℕ → Drawn (List DemoCell)
cell_before others_from colspan state =
    let cell = cell_from colspan state in
    let others = others_from cell.state in
    record { value = cell.value ∷ others.value; state = others.state }

-- the cells of a row over the columns that are left. A cell is over two columns where 0 is drawn
-- for it; in the last column none is, whatever is drawn
unfoldable pub cells_from : ℕ → ℕ → Drawn (List DemoCell)
cells_from zero state = record { value = []; state = state }
cells_from (suc zero) state = cell_before (cells_from zero) 1 (next_state state)
cells_from (suc (suc left)) state =
    if drawn_number 5 state == 0 then cell_before (cells_from left) 2 (next_state state) else
    cell_before (cells_from (suc left)) 1 (next_state state)

-- so many rows of six columns
unfoldable pub rows_from : ℕ → ℕ → Drawn (List (List DemoCell))
rows_from zero state = record { value = []; state = state }
rows_from (suc count) state =
    let row = cells_from 6 state in
    let others = rows_from count row.state in
    record { value = row.value ∷ others.value; state = others.state }

-- the rows of a number's table
unfoldable pub demo_rows : ℕ → List (List DemoCell)
demo_rows number = (rows_from 30 (number % 2 ^ 31)).value

-- ---- its text

-- a word of so many letters `a`
abbrev pub word_text : ℕ → List ℕ
word_text length = replicate length 0x61

-- words with a space between each two
abbrev pub words_text : List ℕ → List ℕ
words_text lengths = join_by word_text (codes " ") lengths

-- the tag of a cell over two columns, or over one
abbrev pub tag_text : ℕ → List ℕ
tag_text colspan = if colspan == 2 then codes "<td colspan=2>" else codes "<td>"

-- a cell: its tag and its words
abbrev pub cell_text : DemoCell → List ℕ
cell_text cell = tag_text cell.colspan ++ words_text cell.words

-- a row: its tag and its cells
abbrev pub row_text : List DemoCell → List ℕ
row_text cells = codes "<tr>" ++ flat_map cell_text cells

-- a table of these rows
abbrev pub rows_text : List (List DemoCell) → List ℕ
rows_text rows = codes "<table>" ++ flat_map row_text rows ++ codes "</table>"

-- the text of a number's table, in bytes
unfoldable pub demo_text_of : ℕ → List ℕ
demo_text_of number = rows_text (demo_rows number)
