-- How the marks of a document become the outline of its tree: characters and line breaks become
-- paragraphs, and the tables are numbered as they begin.
use Rattle.std.specs.Prelude.{ℕ, ◌+◌, List, [], ◌∷◌, ◌++◌, map}
use Rattle.tl_text.specs.declared.paragraph.Atom.{Atom}
use Rattle.tl_text.specs.declared.paragraph.Atom.TheVariants.{Word, Break}
use Rattle.tl_text.specs.Words.{words_of}
use Rattle.tl_tree.specs.Grammar as marks
use Rattle.tl_tree.specs.Grammar.{Mark, Marks, character, line_break}
use Rattle.tl_tree.specs.Outline.{Entries, table, caption, columns, group, row, cell, paragraph, table_end}

-- the characters and line breaks with which the marks begin, up to the first other mark
abbrev pub leading : Marks → Marks
leading [] = []
leading (character c ∷ ms) = character c ∷ leading ms
leading (line_break ∷ ms) = line_break ∷ leading ms
leading (_ ∷ ms) = []

-- the characters up to the first line break
abbrev pub first_text : Marks → List ℕ
first_text [] = []
first_text (character c ∷ ms) = c ∷ first_text ms
first_text (_ ∷ ms) = []

-- a break at each line break, and after it the words of the text up to the next one
abbrev pub after_breaks : Marks → List Atom
after_breaks [] = []
after_breaks (line_break ∷ ms) = Break ∷ (map Word (words_of (first_text ms)) ++ after_breaks ms)
after_breaks (_ ∷ ms) = after_breaks ms

-- the words of the texts, with a break at each line break
abbrev pub atoms_of : Marks → List Atom
atoms_of ms = map Word (words_of (first_text ms)) ++ after_breaks ms

-- a paragraph of these atoms, if there are any
abbrev pub paragraph_of : List Atom → Entries
paragraph_of [] = []
paragraph_of (atom ∷ atoms) = paragraph (atom ∷ atoms) ∷ []

-- the entry that a mark adds, with `k` as the number of the next table
abbrev pub entry_of : ℕ → Mark → Entries
entry_of k marks.table_begins = table k ∷ []
entry_of k marks.caption_begins = caption ∷ []
entry_of k (marks.columns n) = columns n ∷ []
entry_of k (marks.group_begins part) = group part ∷ []
entry_of k marks.row_begins = row ∷ []
entry_of k (marks.cell_begins head spans) = cell head spans.colspan spans.rowspan spans.least spans.align ∷ []
entry_of k marks.table_ends = table_end ∷ []
entry_of k _ = []

-- the number of the next table after a mark, where it was `k` before the mark
abbrev pub number_after : ℕ → Mark → ℕ
number_after k marks.table_begins = k + 1
number_after k _ = k

-- the paragraph that begins after a mark, before those marks: none after a character or a line break,
-- which stand in a paragraph themselves
abbrev pub paragraph_after : Mark → Marks → Entries
paragraph_after (character c) ms = []
paragraph_after line_break ms = []
paragraph_after _ ms = paragraph_of (atoms_of (leading ms))

-- the entries of the marks, apart from a paragraph with which they begin; `k` is the number of the first table
abbrev pub entries_after : ℕ → Marks → Entries
entries_after k [] = []
entries_after k (m ∷ ms) = entry_of k m ++ (paragraph_after m ms ++ entries_after (number_after k m) ms)

-- The entries of the marks, with `k` as the number of the first table.
abbrev pub entries_of : ℕ → Marks → Entries
entries_of k ms = paragraph_of (atoms_of (leading ms)) ++ entries_after k ms
