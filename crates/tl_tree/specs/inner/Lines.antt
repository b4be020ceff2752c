-- What the paragraph that is open, and the blocks before it, come to. No public clause cites this file.
use Rattle.std.specs.Prelude.{◌≡◌, ℕ, ◌+◌, List, ◌++◌, map, sum_by, chars, string_bytes}
use Rattle.tl_base.specs.Text.{byte_count}
use Rattle.tl_text.specs.Paragraph.{atom_size}
use Rattle.tl_text.proofs.WordLemmas.{words_from}
use Rattle.tl_text.specs.declared.paragraph.Atom.{Atom}
use Rattle.tl_text.specs.declared.paragraph.Atom.TheVariants.{Word}
use Rattle.tl_tree.specs.Grammar.{Marks}
use Rattle.tl_tree.specs.Paragraphs.{first_text, after_breaks}
use Rattle.tl_tree.specs.declared.flow.Line.{Line}

-- the characters of the word that is open
abbrev pub open_word : Line → List ℕ
open_word line = chars (string_bytes line.word)

-- the atoms of the paragraph, where those marks are still to come
abbrev pub line_atoms : Line → Marks → List Atom
line_atoms line ms = line.atoms ++ (map Word (words_from (open_word line) (first_text ms)) ++ after_breaks ms)

-- how much the paragraph counts so far
abbrev pub line_size : Line → ℕ
line_size line = sum_by atom_size line.atoms + byte_count (open_word line)

-- the atoms after the text were those after the marks of the text
pub record ReadsMarks (old new : Line) (ms : Marks) : Type 0 where
  pub same : (later : Marks) → line_atoms new later ≡ line_atoms old (ms ++ later)
