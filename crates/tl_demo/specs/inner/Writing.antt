-- No public clause cites this file. Text appended while it is drawn.
use Rattle.std.specs.Prelude.{◌≡◌, ℕ, ◌&&◌, ◌==◌, nat_le, List, ◌++◌, codes, if◌then◌else◌}
use Rattle.std.specs.List.{flat_map}
use Rattle.tl_demo.specs.Demo.{DemoCell, Drawn, cell_text, word_text}

-- the text of what is drawn was appended, and the state is the one after it
pub record Appended (A : Type 0) (text_of : A → List ℕ) (piece : Drawn A) (old new : List ℕ)
    (end : ℕ) : Type 0 where
  pub text : new ≡ old ++ text_of piece.value
  pub state : end ≡ piece.state

-- a word that is not a cell's first has a space before it
abbrev pub next_word_text : ℕ → List ℕ
next_word_text length = codes " " ++ word_text length

-- words of which none is a cell's first
abbrev pub next_words_text : List ℕ → List ℕ
next_words_text lengths = flat_map next_word_text lengths

-- cells one after the other
abbrev pub cells_text : List DemoCell → List ℕ
cells_text cells = flat_map cell_text cells

-- a cell is over two columns where 0 was drawn and two columns are left
abbrev pub colspan_of : ℕ → ℕ → ℕ
colspan_of draw left = if draw == 0 && nat_le 2 left then 2 else 1
