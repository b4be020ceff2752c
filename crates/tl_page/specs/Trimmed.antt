-- A page without the spaces at the ends of its lines. It has as many lines, and each is the line of the page up to its last
-- character that is no space.
use Rattle.std.specs.Prelude.{◌≡◌, ◌≢◌, ℕ, ◌==◌, if◌then◌else◌, List, [], ◌∷◌, ◌++◌, map}
use Rattle.tl_table.specs.declared.cell.Table.{Table}
use Rattle.tl_table.specs.declared.layout.Layout.{Layout}
use Rattle.tl_page.specs.declared.look.Look.{Look}
use Rattle.tl_page.specs.Pages.{IsPage, page_bytes}
use Rattle.tl_page.specs.Pictures.{spaces}
use Rattle.tl_page.specs.Standing.{TextStandsAt}
use Rattle.tl_page.specs.Widths.{TakesColumns}

-- a byte and what follows it; a space is left out where nothing follows
abbrev pub unless_last_space : ℕ → List ℕ → List ℕ
unless_last_space byte [] = if byte == 0x20 then [] else byte ∷ []
unless_last_space byte (next ∷ rest) = byte ∷ next ∷ rest

-- a line without the spaces at its end
abbrev pub trimmed : List ℕ → List ℕ
trimmed [] = []
trimmed (byte ∷ line) = unless_last_space byte (trimmed line)

-- the bytes of the table's page in the layout, without the spaces at the ends of its lines
abbrev pub IsTrimmedPage : Look → Table → Layout → List ℕ → Type 0
IsTrimmedPage look table layout bytes =
    (lines : List (List ℕ)) × IsPage look table layout lines × (bytes ≡ page_bytes (map trimmed lines))

-- ---- what trimming keeps

-- spaces alone are taken: a line is its trimmed line and then spaces
abbrev pub TrimmingTakesSpaces : Type 0
TrimmingTakesSpaces = (line : List ℕ) → (count : ℕ) × (line ≡ trimmed line ++ spaces count)

-- all of them: no trimmed line ends with a space
abbrev pub TrimmedLinesEndInText : Type 0
TrimmedLinesEndInText = (line before : List ℕ) → trimmed line ≢ before ++ 0x20 ∷ []

-- the text ends with another character than a space
abbrev pub EndsInText : List ℕ → Type 0
EndsInText text = (before : List ℕ) × (last : ℕ) × (last ≢ 0x20) × (text ≡ before ++ last ∷ [])

-- a text that ends in no space stands where it stood, whole
abbrev pub TrimmingKeepsText : Type 0
TrimmingKeepsText = (page : List (List ℕ)) (x y : ℕ) (text : List ℕ) → EndsInText text → TextStandsAt page x y text →
    TextStandsAt (map trimmed page) x y text

-- no line is wider than it was: filled with spaces, it takes as many columns
abbrev pub TrimmedLinesFillUp : Type 0
TrimmedLinesFillUp = (line : List ℕ) (columns : ℕ) → TakesColumns line columns →
    (count : ℕ) × TakesColumns (trimmed line ++ spaces count) columns
