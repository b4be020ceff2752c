-- Paragraphs: which lists of units and breaks are one, and the pieces between its breaks.
use Rattle.std.specs.Prelude.{◌≡◌, ℕ, ◌<◌, ◌≤◌, Bool, true, false, List, [], ◌∷◌, length, sum_by}
use Rattle.std.specs.List.{All, onto_first, list_any}
use Rattle.std.specs.Char.{is_ascii_whitespace}
use Rattle.tl_base.specs.declared.limits.TheConstants.{MAX_FILE_BYTES}
use Rattle.tl_base.specs.Text.{byte_count}
use Rattle.tl_text.specs.declared.paragraph.Atom.{Atom}
use Rattle.tl_text.specs.declared.paragraph.Atom.TheVariants.{Word, Glue, Break}
use Rattle.tl_text.specs.Words.{width_of}

-- a unit's width in columns
abbrev pub unit_width : Atom → ℕ
unit_width (Word text) = width_of text
unit_width (Glue text) = width_of text
unit_width Break = 0

-- the columns before a unit within a line: a gap of one where it begins a word
abbrev pub gap_before : Atom → ℕ
gap_before (Word text) = 1
gap_before (Glue text) = 0
gap_before Break = 0

-- the pieces that make lines: the units before each break, and those after the last break if any
-- stand there
abbrev pub lined_pieces : List Atom → List (List Atom)
lined_pieces [] = []
lined_pieces (Break ∷ atoms) = [] ∷ lined_pieces atoms
lined_pieces (unit ∷ atoms) = onto_first unit (lined_pieces atoms)

-- the first of these units goes on with a word
abbrev pub begins_with_glue : List Atom → Bool
begins_with_glue (Glue text ∷ units) = true
begins_with_glue _ = false

-- some piece begins with a unit that goes on with a word, though there is none to go on with
abbrev pub has_leading_glue : List Atom → Bool
has_leading_glue atoms = list_any begins_with_glue (lined_pieces atoms)

-- a unit's text has a character, and none that is white space
abbrev pub IsSolid : List ℕ → Type 0
IsSolid text = (0 < length text) × (list_any is_ascii_whitespace text ≡ false)

-- the text of a unit is solid; a break has none
abbrev pub IsSpeltAtom : Atom → Type 0
IsSpeltAtom (Word text) = IsSolid text
IsSpeltAtom (Glue text) = IsSolid text
IsSpeltAtom Break = Unit {0}

-- what an atom counts towards a paragraph's size: a unit its bytes, a break 1
abbrev pub atom_size : Atom → ℕ
atom_size (Word text) = byte_count text
atom_size (Glue text) = byte_count text
atom_size Break = 1

-- a list of atoms that is a paragraph
pub record IsParagraph (atoms : List Atom) : Type 0 where
  pub has_atom : 0 < length atoms
  pub begun : has_leading_glue atoms ≡ false
  pub spelt : All IsSpeltAtom atoms
  pub size : sum_by atom_size atoms ≤ MAX_FILE_BYTES
