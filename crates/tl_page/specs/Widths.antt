-- How many columns a text of a page takes: those of the pieces that it is put together from, side by side.
use Rattle.std.specs.Prelude.{◌≡◌, ◌⊎◌, ℕ, List, sum_by}
use Rattle.std.specs.Char.{encode_utf8}
use Rattle.std.specs.List.{AllByRecursion, flat_map}
use Rattle.tl_text.specs.declared.paragraph.Atom.{Atom}
use Rattle.tl_text.specs.Paragraph.{unit_width}
use Rattle.tl_page.specs.declared.line.TextLine.{TextLine}
use Rattle.tl_page.specs.Pages.{text_of}
use Rattle.tl_page.specs.Signs.{IsSign}

-- a unit of a paragraph with the columns of its text, or a sign with one column
abbrev pub IsPiece : TextLine → Type 0
IsPiece piece = ((unit : Atom) × (piece ≡ record { text = text_of unit; width = unit_width unit }))
    ⊎ ((sign : ℕ) × IsSign sign × (piece ≡ record { text = encode_utf8 sign; width = 1 }))

-- the text is put together from pieces that take `width` columns in all
pub record TakesColumns (text : List ℕ) (width : ℕ) : Type 0 where
  pub pieces : List TextLine
  pub each : AllByRecursion IsPiece pieces
  pub bytes : flat_map (λ piece. piece.text) pieces ≡ text
  pub columns : sum_by (λ piece. piece.width) pieces ≡ width
