-- Trimming on small lines.
use Rattle.std.proofs.Common.{◌≡◌, [], ◌∷◌, map, refl}
use Rattle.std.specs.Prelude.{codes}
use Rattle.tl_page.specs.Pages.{page_bytes}
use Rattle.tl_page.specs.Trimmed.{trimmed}

-- the spaces before and between words stay
between_words : trimmed (codes "  a b   ") ≡ codes "  a b"
between_words = refl

-- a line of spaces is an empty line
spaces_alone : trimmed (codes "   ") ≡ []
spaces_alone = refl

-- a line of a frame ends in no space
framed : trimmed (codes "|a |") ≡ codes "|a |"
framed = refl

-- a page has as many lines
three_lines : page_bytes (map trimmed (codes "aa  b" ∷ codes "     " ∷ codes "c    " ∷ [])) ≡ codes "aa  b\n\nc\n"
three_lines = refl
