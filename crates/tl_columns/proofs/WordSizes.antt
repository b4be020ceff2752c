-- The units of a field's words count no more bytes than the field.
use Rattle.std.proofs.Common.{ℕ, ◌≤◌, List, length, map, sum_by, arith}
use Rattle.std.specs.Str.{IsUtf8, chars}
use Rattle.tl_base.specs.declared.breaking.Breaking.{Breaking}
use Rattle.tl_base.proofs.Texts.{byte_count-chars}
use Rattle.tl_table.specs.Formed.{broken}
use Rattle.tl_table.proofs.UnitSizes.{broken_size}
use Rattle.tl_text.specs.declared.paragraph.Atom.TheVariants.{Word}
use Rattle.tl_text.specs.Paragraph.{atom_size}
use Rattle.tl_text.specs.Words.{words_of}
use Rattle.tl_text.proofs.WordParagraphs.{words_count}

-- the units of a field's words count no more bytes than the field
pub units_size : (breaking : Breaking) (field : List ℕ) → IsUtf8 field →
    sum_by atom_size (broken breaking (map Word (words_of (chars field)))) ≤ length field
units_size breaking field utf8 = omega (
  arith,
  broken_size breaking (map Word (words_of (chars field))),
  words_count (chars field),
  byte_count-chars field utf8,
)
