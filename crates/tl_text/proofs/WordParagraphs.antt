-- The words of a text are a paragraph, where there is one and the text is within the limit.
use Rattle.std.proofs.Common.{◌≡◌, ℕ, ◌+◌, ◌<◌, ◌≤◌, Bool, true, false, cond, ◌||◌, List, [], ◌∷◌, length, map, filter, sum_by}
use Rattle.std.proofs.Common.{refl, arith}
use Rattle.std.specs.List.{AllByRecursion, list_any, slice_split, onto_first}
use Rattle.std.specs.Char.{is_ascii_whitespace, encode_utf8}
use Rattle.std.proofs.lemmas.List.{length-map}
use Rattle.std.proofs.lemmas.Bool.{ltb-true}
use Rattle.std.proofs.lemmas.List.Sums.{sum_by-cons}
use Rattle.std.proofs.lemmas.List.Elements.{All-from_recursion}
use Rattle.std.proofs.lemmas.List.Splits.{slice_split-cons_yes, slice_split-cons_no}
use Rattle.tl_base.specs.declared.limits.TheConstants.{MAX_FILE_BYTES}
use Rattle.tl_base.proofs.Texts.{byte_count-cons}
use Rattle.tl_text.specs.declared.paragraph.Atom.{Atom}
use Rattle.tl_text.specs.declared.paragraph.Atom.TheVariants.{Word}
use Rattle.tl_base.specs.Text.{byte_count}
use Rattle.tl_text.specs.Words.{words_of, has_character}
use Rattle.tl_text.specs.Paragraph.{IsSolid, IsSpeltAtom, IsParagraph, atom_size, lined_pieces, begins_with_glue}
use Rattle.tl_text.specs.Paragraph.{has_leading_glue}

-- a part of a text without white space
abbrev IsClean : List ℕ → Type 0
IsClean part = list_any is_ascii_whitespace part ≡ false

-- one more character that is no white space
clean_more : (c : ℕ) (parts : List (List ℕ)) → is_ascii_whitespace c ≡ false → AllByRecursion IsClean parts →
    AllByRecursion IsClean (onto_first c parts)
clean_more c [] solid clean = (rw solid, tt)
clean_more c (part ∷ parts) solid clean = (rw solid clean.0, clean.1)

size_more : (c : ℕ) (parts : List (List ℕ)) → sum_by byte_count (onto_first c parts) ≡ length
    (encode_utf8 c) + sum_by byte_count parts
size_more c [] = omega (arith, byte_count-cons c [])
size_more c (part ∷ parts) =
    omega (arith, byte_count-cons c part, sum_by-cons byte_count (c ∷ part) parts, sum_by-cons byte_count part parts)

-- parts without white space, no longer than the text
abbrev AreParts : List ℕ → List (List ℕ) → Type 0
AreParts text parts = AllByRecursion IsClean parts × (sum_by byte_count parts ≤ byte_count text)

-- one more character before it
parts_more : (c : ℕ) (text : List ℕ) (white : Bool) → is_ascii_whitespace c ≡ white →
    AreParts text (slice_split is_ascii_whitespace text) →
    AreParts (c ∷ text) (slice_split is_ascii_whitespace (c ∷ text))
parts_more c text true is parts = rw (slice_split-cons_yes is_ascii_whitespace c text is) (
  (refl, parts.0),
  omega (
    arith,
    parts.1,
    byte_count-cons c text,
    sum_by-cons byte_count [] (slice_split is_ascii_whitespace text),
  ),
)
parts_more c text false is parts = rw (slice_split-cons_no is_ascii_whitespace c text is) (
  clean_more c (slice_split is_ascii_whitespace text) is parts.0,
  omega (arith, parts.1, byte_count-cons c text, size_more c (slice_split is_ascii_whitespace text)),
)

-- the parts between white space
parts_of : (text : List ℕ) → AreParts text (slice_split is_ascii_whitespace text)
parts_of [] = ((refl, tt), omega arith)
parts_of (c ∷ text) = parts_more c text (is_ascii_whitespace c) refl (parts_of text)

-- a word has a character, and none that is white space
solid_more : (part : List ℕ) (parts : List (List ℕ)) (some : Bool) → has_character part ≡ some → IsClean part →
    AllByRecursion IsSolid parts → AllByRecursion IsSolid (cond some (part ∷ parts) parts)
solid_more part parts false is clean solid = solid
solid_more part parts true is clean solid = ((ltb-true 0 (length part) is, clean), solid)

solid_words : (parts : List (List ℕ)) → AllByRecursion IsClean parts → AllByRecursion IsSolid (filter has_character parts)
solid_words [] clean = tt
solid_words (part ∷ parts) clean =
    solid_more part (filter has_character parts) (has_character part) refl clean.0 (solid_words parts clean.1)

-- the parts that are kept are no longer than all
kept_size : (part : List ℕ) (parts : List (List ℕ)) (some : Bool) →
    sum_by byte_count (cond some (part ∷ parts) parts) ≤ byte_count part + sum_by byte_count parts
kept_size part parts false = omega arith
kept_size part parts true = omega (arith, sum_by-cons byte_count part parts)

words_size : (parts : List (List ℕ)) → sum_by byte_count (filter has_character parts) ≤ sum_by byte_count parts
words_size [] = omega arith
words_size (part ∷ parts) = omega (
  arith,
  words_size parts,
  kept_size part (filter has_character parts) (has_character part),
  sum_by-cons byte_count part parts,
)

-- words as units that begin one
spelt_words : (words : List (List ℕ)) → AllByRecursion IsSolid words → AllByRecursion IsSpeltAtom (map Word words)
spelt_words [] solid = tt
spelt_words (word ∷ words) solid = (solid.0, spelt_words words solid.1)

atoms_size : (words : List (List ℕ)) → sum_by atom_size (map Word words) ≡ sum_by byte_count words
atoms_size [] = refl
atoms_size (word ∷ words) =
    omega (arith, atoms_size words, sum_by-cons atom_size (Word word) (map Word words), sum_by-cons byte_count word words)

-- no piece of them begins with a unit that goes on with a word
pub begun_more : (word : List ℕ) (pieces : List (List Atom)) → list_any begins_with_glue pieces ≡ false →
    list_any begins_with_glue (onto_first (Word word) pieces) ≡ false
begun_more word [] begun = refl
begun_more word (piece ∷ pieces) begun = rest (begins_with_glue piece) begun where
  rest : (glue : Bool) → (glue || list_any begins_with_glue pieces) ≡ false → list_any begins_with_glue pieces ≡ false
  rest false begun = begun
  rest true begun = cc

begun_words : (words : List (List ℕ)) → has_leading_glue (map Word words) ≡ false
begun_words [] = refl
begun_words (word ∷ words) = begun_more word (lined_pieces (map Word words)) (begun_words words)

-- the units of a text's words count no more bytes than the text
pub words_count : (text : List ℕ) → sum_by atom_size (map Word (words_of text)) ≤ byte_count text
words_count text = omega (
  arith,
  atoms_size (words_of text),
  words_size (slice_split is_ascii_whitespace text),
  (parts_of text).1,
)

-- the words of a text within the limit are a paragraph
pub words_are_paragraph : (text : List ℕ) → byte_count text ≤ MAX_FILE_BYTES → 0 < length (words_of text) →
    IsParagraph (map Word (words_of text))
words_are_paragraph text small some =
    let parts = parts_of text in
    record {
      has_atom = grind (arith, length-map);
      begun = begun_words (words_of text);
      spelt = All-from_recursion IsSpeltAtom (map Word (words_of text))
          (spelt_words (words_of text) (solid_words (slice_split is_ascii_whitespace text) parts.0));
      size = omega (arith, words_count text);
    }
