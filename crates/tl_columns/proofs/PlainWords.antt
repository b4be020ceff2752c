-- The words of a text without control characters have none.
use Rattle.std.proofs.Common.{◌≡◌, ℕ, Bool, true, false, cond, List, [], ◌∷◌, map, filter, refl}
use Rattle.std.specs.List.{AllByRecursion, list_any, slice_split, onto_first}
use Rattle.std.specs.Char.{is_ascii_whitespace}
use Rattle.std.proofs.lemmas.Bool.{or_parts}
use Rattle.std.proofs.lemmas.List.Splits.{slice_split-cons_yes, slice_split-cons_no}
use Rattle.tl_token.specs.Characters.{is_control}
use Rattle.tl_text.specs.declared.paragraph.Atom.TheVariants.{Word}
use Rattle.tl_text.specs.Words.{words_of, has_character}
use Rattle.tl_tree.specs.Sound.{IsPlainAtom}

-- no character of the text is a control character
abbrev IsPlainText : List ℕ → Type 0
IsPlainText text = list_any is_control text ≡ false

-- one more character that is none
plain_more : (c : ℕ) (parts : List (List ℕ)) → is_control c ≡ false → AllByRecursion IsPlainText parts →
    AllByRecursion IsPlainText (onto_first c parts)
plain_more c [] letter plain = (rw letter, tt)
plain_more c (part ∷ parts) letter plain = (rw letter plain.0, plain.1)

-- the parts between white space
plain_parts : (text : List ℕ) → IsPlainText text → AllByRecursion IsPlainText (slice_split is_ascii_whitespace text)
plain_parts [] plain = (refl, tt)
plain_parts (c ∷ text) plain =
    let (letter, later) = or_parts (is_control c) (list_any is_control text) plain in
    by (is_ascii_whitespace c) refl letter (plain_parts text later)
  where
    by : (white : Bool) → is_ascii_whitespace c ≡ white → is_control c ≡ false →
        AllByRecursion IsPlainText (slice_split is_ascii_whitespace text) →
        AllByRecursion IsPlainText (slice_split is_ascii_whitespace (c ∷ text))
    by true is letter parts = rw (slice_split-cons_yes is_ascii_whitespace c text is) (refl, parts)
    by false is letter parts = rw (slice_split-cons_no is_ascii_whitespace c text is)
        (plain_more c (slice_split is_ascii_whitespace text) letter parts)

-- those of them that are words
plain_kept : (parts : List (List ℕ)) → AllByRecursion IsPlainText parts →
    AllByRecursion IsPlainAtom (map Word (filter has_character parts))
plain_kept [] plain = tt
plain_kept (part ∷ parts) plain = by (has_character part) (plain_kept parts plain.1)
  where
    by : (some : Bool) → AllByRecursion IsPlainAtom (map Word (filter has_character parts)) →
        AllByRecursion IsPlainAtom (map Word (cond some (part ∷ filter has_character parts) (filter has_character parts)))
    by true kept = (plain.0, kept)
    by false kept = kept

-- the words of a text without control characters are plain
pub words_are_plain : (text : List ℕ) → list_any is_control text ≡ false → AllByRecursion IsPlainAtom (map Word (words_of text))
words_are_plain text plain = plain_kept (slice_split is_ascii_whitespace text) (plain_parts text plain)
