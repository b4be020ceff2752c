-- The words of a text, read from the left.
use Rattle.std.proofs.Common.{◌≡◌, ℕ, ◌+◌, ◌<◌, Bool, true, false, cond, List, [], ◌∷◌, ◌++◌, length, filter, refl, ap, sym, ◌∙◌}
use Rattle.std.proofs.Common.{append_assoc, arith}
use Rattle.std.proofs.Common.{get_or, drop, not, ◌==◌}
use Rattle.std.specs.List.{slice_split, onto_first}
use Rattle.std.specs.Char.{is_ascii_whitespace}
use Rattle.std.proofs.lemmas.List.{at_drop_more, append-nil, length_push, drop_all}
use Rattle.std.proofs.lemmas.List.Splits.{slice_split-cons_yes, slice_split-cons_no}
use Rattle.std.proofs.lemmas.Bool.Decides.{nat_tests}
use Rattle.std.specs.Str.{chars, IsUtf8}
use Rattle.tl_base.proofs.Texts.{length-chars}
use Rattle.tl_base.proofs.Texts as texts
use Rattle.tl_text.specs.Words.{words_of, has_character}

-- the parts, where an open one goes on into the first
abbrev pub prepend : List ℕ → List (List ℕ) → List (List ℕ)
prepend word [] = word ∷ []
prepend word (part ∷ parts) = (word ++ part) ∷ parts

-- the words that come once an open word and what is left are read
abbrev pub words_from : List ℕ → List ℕ → List (List ℕ)
words_from word rest = filter has_character (prepend word (slice_split is_ascii_whitespace rest))

-- no word is open at the beginning
words_from-nil : (parts : List (List ℕ)) → filter has_character (prepend [] parts) ≡ filter has_character parts
words_from-nil [] = refl
words_from-nil (part ∷ parts) = refl

pub words_from-start : (rest : List ℕ) → words_from [] rest ≡ words_of rest
words_from-start rest = words_from-nil (slice_split is_ascii_whitespace rest)

-- a character of the open word
prepend-onto_first : (word : List ℕ) (c : ℕ) (parts : List (List ℕ)) →
    prepend word (onto_first c parts) ≡ prepend (word ++ c ∷ []) parts
prepend-onto_first word c [] = refl
prepend-onto_first word c (part ∷ parts) = ap (λ (first : List ℕ). first ∷ parts) (sym (append_assoc word (c ∷ []) part))

pub words_from-letter : (word rest : List ℕ) (c : ℕ) → is_ascii_whitespace c ≡ false →
    words_from word (c ∷ rest) ≡ words_from (word ++ c ∷ []) rest
words_from-letter word rest c letter =
    ap (λ parts. filter has_character (prepend word parts)) (slice_split-cons_no is_ascii_whitespace c rest letter)
    ∙ ap (λ parts. filter has_character parts) (prepend-onto_first word c (slice_split is_ascii_whitespace rest))

-- white space ends the open word
pub words_from-white : (word rest : List ℕ) (c : ℕ) → is_ascii_whitespace c ≡ true → words_from word (c ∷ rest)
    ≡ cond (has_character word) (word ∷ words_from [] rest) (words_from [] rest)
words_from-white word rest c white =
    ap (λ parts. filter has_character (prepend word parts)) (slice_split-cons_yes is_ascii_whitespace c rest white)
    ∙ rw (append-nil, words_from-nil) refl

-- the end of the text ends the open word
pub words_from-end : (word : List ℕ) → words_from word [] ≡ cond (has_character word) (word ∷ []) []
words_from-end word = rw append-nil refl

-- a word that is kept stands before those that come later
kept : (some : Bool) (word : List ℕ) (later : List (List ℕ)) → cond some (word ∷ []) [] ++ later ≡ cond some (word ∷ later) later
kept true word later = refl
kept false word later = refl

-- one more character, at the place after those that were read, is the first of what was left
pub first_left : (cs y : List ℕ) (c : ℕ) → (length y < length cs) × (c ≡ get_or cs (length y) c) →
    drop (length y) cs ≡ c ∷ drop (length (y ++ c ∷ [])) cs
first_left cs y c turn =
    at_drop_more (λ l. l) cs (length y) c turn.0 ∙ ap (λ first. first ∷ drop (length y + 1) cs) (sym turn.1)
    ∙ ap (λ n. c ∷ drop n cs) (sym (length_push y c))

module _ (list : List (List ℕ)) (cs y : List ℕ) (c : ℕ) (word : List ℕ)
    (turn : (length y < length cs) × (c ≡ get_or cs (length y) c))
    (so_far : list ++ words_from word (drop (length y) cs) ≡ words_of cs) where
  known : list ++ words_from word (c ∷ drop (length (y ++ c ∷ [])) cs) ≡ words_of cs
  known = ap (λ l. list ++ words_from word l) (sym (first_left cs y c turn)) ∙ so_far

  -- a letter goes on with the open word
  pub after_letter : is_ascii_whitespace c ≡ false → list ++ words_from (word ++ c ∷ [])
      (drop (length (y ++ c ∷ [])) cs) ≡ words_of cs
  after_letter letter =
      ap (λ words. list ++ words) (sym (words_from-letter word (drop (length (y ++ c ∷ [])) cs) c letter)) ∙ known

  -- white space ends the open word, if it has a character
  pub after_white : is_ascii_whitespace c ≡ true → (list ++ filter has_character (word ∷ [])) ++ words_from []
      (drop (length (y ++ c ∷ [])) cs)
      ≡ words_of cs
  after_white white =
      let later = words_from [] (drop (length (y ++ c ∷ [])) cs) in
      append_assoc list (filter has_character (word ∷ [])) later
      ∙ ap (λ words. list ++ words) (kept (has_character word) word later ∙ sym
      (words_from-white word (drop (length (y ++ c ∷ [])) cs) c white))
      ∙ known

-- nothing is left: the open word is the last
module _ (list : List (List ℕ)) (cs y word : List ℕ) (all : length y ≡ length cs)
    (so_far : list ++ words_from word (drop (length y) cs) ≡ words_of cs) where
  pub at_end : list ++ filter has_character (word ∷ []) ≡ words_of cs
  at_end = ap (λ words. list ++ words) (sym (words_from-end word) ∙ ap (λ l. words_from word l)
      (sym (drop_all (length y) cs (omega arith)))) ∙ so_far

-- whether a text has a character, by its bytes
pub has_character-chars : (bytes : List ℕ) → IsUtf8 bytes → has_character (chars bytes) ≡ not (length bytes == 0)
has_character-chars bytes utf8 =
    let more = texts.has_character bytes utf8 in
    let fewer = length-chars bytes utf8 in
    grind (arith, nat_tests)
