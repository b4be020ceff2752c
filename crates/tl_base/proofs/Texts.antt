-- A text's bytes and its characters.
use Rattle.std.proofs.Common.{◌≡◌, ℕ, Bool, true, false, ◌==◌, IsTrue, ◌↔◌, ◌+◌, ◌<◌, ◌≤◌, List, [], ◌∷◌, ◌++◌, length, ap, arith}
use Rattle.std.proofs.Common.{refl, sym, ◌∙◌}
use Rattle.std.proofs.Common.{◌⊎◌, inl, inr, eq-eqb, length-append}
use Rattle.std.proofs.lemmas.Bool.{cases_lt, eqb-true}
use Rattle.std.specs.Prelude.{bytes_eq}
use Rattle.std.specs.Char.{encode_utf8}
use Rattle.std.specs.Str.{chars, IsUtf8, encode_utf8_all}
use Rattle.std.proofs.lemmas.List.{append-nil, nil_from_length}
use Rattle.std.proofs.lemmas.Slice.Eq.{bytes_eq-Decides}
use Rattle.std.proofs.lemmas.Str.{encodes-chars, encodes-append, chars_from_encodes, length-le-encodes}
use Rattle.tl_base.specs.Text.{byte_count}

-- a text has as many bytes as its characters take
pub byte_count-chars : (bytes : List ℕ) → IsUtf8 bytes → byte_count (chars bytes) ≡ length bytes
byte_count-chars bytes utf8 = ap length (encodes-chars bytes utf8)

-- a text has no more characters than bytes
pub length-chars : (bytes : List ℕ) → IsUtf8 bytes → length (chars bytes) ≤ length bytes
length-chars bytes utf8 = omega (arith, length-le-encodes (chars bytes), byte_count-chars bytes utf8)

-- a text with a byte has a character
pub has_character : (bytes : List ℕ) → IsUtf8 bytes → 0 < length bytes → 0 < length (chars bytes)
has_character bytes utf8 some = some_of (chars bytes) (byte_count-chars bytes utf8)
  where
    some_of : (characters : List ℕ) → byte_count characters ≡ length bytes → 0 < length characters
    some_of [] none = absurd (omega (arith, some))
    some_of (c ∷ characters) counted = omega arith

-- the text with one more character at its end
pub chars-push : (bytes more : List ℕ) (c : ℕ) → IsUtf8 bytes → IsUtf8 more → more ≡ bytes ++ encode_utf8 c →
    chars more ≡ chars bytes ++ c ∷ []
chars-push bytes more c utf8 valid is =
    sym (chars_from_encodes (chars bytes ++ c ∷ []) more valid (
    encodes-append (chars bytes) (c ∷ []) ∙ ap (λ prefix. prefix ++ encode_utf8_all (c ∷ [])) (encodes-chars bytes utf8)
    ∙ ap (λ last. bytes ++ last) (append-nil (encode_utf8 c)) ∙ sym is))

-- two tests that hold together are the same
pub same_test : (p q : Bool) → (p ≡ true → q ≡ true) → (q ≡ true → p ≡ true) → p ≡ q
same_test true q to from = sym (to refl)
same_test false true to from = from refl
same_test false false to from = refl

-- texts have the same characters just where they have the same bytes
pub same_characters : (a b : List ℕ) → IsUtf8 a → IsUtf8 b → bytes_eq a b ≡ bytes_eq (chars a) (chars b)
same_characters a b a_utf8 b_utf8 =
    same_test (bytes_eq a b) (bytes_eq (chars a) (chars b))
    (λ same. (bytes_eq-Decides (chars a) (chars b)).1 (ap chars ((bytes_eq-Decides a b).0 same)))
    (λ same. (bytes_eq-Decides a b).1 (
    sym (encodes-chars a a_utf8) ∙ ap encode_utf8_all ((bytes_eq-Decides (chars a) (chars b)).0 same) ∙ encodes-chars b b_utf8))

-- where there is no byte there is no character, and the other way round
no_byte : (bytes text : List ℕ) → IsUtf8 bytes → chars bytes ≡ text → (length bytes ≡ 0) ↔ (text ≡ [])
no_byte bytes text utf8 same = (
  λ none. nil_from_length text (omega (arith, length-chars bytes utf8, ap length same)),
  λ none. none_of (cases_lt 0 (length bytes)) none,
) where
  none_of : (0 < length bytes) ⊎ (length bytes ≤ 0) → text ≡ [] → length bytes ≡ 0
  none_of (inl some) none = absurd (omega (arith, has_character bytes utf8 some, ap length same, ap length none))
  none_of (inr zero) none = omega (arith, zero)

-- whether a text has no character is told by its bytes
pub tells_no_character : (bytes text : List ℕ) (told : Bool) → IsUtf8 bytes → told ≡ (length bytes == 0) → chars bytes ≡ text →
    IsTrue told ↔ (text ≡ [])
tells_no_character bytes text told utf8 is same =
    let both = no_byte bytes text utf8 same in (
      λ yes. both.0 (eqb-true (length bytes) 0 (sym is ∙ yes)),
      λ none. is ∙ eq-eqb (length bytes) 0 (both.1 none),
    )

-- two texts together have as many bytes as both
pub byte_count-append : (xs ys : List ℕ) → byte_count (xs ++ ys) ≡ byte_count xs + byte_count ys
byte_count-append xs ys = ap length (encodes-append xs ys) ∙ length-append (encode_utf8_all xs) (encode_utf8_all ys)

-- the bytes of a character and of the text after it
pub byte_count-cons : (c : ℕ) (text : List ℕ) → byte_count (c ∷ text) ≡ length (encode_utf8 c) + byte_count text
byte_count-cons c text = length-append (encode_utf8 c) (encode_utf8_all text)
