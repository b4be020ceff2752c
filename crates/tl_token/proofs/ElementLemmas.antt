-- A name compared with a lowercase word, as bytes and as characters.
use Rattle.std.proofs.Common.{◌≡◌, ℕ, zero, suc, ◌<◌, ◌≤◌, Bool, true, ◌||◌, List, [], ◌∷◌, refl, sym, ap, ◌∙◌, subst, inl, inr}
use Rattle.std.proofs.Common.{map, arith}
use Rattle.std.proofs.lemmas.Bool.{and_parts}
use Rattle.std.proofs.lemmas.Bool.Decides.{nat_tests}
use Rattle.std.proofs.lemmas.Str.{chars-IsAscii, encodes-IsAscii, encodes-chars}
use Rattle.std.specs.Prelude.{IsTrue, nat_eq, ◌↔◌}
use Rattle.std.specs.Str.{chars, IsUtf8, IsAscii}
use Rattle.std.specs.Char.{to_ascii_lowercase, is_ascii_lowercase}
use lib.Pointwise.{pointwise, bytes_decides}
use Rattle.tl_base.proofs.Texts.{same_test}
use Rattle.tl_token.specs.Characters.{◌∈◌}
use Rattle.tl_token.specs.Elements.{is_word, is_lowercase}
use Rattle.tl_token.proofs.CharacterTests.{or_cases, is_it}

lower_le : (c : ℕ) → c ≤ to_ascii_lowercase c
lower_le c = grind (arith, nat_tests)

small_letter : (c : ℕ) → is_ascii_lowercase c ≡ true → (c < 128) × (to_ascii_lowercase c ≡ c)
small_letter c h = (grind (arith, nat_tests, h), grind (arith, nat_tests, h))

small_is : (c : ℕ) → (is_ascii_lowercase c || c ∈ "-") ≡ true → (c < 128) × (to_ascii_lowercase c ≡ c)
small_is c h = elim (or_cases (is_ascii_lowercase c) (c ∈ "-") h) [
  | inl s ↦ small_letter c s
  | inr d ↦ let P : ℕ → Type 0 = λ x. (x < 128) × (to_ascii_lowercase x ≡ x) in
      subst P (sym (is_it c 45 (d.1))) (omega arith, refl)
]

-- a lowercase word in lowercase is itself
small_lower : (w : List ℕ) → is_lowercase w ≡ true → map to_ascii_lowercase w ≡ w
small_lower [] h = refl
small_lower (c ∷ w) h =
    let (head, later) = and_parts (is_ascii_lowercase c || c ∈ "-") (is_lowercase w) h in
    let first : to_ascii_lowercase c ≡ c = (small_is c head).1 in
    let others = small_lower w later in
    cc

ascii_first : (b : ℕ) (bs : List ℕ) → b < 128 → IsAscii bs → IsAscii (b ∷ bs)
ascii_first b bs h k zero = h
ascii_first b bs h k (suc i) = k i

-- what is a lowercase word in lowercase is ASCII
ascii_from_lower : (bs w : List ℕ) → is_lowercase w ≡ true → map to_ascii_lowercase bs ≡ w → IsAscii bs
ascii_from_lower [] w h e = λ i. omega arith
ascii_from_lower (b ∷ bs) [] h e = cc
ascii_from_lower (b ∷ bs) (c ∷ w) h e =
    let (head, later) = and_parts (is_ascii_lowercase c || c ∈ "-") (is_lowercase w) h in
    let first : to_ascii_lowercase b ≡ c = cc in
    let others : map to_ascii_lowercase bs ≡ w = cc in
    ascii_first b bs (omega (arith, lower_le b, (small_is c head).0)) (ascii_from_lower bs w later others)

ascii_small : (w : List ℕ) → is_lowercase w ≡ true → IsAscii w
ascii_small w h = ascii_from_lower w w h (small_lower w h)

-- as bytes and as characters
pub word_bytes : (bs w : List ℕ) → IsUtf8 bs → is_lowercase w ≡ true → map to_ascii_lowercase (chars bs) ≡ w →
    map to_ascii_lowercase bs
    ≡ map to_ascii_lowercase w
word_bytes bs w u h e =
    let same : chars bs ≡ bs = sym (encodes-IsAscii (chars bs) (ascii_from_lower (chars bs) w h e)) ∙ encodes-chars bs u in
    ap (map to_ascii_lowercase) (sym same) ∙ e ∙ sym (small_lower w h)

pub word_characters : (bs w : List ℕ) → is_lowercase w ≡ true → map to_ascii_lowercase bs ≡ map to_ascii_lowercase w →
    map to_ascii_lowercase (chars bs) ≡ w
word_characters bs w h e =
    let k = e ∙ small_lower w h in
    ap (map to_ascii_lowercase) (chars-IsAscii bs (ascii_from_lower bs w h k)) ∙ k

-- what a comparison of bytes without case tells
pub is_word_from : (bs w : List ℕ) (b : Bool) → IsUtf8 bs → is_lowercase w ≡ true
    → (IsTrue b ↔ (map to_ascii_lowercase bs ≡ map to_ascii_lowercase w)) → b ≡ is_word (chars bs) w
is_word_from bs w b u h same = same_test b (is_word (chars bs) w)
    (λ t. (bytes_decides (map to_ascii_lowercase (chars bs)) w).1 (word_characters bs w h (same.0 t)))
    (λ t. same.1 (word_bytes bs w u h ((bytes_decides (map to_ascii_lowercase (chars bs)) w).0 t)))

-- what a comparison of bytes tells
pub is_exactly_from : (bs w : List ℕ) → IsUtf8 bs → is_lowercase w ≡ true → pointwise nat_eq bs w ≡ pointwise nat_eq (chars bs) w
is_exactly_from bs w u h = same_test (pointwise nat_eq bs w) (pointwise nat_eq (chars bs) w)
    (λ t.
    let e = (bytes_decides bs w).0 t in
    let P : List ℕ → Type 0 = λ x. IsAscii x in
    (bytes_decides (chars bs) w).1 (chars-IsAscii bs (subst P (sym e) (ascii_small w h)) ∙ e))
    (λ t.
    let e = (bytes_decides (chars bs) w).0 t in
    let P : List ℕ → Type 0 = λ x. IsAscii x in
    let same : chars bs ≡ bs = sym (encodes-IsAscii (chars bs) (subst P (sym e) (ascii_small w h))) ∙ encodes-chars bs u in
    (bytes_decides bs w).1 (sym same ∙ e))
