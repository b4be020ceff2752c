-- No public clause cites this file. Readings of a text from its beginning to its end, and what they give. They know no
-- certificates.
use Rattle.std.specs.Prelude.{ℕ, suc, Bool, false, ◌==◌, List, [], ◌∷◌, length, if◌then◌else◌}

-- A value and what is left of the text. Or so many characters are left where no text goes on with the next one; or where
-- a number begins that is outside its range.
pub data Answer (A : Type 0) : Type 0 where
  got : A → List ℕ → Answer A
  wrong : ℕ → Answer A
  outside : ℕ → Answer A

-- what is read from the start of a text
abbrev pub Reading : Type 0 → Type 0
Reading A = List ℕ → Answer A

-- going on after what was read
abbrev pub then_read : {A B : Type 0} → Answer A → (A → Reading B) → Answer B
then_read (got value rest) next = next value rest
then_read (wrong left) next = wrong left
then_read (outside left) next = outside left

-- one reading after the other
unfoldable pub followed : {A B : Type 0} → Reading A → (A → Reading B) → Reading B
followed read next = λ text. then_read (read text) next

infixl 10 ◌>>=◌
-- one reading after the other, as a sign between them
abbrev pub ◌>>=◌ : {A B : Type 0} → Reading A → (A → Reading B) → Reading B
◌>>=◌ = followed

-- no character, and the value
unfoldable pub give : {A : Type 0} → A → Reading A
give value = λ text. got value text

-- these characters
unfoldable pub word_at : List ℕ → Reading (Unit {0})
word_at [] text = got tt text
word_at (c ∷ word) [] = wrong 0
word_at (c ∷ word) (b ∷ text) = if b == c then word_at word text else wrong (suc (length text))

-- whether the text begins with a character that passes the test
abbrev pub begins : (ℕ → Bool) → List ℕ → Bool
begins test [] = false
begins test (b ∷ text) = test b

-- the one reading or the other, by the next character
unfoldable pub either : {A : Type 0} → (ℕ → Bool) → Reading A → Reading A → Reading A
either test first other = λ text. if begins test text then first text else other text
