-- Numbers that stop at the top of their type.
use Rattle.std.proofs.Common.{◌≡◌, ◌≢◌, ℕ, ◌<◌, min, max, Bool, true, false, not, ◌&&◌, ◌⊎◌, List, [], ◌∷◌, Option, Some, None}
use Rattle.std.proofs.Common.{refl, sym, ap, ◌∙◌}
use Rattle.std.proofs.Common.{inl, inr, cond, arith, length}
use Rattle.std.specs.Prelude.{nat_lt}
use Rattle.std.specs.Option.{option_map}
use Rattle.std.proofs.lemmas.Bool.{cases_lt, false≢true}
use Rattle.std.proofs.lemmas.Bool.Decides.{nat_tests}
use Rattle.std.proofs.lemmas.Str.{encodes-chars, chars-nil}
use Rattle.std.specs.Str.{chars, IsUtf8}
use lib.Utf8.{encodes, scalar}
use Rattle.tl_base.specs.declared.limits.TheConstants.{MAX_COLSPAN}
use Rattle.tl_base.proofs.Texts.{same_test}
use Rattle.tl_token.specs.Grammar.{numbered_character}
use Rattle.tl_token.specs.Characters.{is_control}
use Rattle.tl_token.specs.Numbers.{number, signed_number, columns_spanned, rows_spanned, floor_of}

-- where a number stops, it is above 0 as before
positive_same : (top n total : ℕ) → 0 < top → n ≡ min total top → nat_lt 0 n ≡ nat_lt 0 total
positive_same top n total t h = same_test (nat_lt 0 n) (nat_lt 0 total) (λ a. grind (arith, nat_tests))
    (λ a. grind (arith, nat_tests))

-- the number after a sign, where it stops at the top
pub signed_below : (top : ℕ) (b : Bool) (ds : List ℕ) (n : ℕ) → 0 < top → ds ≢ [] → n ≡ min (number 10 ds) top
    → cond (b && nat_lt 0 n) None (Some n) ≡ option_map (λ x. min x top) (signed_number b ds)
signed_below top b [] n t some h = absurd (some refl)
signed_below top true (d ∷ ds) n t some h = from (nat_lt 0 n) (nat_lt 0 (number 10 (d ∷ ds)))
    (positive_same top n (number 10 (d ∷ ds)) t h)
  where
    from : (a b : Bool) → a ≡ b → cond a None (Some n) ≡ option_map (λ x. min x top) (cond b None (Some (number 10 (d ∷ ds))))
    from true true e = refl
    from true false e = absurd (false≢true (sym e))
    from false true e = absurd (false≢true e)
    from false false e = ap Some h
signed_below top false (d ∷ ds) n t some h = ap Some h

-- the choice by cases, as a test in two steps makes it
pub signed_either : (top : ℕ) (b : Bool) (ds : List ℕ) (n : ℕ) → 0 < top → ds ≢ [] → n ≡ min (number 10 ds) top
    → ((b ≡ true) × (0 < n) → None ≡ option_map (λ x. min x top) (signed_number b ds))
    × ((b ≡ false) ⊎ (n ≡ 0) → Some n ≡ option_map (λ x. min x top) (signed_number b ds))
signed_either top b ds n t some h = (
  (λ k. low b (k.0) (k.1) ∙ signed_below top b ds n t some h),
  (λ k. high b k ∙ signed_below top b ds n t some h),
)
  where
    low : (b : Bool) → b ≡ true → 0 < n → None ≡ cond (b && nat_lt 0 n) None (Some n)
    low true e k = grind (arith, nat_tests)
    low false e k = absurd (false≢true e)

    high : (b : Bool) → (b ≡ false) ⊎ (n ≡ 0) → Some n ≡ cond (b && nat_lt 0 n) None (Some n)
    high false k = refl
    high true (inl e) = absurd (false≢true (sym e))
    high true (inr e) = ap (λ a. cond a None (Some n)) (sym (ap (nat_lt 0) e))

-- a number that stops far above the limits gives what the number gives
pub columns_below : (o : Option ℕ) → columns_spanned (option_map (λ x. min x 4294967295) o) ≡ columns_spanned o
columns_below None = refl
columns_below (Some n) = let e : min (min n 4294967295) MAX_COLSPAN ≡ min n MAX_COLSPAN = omega arith in ap (max 1) e

pub rows_below : (o : Option ℕ) → rows_spanned (option_map (λ x. min x 4294967295) o) ≡ rows_spanned o
rows_below None = refl
rows_below (Some n) = omega arith

pub floor_below : (o : Option ℕ) → floor_of (option_map (λ x. min x 4294967295) o) ≡ floor_of o
floor_below None = refl
floor_below (Some n) = omega arith

-- a text without a byte has no character, and one with a byte has some
pub chars_some : (bs : List ℕ) → IsUtf8 bs → (length bs ≡ 0 → ⊥) → chars bs ≢ []
chars_some bs u h e = let k : encodes (chars bs) ≡ [] = ap encodes e in h (ap length (sym (encodes-chars bs u) ∙ k))

pub chars_none : (bs : List ℕ) → length bs ≡ 0 → chars bs ≡ []
chars_none [] h = chars-nil
chars_none (b ∷ bs) h = absurd (omega (arith, h))

not_scalar : (n : ℕ) → 4294967295 < n → scalar n ≡ false
not_scalar n h = grind (arith, nat_tests, h)

-- a number above the top of its type is no character
pub numbered_below : (n : ℕ) → numbered_character (min n 4294967295) ≡ numbered_character n
numbered_below n = elim (cases_lt 4294967295 n) [
  | inl above ↦
      let top : min n 4294967295 ≡ 4294967295 = omega arith in
      let none : scalar n ≡ false = not_scalar n above in
      ap numbered_character top ∙ sym (ap (λ b. cond (b && not (is_control n)) (Some n) None) none)
  | inr below ↦ let same : min n 4294967295 ≡ n = omega arith in ap numbered_character same
]
