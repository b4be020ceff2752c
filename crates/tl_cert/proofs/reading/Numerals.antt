-- The canonical decimal of a number, however great: its steps, its digits, and its value.
use Rattle.std.proofs.Common.{◌≡◌, ℕ, zero, suc, ◌+◌, ◌*◌, ◌/◌, ◌%◌, ◌≤◌, ◌<◌, true, List, [], ◌∷◌, ◌++◌, refl, sym, ap, ◌∙◌, inl}
use Rattle.std.proofs.Common.{inr, arith}
use Rattle.std.specs.Char.{is_ascii_digit}
use Rattle.std.proofs.lemmas.Bool.{cases_lt, lt-ltb, le-ltb, le-leb, leb-true, and_parts, and_from}
use Rattle.tl_cert.specs.Pieces.{numeral, numeral_within}

within_small : (k n : ℕ) → n < 10 → numeral_within k n ≡ (48 + n) ∷ []
within_small zero n small = refl
within_small (suc k) n small = rw (lt-ltb n 10 small, numeral_within) refl

within_step : (k n : ℕ) → 10 ≤ n → numeral_within (suc k) n ≡ numeral_within k (n / 10) ++ (48 + n % 10) ∷ []
within_step k n large = rw (le-ltb n 10 large, numeral_within) refl

-- how many digits there may be makes no difference once they are enough
within_more : (k j n : ℕ) → n ≤ k → n ≤ j → numeral_within k n ≡ numeral_within j n
within_more zero j n hk hj = within_small zero n (omega arith) ∙ sym (within_small j n (omega arith))
within_more (suc k) zero n hk hj = within_small (suc k) n (omega arith) ∙ sym (within_small zero n (omega arith))
within_more (suc k) (suc j) n hk hj =
    elim (cases_lt n 10) [
      | inl small ↦ within_small (suc k) n small ∙ sym (within_small (suc j) n small)
      | inr large ↦ within_step k n large ∙ ap (λ (ds : List ℕ). ds ++ (48 + n % 10) ∷ [])
          (within_more k j (n / 10) (omega arith) (omega arith))
          ∙ sym (within_step j n large)
    ]

pub numeral_small : (n : ℕ) → n < 10 → numeral n ≡ (48 + n) ∷ []
unfolding numeral
numeral_small n small = within_small n n small

pub numeral_step : (n : ℕ) → 10 ≤ n → numeral n ≡ numeral (n / 10) ++ (48 + n % 10) ∷ []
unfolding numeral
numeral_step n large =
    within_more n (suc n) n (omega arith) (omega arith) ∙ within_step n n large
    ∙ ap (λ (ds : List ℕ). ds ++ (48 + n % 10) ∷ []) (within_more n (n / 10) (n / 10) (omega arith) (omega arith))

-- one digit more at the end
pub numeral_push : (a d : ℕ) → 0 < a → d < 10 → numeral (10 * a + d) ≡ numeral a ++ (48 + d) ∷ []
numeral_push a d positive small =
    let tenth : (10 * a + d) / 10 ≡ a = omega arith in
    let last : (10 * a + d) % 10 ≡ d = omega arith in
    numeral_step (10 * a + d) (omega arith) ∙ rw (tenth, last) refl

-- what holds of one digit, and with each digit more, holds of every numeral
by_steps_within : (P : ℕ → List ℕ → Type 0) (one : (n : ℕ) → n < 10 → P n ((48 + n) ∷ []))
    (more : (n : ℕ) (ds : List ℕ) → 10 ≤ n → P (n / 10) ds → P n (ds ++ (48 + n % 10) ∷ [])) → (k n : ℕ) → n ≤ k → P n (numeral n)
by_steps_within P one more zero n h = rw (numeral_small n (omega arith)) (one n (omega arith))
by_steps_within P one more (suc k) n h =
    elim (cases_lt n 10) [
      | inl small ↦ rw (numeral_small n small) (one n small)
      | inr large ↦ rw (numeral_step n large) (more n (numeral (n / 10)) large
          (by_steps_within P one more k (n / 10) (omega arith)))
    ]

pub numeral_by_steps : (P : ℕ → List ℕ → Type 0) (one : (n : ℕ) → n < 10 → P n ((48 + n) ∷ []))
    (more : (n : ℕ) (ds : List ℕ) → 10 ≤ n → P (n / 10) ds → P n (ds ++ (48 + n % 10) ∷ [])) → (n : ℕ) → P n (numeral n)
numeral_by_steps P one more n = by_steps_within P one more n n (omega arith)

pub digit_range : (c : ℕ) → is_ascii_digit c ≡ true → (48 ≤ c) × (c ≤ 57)
digit_range c digit = let p = and_parts _ _ digit in (leb-true _ _ p.0, leb-true _ _ p.1)

pub digit_is : (c : ℕ) → 48 ≤ c → c ≤ 57 → is_ascii_digit c ≡ true
digit_is c low high = and_from _ _ (le-leb _ _ low) (le-leb _ _ high)
