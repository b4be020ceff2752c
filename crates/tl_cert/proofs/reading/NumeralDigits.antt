-- The first digit of a numeral, and numerals that go on with more digits.
use Rattle.std.proofs.Common.{◌≡◌, ℕ, zero, suc, ◌+◌, ◌*◌, ◌%◌, ◌≤◌, ◌<◌, true, List, [], ◌∷◌, ◌++◌, refl, sym, ap, ◌∙◌, arith}
use Rattle.std.proofs.Common.{append_assoc}
use Rattle.std.proofs.lemmas.List.{append-nil}
use Rattle.std.specs.Char.{is_ascii_digit}
use Rattle.tl_cert.specs.Pieces.{numeral}
use Rattle.tl_cert.proofs.reading.Numerals.{numeral_by_steps, numeral_push, digit_is}

abbrev pub HasFirst : ℕ → List ℕ → Type 0
HasFirst n digits = (c : ℕ) × (more : List ℕ) × (digits ≡ c ∷ more) × (is_ascii_digit c ≡ true) × (0 < n → c ≡ 48 → ⊥)

-- a numeral begins with a digit, which is 0 for zero alone
pub numeral_first : (n : ℕ) → HasFirst n (numeral n)
numeral_first n =
    numeral_by_steps HasFirst
    (λ m small. (48 + m, [], refl, digit_is (48 + m) (omega arith) (omega arith), λ positive e. omega arith))
    (λ m ds large p. (
      p.0,
      p.1 ++ ((48 + m % 10) ∷ []),
      ap (λ (t : List ℕ). t ++ ((48 + m % 10) ∷ [])) p.2,
      p.3,
      λ positive e. p.4 (omega arith) e,
    ))
    n

-- with enough digits more a number above 0 passes any other
pub numeral_longer : (limit n : ℕ) → 0 < n → (m : ℕ) × (more : List ℕ) × (limit ≤ m) × (0 < m) × (numeral m ≡ numeral n ++ more)
numeral_longer zero n positive = (n, [], omega arith, positive, sym (append-nil (numeral n)))
numeral_longer (suc limit) n positive =
    let p = numeral_longer limit n positive in (
      10 * p.0 + 0,
      p.1 ++ (48 ∷ []),
      omega (arith, p.2, p.3),
      omega (arith, p.3),
      numeral_push p.0 0 p.3 (omega arith) ∙ ap (λ (t : List ℕ). t ++ (48 ∷ [])) p.4 ∙ append_assoc (numeral n) p.1 (48 ∷ []),
    )
