-- Runs of digits: what is read from them, and that numerals are read again.
use Rattle.std.proofs.Common.{◌≡◌, ℕ, ◌+◌, ◌*◌, ◌-◌, ◌/◌, ◌%◌, ◌≤◌, ◌<◌, true, List, [], ◌∷◌, ◌++◌, refl, sym, ap, ◌∙◌, inl, inr}
use Rattle.std.proofs.Common.{arith, append_assoc}
use Rattle.std.specs.Char.{is_ascii_digit}
use Rattle.std.proofs.lemmas.Bool.{cases_Bool}
use Rattle.tl_cert.specs.Pieces.{numeral, IsPastDigits}
use Rattle.tl_cert.specs.inner.reading.Numbers.{read_run}
use Rattle.tl_cert.proofs.reading.Numerals.{numeral_by_steps, numeral_push, digit_range, digit_is}

pub run_digit : (n c : ℕ) (text : List ℕ) → is_ascii_digit c ≡ true → read_run n (c ∷ text) ≡ read_run (10 * n + (c - 48)) text
run_digit n c text digit = rw (digit, read_run) refl

pub run_stops : (n : ℕ) (text : List ℕ) → IsPastDigits text → read_run n text ≡ (n, text)
run_stops n [] past = refl
run_stops n (c ∷ text) past = rw (past, read_run) refl

-- the digits of a number go on as the number does
pub run-numeral : (n : ℕ) (text : List ℕ) → read_run 0 (numeral n ++ text) ≡ read_run n text
run-numeral n =
    numeral_by_steps (λ m ds. (text : List ℕ) → read_run 0 (ds ++ text) ≡ read_run m text)
    (λ m small text. run_digit 0 (48 + m) text (digit_is (48 + m) (omega arith) (omega arith)) ∙ ap (λ (k : ℕ). read_run k text)
    (omega arith))
    (λ m ds large before text. ap (read_run 0) (append_assoc ds ((48 + m % 10) ∷ []) text) ∙ before ((48 + m % 10) ∷ text)
    ∙ run_digit (m / 10) (48 + m % 10) text (digit_is (48 + m % 10) (omega arith) (omega arith)) ∙ ap
    (λ (k : ℕ). read_run k text) (omega arith))
    n

-- what a run of digits gives, from a number above 0 on
pub record RunGives (n : ℕ) (text : List ℕ) : Type 0 where
  pub parts : numeral n ++ text ≡ numeral ((read_run n text).0) ++ (read_run n text).1
  pub past : IsPastDigits ((read_run n text).1)
  pub least : n ≤ (read_run n text).0

pub run_gives : (n : ℕ) (text : List ℕ) → 0 < n → RunGives n text
run_gives n [] positive = record { parts = refl; past = tt; least = omega arith }
run_gives n (c ∷ text) positive =
    elim (cases_Bool (is_ascii_digit c)) [
      | inl digit ↦
          let range = digit_range c digit in
          let step = run_digit n c text digit in
          let rest = run_gives (10 * n + (c - 48)) text (omega arith) in
          let prefix : numeral n ++ (c ∷ text) ≡ numeral (10 * n + (c - 48)) ++ text =
          sym (append_assoc (numeral n) (c ∷ []) text) ∙ ap (λ (ds : List ℕ). ds ++ text)
          (ap (λ (k : ℕ). numeral n ++ (k ∷ [])) (omega arith) ∙ sym (numeral_push n (c - 48) positive (omega arith))) in
          record { parts = rw step (prefix ∙ rest.parts); past = rw step rest.past; least = rw step (omega (arith, rest.least)) }
      | inr other ↦
          let stop = run_stops n (c ∷ text) other in
          record { parts = rw stop refl; past = rw stop other; least = rw stop (omega arith) }
    ]
