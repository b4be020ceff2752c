-- Readings of words and numbers as a loop does them, byte by byte.
use Rattle.std.proofs.Common.{◌≡◌, ℕ, suc, ◌+◌, ◌*◌, ◌-◌, ◌≤◌, ◌<◌, Bool, true, false, cond, eqb, leb}
use Rattle.std.proofs.Common.{◌&&◌, List, [], ◌∷◌, length, get_or, drop, inl, inr, refl, sym, ap, ◌∙◌, arith}
use Rattle.std.specs.Char.{is_ascii_digit}
use Rattle.std.proofs.lemmas.Bool.{cases_Bool, eq-eqb, ne_eqb, le-leb}
use Rattle.std.proofs.lemmas.List.{drop_more, drop_all}
use Rattle.tl_cert.specs.inner.reading.Readings.{Answer, got, wrong, outside, Reading, then_read, begins, word_at}
use Rattle.tl_cert.specs.inner.reading.Numbers.{read_run, ended, number_reading, run_at, least_ended}
use Rattle.tl_cert.proofs.reading.Runs.{run_digit, run_stops}

-- a run of digits gives no less than it begins with
pub run-le : (n : ℕ) (text : List ℕ) → n ≤ (read_run n text).0
run-le n [] = omega arith
run-le n (c ∷ text) =
    elim (cases_Bool (is_ascii_digit c)) [
      | inl digit ↦ rw (run_digit n c text digit) (omega (arith, run-le (10 * n + (c - 48)) text))
      | inr other ↦ rw (run_stops n (c ∷ text) other) (omega arith)
    ]

-- the order in which a number is tested makes no difference
tested : (can within above : Bool) (x : Answer (ℕ × ℕ)) (start n : ℕ) (rest : List ℕ) (next : ℕ → Reading (ℕ × ℕ))
    → (above ≡ true → next n rest ≡ cond within x (outside start))
    → cond can (cond (within && above) x (outside start)) (wrong (length rest)) ≡ then_read
    (cond can (cond above (got n rest) (outside start)) (wrong (length rest))) next
tested true true true x start n rest next is = sym (is refl)
tested true true false x start n rest next is = refl
tested true false true x start n rest next is = sym (is refl)
tested true false false x start n rest next is = refl
tested false within above x start n rest next is = refl

zero_tested : (can digit within above : Bool) (x : Answer (ℕ × ℕ)) (left : ℕ) (text : List ℕ) (next : ℕ → Reading (ℕ × ℕ)) →
    above ≡ true
    → next 0 text ≡ cond within x (outside (suc left))
    → cond can (cond digit (wrong left) (cond can (cond (within && above) x (outside (suc left))) (wrong left)))
    (wrong (suc left))
    ≡ then_read (cond can (cond digit (wrong left) (got 0 text)) (wrong (suc left))) next
zero_tested true true within above x left text next holds is = refl
zero_tested true false true true x left text next holds is = sym is
zero_tested true false true false x left text next holds is = absurd cc
zero_tested true false false above x left text next holds is = sym is
zero_tested false digit within above x left text next holds is = refl

-- a number is its digits, its lower limit and what ends it
pub number_by_parts : (low high : ℕ) (possible : ℕ → Bool) (allowed : ℕ → ℕ → Bool) (text : List ℕ)
    → number_reading low high possible allowed text
    ≡ then_read (run_at high possible text) (least_ended low allowed (length text))
unfolding number_reading run_at
number_by_parts low high possible allowed [] = refl
number_by_parts low high possible allowed (c ∷ text) =
    elim (cases_Bool (is_ascii_digit c)) [
      | inl digit ↦
          elim (cases_Bool (eqb c 48)) [
            | inl is_zero ↦ rw (digit, is_zero)
                (zero_tested (possible 0) (begins is_ascii_digit text) (leb low 0) (leb 0 high) (ended allowed 0 text)
                (length text) text
                (least_ended low allowed (suc (length text))) (le-leb 0 high (omega arith)) refl)
            | inr nonzero ↦ rw (digit, nonzero)
                (let run = read_run (c - 48) text in
                tested (possible run.0) (leb low run.0) (leb run.0 high) (ended allowed run.0 run.1) (suc (length text)) (run.0)
                (run.1)
                (least_ended low allowed (suc (length text))) (λ _. refl))
          ]
      | inr other ↦ rw other refl
    ]

-- a word that is read byte by byte
pub word_more : (word text rest : List ℕ) (i b : ℕ) → i < length word → text ≡ b ∷ rest → b ≡ get_or word i 0
    → word_at (drop i word) text ≡ word_at (drop (i + 1) word) rest
unfolding word_at
word_more word text rest i b there is same = rw (drop_more word i 0 there, is, eq-eqb b (get_or word i 0) same) refl

pub word_stops : (word text rest : List ℕ) (i b : ℕ) → i < length word → text ≡ b ∷ rest → (b ≡ get_or word i 0 → ⊥)
    → word_at (drop i word) text ≡ wrong (length text)
unfolding word_at
word_stops word text rest i b there is differ = rw (drop_more word i 0 there, is, ne_eqb b (get_or word i 0) differ) refl

pub word_short : (word text : List ℕ) (i : ℕ) → i < length word → text ≡ [] → word_at (drop i word) text ≡ wrong (length text)
unfolding word_at
word_short word text i there is = rw (drop_more word i 0 there, is) refl

pub word_done : (word text : List ℕ) (i : ℕ) → length word ≤ i → word_at (drop i word) text ≡ got tt text
unfolding word_at
word_done word text i past = rw (drop_all i word past) refl

pub ruleset word_steps = (word_more, word_stops, word_short, word_done)

-- a run that is read digit by digit
pub run_more : (n c : ℕ) (text rest : List ℕ) → text ≡ c ∷ rest → is_ascii_digit c ≡ true →
    read_run n text ≡ read_run (n * 10 + (c - 48)) rest
run_more n c text rest is digit = ap (read_run n) is ∙ run_digit n c rest digit ∙ ap (λ (k : ℕ). read_run k rest) (omega arith)

pub run_done : (n c : ℕ) (text rest : List ℕ) → text ≡ c ∷ rest → is_ascii_digit c ≡ false → (read_run n text).0 ≡ n
run_done n c text rest is other = ap (λ (t : List ℕ). (read_run n t).0) is ∙ ap (λ (r : ℕ × List ℕ). r.0)
    (run_stops n (c ∷ rest) other)

pub ruleset run_steps = (run_more, run_done, run-le)
