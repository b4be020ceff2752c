-- Sums over the numbers from 0 on.
use Rattle.std.proofs.Common.{◌≡◌, ℕ, zero, suc, ◌+◌, ◌*◌, ◌<◌, ◌≤◌, inl, inr, refl, sym, ap, arith}
use Rattle.std.specs.List.{sum_by, range_with_len}
use Rattle.std.proofs.lemmas.Bool.{cases_lt}
use Rattle.std.proofs.lemmas.List.Sums.{sum_by-cons}
use Rattle.tl_problem.specs.Shares.{sum_over}

-- terms that are each at most another's sum to at most the others' sum
pub sum_over-le : (f g : ℕ → ℕ) (n : ℕ) → ((k : ℕ) → k < n → f k ≤ g k) → sum_over f n ≤ sum_over g n
sum_over-le f g zero le = omega arith
sum_over-le f g (suc n) le = omega (
  arith,
  sum_over-le f g n (λ k below. le k (omega arith)),
  le n (omega arith),
)

pub sum_over-same : (f g : ℕ → ℕ) (n : ℕ) → ((k : ℕ) → k < n → f k ≡ g k) → sum_over f n ≡ sum_over g n
sum_over-same f g zero same = refl
sum_over-same f g (suc n) same = omega (
  arith,
  sum_over-same f g n (λ k below. same k (omega arith)),
  same n (omega arith),
)

-- the sum over a list of the numbers, one of which is taken from the front
shifted : (f : ℕ → ℕ) (a n : ℕ) → sum_by f (range_with_len a n) ≡ sum_over (λ k. f (a + k)) n
shifted f a zero = refl
shifted f a (suc n) =
    let head = sum_by-cons f a (range_with_len (a + 1) n) in
    let rest = shifted f (a + 1) n in
    let turned = first_out (λ k. f (a + k)) n in
    let same = sum_over-same (λ k. f (a + 1 + k)) (λ k. f (a + suc k)) n
    (λ k below. ap f (omega arith)) in
    let start = ap f (zero_more a) in
    omega (arith, head, rest, turned, same, start) where
      zero_more : (a : ℕ) → a + 0 ≡ a
      zero_more a = omega arith

      first_out : (g : ℕ → ℕ) (n : ℕ) → sum_over g (suc n) ≡ g 0 + sum_over (λ k. g (suc k)) n
      first_out g zero = omega arith
      first_out g (suc n) = omega (arith, first_out g n)

pub sum_over-list : (f : ℕ → ℕ) (n : ℕ) → sum_by f (range_with_len 0 n) ≡ sum_over f n
sum_over-list f n =
    let moved = shifted f 0 n in
    let same = sum_over-same (λ k. f (0 + k)) f n (λ k below. ap f (omega arith)) in
    omega (arith, moved, same)

-- the next term
pub sum_over-next : (f : ℕ → ℕ) (n : ℕ) → sum_over f (n + 1) ≡ sum_over f n + f n
sum_over-next f n = let next : n + 1 ≡ suc n = omega arith in rw next refl

-- a sum of sums
pub sum_over-add : (f g : ℕ → ℕ) (n : ℕ) → sum_over (λ k. f k + g k) n ≡ sum_over f n + sum_over g n
sum_over-add f g zero = refl
sum_over-add f g (suc n) = omega (arith, sum_over-add f g n)

pub sum_over-times : (c : ℕ) (f : ℕ → ℕ) (n : ℕ) → sum_over (λ k. c * f k) n ≡ c * sum_over f n
sum_over-times c f zero = omega arith
sum_over-times c f (suc n) =
    let product : c * (sum_over f n + f n) ≡ c * sum_over f n + c * f n = grind arith in
    omega (arith, sum_over-times c f n, product)

pub sum_over-none : (f : ℕ → ℕ) (n : ℕ) → ((k : ℕ) → k < n → f k ≡ 0) → sum_over f n ≡ 0
sum_over-none f zero none = refl
sum_over-none f (suc n) none = omega (
  arith,
  sum_over-none f n (λ k below. none k (omega arith)),
  none n (omega arith),
)

-- the order of two sums
pub sum_over-swap : (f : ℕ → ℕ → ℕ) (m n : ℕ) →
    sum_over (λ s. sum_over (f s) n) m ≡ sum_over (λ k. sum_over (λ s. f s k) m) n
sum_over-swap f zero n = sym (sum_over-none (λ k. 0) n (λ k below. refl))
sum_over-swap f (suc m) n =
    let rest = sum_over-swap f m n in
    let both = sum_over-add (λ k. sum_over (λ s. f s k) m) (f m) n in
    omega (arith, rest, both)

-- a sum of which one term alone is not 0
pub sum_over-one : (f : ℕ → ℕ) (n i : ℕ) → i < n → ((k : ℕ) → k < n → (k ≡ i → ⊥) → f k ≡ 0) → sum_over f n ≡ f i
sum_over-one f zero i within none = absurd (omega arith)
sum_over-one f (suc n) i within none =
    elim (cases_lt i n) [
      | inl before ↦
          let rest = sum_over-one f n i before (λ k below apart. none k (omega arith) apart) in
          omega (arith, rest, none n (omega arith) (λ same. absurd (omega (arith, same, before))))
      | inr last ↦
          let rest = sum_over-none f n (λ k below. none k (omega arith) (λ same. absurd (omega (arith, same, below, last)))) in
          omega (arith, rest, ap f (same_place n i within last))
    ] where
      same_place : (n i : ℕ) → i < suc n → n ≤ i → n ≡ i
      same_place n i within last = omega arith
