-- What can be told by trying: the numbers below another, and the lists of numbers of a length and a sum.
use Rattle.std.proofs.Common.{◌≡◌, ℕ, ◌+◌, ◌<◌, ◌≤◌, zero, suc, List, [], ◌∷◌, ◌⊎◌, inl, inr, length, sum, subst, arith}
use Rattle.std.specs.List.{All}
use Rattle.std.proofs.lemmas.Bool.{cases_lt}
use Rattle.std.proofs.lemmas.List.Elements.{All-nil, All-cons}
use Rattle.tl_base.proofs.Sums.{sum-cons}

-- it holds or it does not
abbrev pub Decides : Type 0 → Type 0
Decides P = P ⊎ (P → ⊥)

pub decide-both : (P Q : Type 0) → Decides P → Decides Q → Decides (P × Q)
decide-both P Q (inr none) other = inr (λ both. none both.0)
decide-both P Q (inl first) (inl second) = inl (first, second)
decide-both P Q (inl first) (inr none) = inr (λ both. none both.1)

pub decide-le : (m n : ℕ) → Decides (m ≤ n)
decide-le m n = elim (cases_lt n m) [ inl above ↦ inr (λ le. omega (arith, above, le)) | inr le ↦ inl le ]

-- whether something holds of all elements of a list
pub decide-all : {X : Type 0} (P : X → Type 0) → ((x : X) → Decides (P x)) → (xs : List X) → Decides (All P xs)
decide-all P decide [] = inl (All-nil P)
decide-all P decide (x ∷ xs) =
    elim (decide x) [
      | inr none ↦ inr (λ all. none (all 0 x (omega arith)))
      | inl here ↦ elim (decide-all P decide xs) [
        | inr none ↦ inr (λ all. none (λ k d within. all (suc k) d (omega arith)))
        | inl rest ↦ inl (All-cons P x xs here rest)
      ]
    ]

-- whether something holds of all numbers below another
pub decide-below : (P : ℕ → Type 0) → ((k : ℕ) → Decides (P k)) → (n : ℕ) → Decides ((k : ℕ) → k < n → P k)
decide-below P decide zero = inl (λ k within. absurd (omega (arith, within)))
decide-below P decide (suc n) =
    elim (decide-below P decide n) [
      | inr none ↦ inr (λ all. none (λ k within. all k (omega (arith, within))))
      | inl all ↦ elim (decide n) [
        | inr none ↦ inr (λ every. none (every n (omega arith)))
        | inl here ↦ inl (λ k within. elim (cases_lt k n) [
          | inl less ↦ all k less
          | inr last ↦ let same : n ≡ k = omega (arith, within, last) in subst P same here
        ])
      ]
    ]

-- one number is found, or all below another are told to be of another kind
pub tell-number : (P Q : ℕ → Type 0) → ((k : ℕ) → P k ⊎ Q k) → (n : ℕ) → ((k : ℕ) × P k) ⊎ ((k : ℕ) → k < n → Q k)
tell-number P Q tell zero = inr (λ k within. absurd (omega (arith, within)))
tell-number P Q tell (suc n) =
    elim (tell-number P Q tell n) [
      | inl found ↦ inl found
      | inr all ↦ elim (tell n) [
        | inl here ↦ inl (n, here)
        | inr here ↦ inr (λ k within. elim (cases_lt k n) [
          | inl less ↦ all k less
          | inr last ↦ let same : n ≡ k = omega (arith, within, last) in subst Q same here
        ])
      ]
    ]

-- one list is found, or none of this length has a sum of at most `most`
pub tell-lists : (P : List ℕ → Type 0) → ((xs : List ℕ) → Decides (P xs)) → (most n : ℕ) →
    ((xs : List ℕ) × P xs) ⊎ ((xs : List ℕ) → length xs ≡ n → sum xs ≤ most → P xs → ⊥)
tell-lists P decide most zero = elim (decide []) [ inl here ↦ inl ([], here) | inr none ↦ inr (no_other none) ] where
  no_other : (P [] → ⊥) → (xs : List ℕ) → length xs ≡ 0 → sum xs ≤ most → P xs → ⊥
  no_other none [] same few holds = none holds
  no_other none (x ∷ xs) same few holds = absurd (omega (arith, same))
tell-lists P decide most (suc n) =
    elim (tell-number (λ x. (xs : List ℕ) × P (x ∷ xs)) (λ x. (xs : List ℕ) → length xs ≡ n → sum xs ≤ most → P (x ∷ xs) → ⊥)
    (λ x. tell-lists (λ xs. P (x ∷ xs)) (λ xs. decide (x ∷ xs)) most n) (most + 1)) [
      | inl found ↦ inl (found.0 ∷ found.1.0, found.1.1)
      | inr none ↦ inr (no_other none)
    ] where
      no_other : ((x : ℕ) → x < most + 1 → (xs : List ℕ) → length xs ≡ n → sum xs ≤ most → P (x ∷ xs) → ⊥) →
          (xs : List ℕ) → length xs ≡ suc n → sum xs ≤ most → P xs → ⊥
      no_other none [] same few holds = absurd (omega (arith, same))
      no_other none (x ∷ xs) same few holds =
          let whole = sum-cons x xs in
          none x (omega (arith, whole, few)) xs (omega (arith, same)) (omega (arith, whole, few)) holds
