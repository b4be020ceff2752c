-- Finite searches: whether some list of so many small numbers is of a kind, where each list is or is not.
use Rattle.std.proofs.Common.{◌≡◌, ℕ, zero, suc, ◌+◌, ◌<◌, ◌≤◌, ◌⊎◌, inl, inr, List, [], ◌∷◌, length, refl, subst, arith}
use Rattle.std.specs.List.{AllByRecursion}
use Rattle.std.proofs.lemmas.Bool.{cases_lt}

-- it is so, or it is not
abbrev pub Decides : Type 0 → Type 0
Decides A = A ⊎ (A → ⊥)

-- a list of `n` numbers of the kind is found
abbrev pub Found : ℕ → (List ℕ → Type 0) → Type 0
Found n Kind = (xs : List ℕ) × (length xs ≡ n) × Kind xs

-- or none of numbers up to `most` is of it
abbrev None : ℕ → ℕ → (List ℕ → Type 0) → Type 0
None n most Kind = (xs : List ℕ) → length xs ≡ n → AllByRecursion (λ x. x ≤ most) xs → Kind xs → ⊥

-- no list that begins with a number up to `upto` is of it
abbrev NoneUpTo : ℕ → ℕ → ℕ → (List ℕ → Type 0) → Type 0
NoneUpTo upto n most Kind = (x : ℕ) (xs : List ℕ) → x ≤ upto → length xs ≡ n → AllByRecursion (λ y. y ≤ most) xs →
    Kind (x ∷ xs) → ⊥

-- by first numbers
by-first : (n most : ℕ) (Kind : List ℕ → Type 0) → ((x : ℕ) →
    Found n (λ xs. Kind (x ∷ xs)) ⊎ None n most (λ xs. Kind (x ∷ xs))) → (upto : ℕ) →
    Found (suc n) Kind ⊎ NoneUpTo upto n most Kind
by-first n most Kind each zero =
    elim (each zero) [
      | inl found ↦ inl (zero ∷ found.0, omega (arith, found.1), found.2)
      | inr none ↦ inr (λ x xs low long small is.
          let same : x ≡ zero = omega (arith, low) in none xs long small (subst (λ (y : ℕ). Kind (y ∷ xs)) same is))
    ]
by-first n most Kind each (suc upto) =
    elim (by-first n most Kind each upto) [
      | inl found ↦ inl found
      | inr before ↦ elim (each (suc upto)) [
        | inl found ↦ inl (suc upto ∷ found.0, omega (arith, found.1), found.2)
        | inr none ↦ inr (λ x xs low long small is. elim (cases_lt upto x) [
          | inr less ↦ before x xs less long small is
          | inl last ↦
              let same : x ≡ suc upto = omega (arith, low, last) in
              none xs long small (subst (λ (y : ℕ). Kind (y ∷ xs)) same is)
        ])
      ]
    ]

pub search : (n most : ℕ) (Kind : List ℕ → Type 0) → ((xs : List ℕ) → Decides (Kind xs)) → Found n Kind ⊎ None n most Kind
search zero most Kind decide =
    elim (decide []) [
      | inl is ↦ inl ([], refl, is)
      | inr not ↦ inr (no_more not)
    ]
  where
    no_more : (Kind [] → ⊥) → (xs : List ℕ) → length xs ≡ zero → AllByRecursion (λ x. x ≤ most) xs → Kind xs → ⊥
    no_more not [] long small is = not is
    no_more not (x ∷ xs) long small is = omega (arith, long)
search (suc n) most Kind decide =
    elim (by-first n most Kind (λ x. search n most (λ xs. Kind (x ∷ xs)) (λ xs. decide (x ∷ xs))) most) [
      | inl found ↦ inl found
      | inr none ↦ inr (none_of none)
    ]
  where
    none_of : NoneUpTo most n most Kind → (xs : List ℕ) → length xs ≡ suc n → AllByRecursion (λ x. x ≤ most) xs → Kind xs → ⊥
    none_of none [] long small is = omega (arith, long)
    none_of none (x ∷ xs) long small is = none x xs small.0 (omega (arith, long)) small.1 is

-- where the numbers of each list of the kind are small, the search decides
pub decide-some : (n most : ℕ) (Kind : List ℕ → Type 0) → ((xs : List ℕ) → Decides (Kind xs)) →
    ((xs : List ℕ) → Kind xs → AllByRecursion (λ x. x ≤ most) xs) → Decides (Found n Kind)
decide-some n most Kind decide small =
    elim (search n most Kind decide) [
      | inl found ↦ inl found
      | inr none ↦ inr (λ found. none found.0 found.1 (small found.0 found.2) found.2)
    ]

-- ---- the first number of a kind

-- the least number up to `most` of the kind, which goes on where it has begun
pub first-of : (Kind : ℕ → Type 0) → ((n : ℕ) → Decides (Kind n)) → (most : ℕ) → Kind most →
    (least : ℕ) × Kind least × ((n : ℕ) → Kind n → n < least → ⊥)
first-of Kind decide most is = from 0 most (omega arith) (λ n one less. omega (arith, less))
  where
    from : (start rest : ℕ) → start + rest ≡ most → ((n : ℕ) → Kind n → n < start → ⊥) →
        (least : ℕ) × Kind least × ((n : ℕ) → Kind n → n < least → ⊥)
    from start zero end none = (start, subst Kind (let same : most ≡ start = omega (arith, end) in same) is, none)
    from start (suc rest) end none =
        elim (decide start) [
          | inl here ↦ (start, here, none)
          | inr not ↦ from (suc start) rest (omega (arith, end)) (λ n one less. elim (cases_lt n start) [
            | inl before ↦ none n one before
            | inr at ↦ let same : n ≡ start = omega (arith, at, less) in not (subst Kind same one)
          ])
        ]
