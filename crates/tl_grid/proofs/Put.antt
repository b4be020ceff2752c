-- What is put at numbers of which each stands once.
use Rattle.std.proofs.Common.{◌≡◌, ℕ, ◌+◌, ◌<◌, ◌≤◌, zero, suc, eqb, List, [], ◌∷◌, map, length, fold, Some, refl, ap, ◌∙◌, inl}
use Rattle.std.proofs.Common.{inr, arith}
use Rattle.std.proofs.Common.{length-set}
use Rattle.std.specs.Prelude.{slice_set, slice_get}
use Rattle.std.specs.List.{AllByRecursion}
use Rattle.std.proofs.lemmas.Bool.{eq-eqb, cases_lt}
use Rattle.tl_grid.proofs.Counts.{one_if}
use Rattle.tl_grid.proofs.Numbers.{tally}

-- what was set is there
set_same : {V : Type 0} (vs : List V) (n : ℕ) (v : V) → n < length vs → slice_get (slice_set vs n v) n ≡ Some v
set_same [] n v lt = absurd (omega arith)
set_same (w ∷ vs) zero v lt = refl
set_same (w ∷ vs) (suc n) v lt = set_same vs n v (omega arith)

-- the others stay
set_other : {V : Type 0} (vs : List V) (i n : ℕ) (v : V) → (i ≡ n → ⊥) → slice_get (slice_set vs i v) n ≡ slice_get vs n
set_other [] i n v ne = refl
set_other (w ∷ vs) zero zero v ne = absurd (ne refl)
set_other (w ∷ vs) zero (suc n) v ne = refl
set_other (w ∷ vs) (suc i) zero v ne = refl
set_other (w ∷ vs) (suc i) (suc n) v ne = set_other vs i n v (λ e. ne (ap suc e))

-- one number, and whether n is among it and the others
tally_one : (n k : ℕ) (ks : List ℕ) → tally n (k ∷ ks) ≡ 0 → (k ≡ n → ⊥) × (tally n ks ≡ 0)
tally_one n k ks none = (
  λ e. (let one : one_if (eqb k n) ≡ 1 = ap one_if (eq-eqb k n e) in omega arith),
  omega arith,
)

-- nothing is put at a number that is not there
put_other : {X V : Type 0} (f : X → ℕ) (g : X → V) (xs : List X) (vs : List V) (n : ℕ) →
    tally n (map f xs) ≡ 0 →
    slice_get (fold (λ found x. slice_set found (f x) (g x)) vs xs) n ≡ slice_get vs n
put_other f g [] vs n none = refl
put_other f g (x ∷ xs) vs n none =
    let is = tally_one n (f x) (map f xs) none in
    put_other f g xs (slice_set vs (f x) (g x)) n is.1 ∙ set_other vs (f x) n (g x) is.0

-- a number that stands once is in no rest
tally_rest : (k : ℕ) (ks : List ℕ) → tally k (k ∷ ks) ≤ 1 → tally k ks ≡ 0
tally_rest k ks one = (let here : one_if (eqb k k) ≡ 1 = ap one_if (eq-eqb k k refl) in omega arith)

-- a number that is there is in range
tally_within : (k : ℕ) (ks : List ℕ) (long : ℕ) → (long ≤ k → tally k (k ∷ ks) ≡ 0) → k < long
tally_within k ks long low =
    elim (cases_lt k long) [
      | inl lt ↦ lt
      | inr ge ↦ absurd (
          let here : one_if (eqb k k) ≡ 1 = ap one_if (eq-eqb k k refl) in
          let none : tally k (k ∷ ks) ≡ 0 = low ge in omega arith)
    ]

-- all stand at their numbers
pub put_all : {X V : Type 0} (f : X → ℕ) (g : X → V) (xs : List X) (vs : List V) →
    ((n : ℕ) → tally n (map f xs) ≤ 1) → ((n : ℕ) → length vs ≤ n → tally n (map f xs) ≡ 0) →
    AllByRecursion (λ x. slice_get (fold (λ found y. slice_set found (f y) (g y)) vs xs) (f x) ≡ Some (g x)) xs
put_all f g [] vs once low = tt
put_all f g (x ∷ xs) vs once low =
    let next = slice_set vs (f x) (g x) in (
      put_other f g xs next (f x) (tally_rest (f x) (map f xs) (once (f x)))
          ∙ set_same vs (f x) (g x) (tally_within (f x) (map f xs) (length vs) (low (f x))),
      put_all f g xs next
          (λ n. let more : tally n (map f (x ∷ xs)) ≡ one_if (eqb (f x) n) + tally n (map f xs) = refl in omega (arith, once n))
          (λ n le. (tally_one n (f x) (map f xs) (low n (omega (arith, length-set vs (f x) (g x))))).1),
    )

-- what is put changes no length
pub length_put : {X V : Type 0} (f : X → ℕ) (g : X → V) (xs : List X) (vs : List V) →
    length (fold (λ found x. slice_set found (f x) (g x)) vs xs) ≡ length vs
length_put f g [] vs = refl
length_put f g (x ∷ xs) vs = length_put f g xs (slice_set vs (f x) (g x)) ∙ length-set vs (f x) (g x)
