-- Bounds that are put at their place keep their order.
use Rattle.std.proofs.Common.{◌≡◌, ◌≢◌, ◌⊎◌, ℕ, zero, suc, ◌<◌, ◌≤◌, List, [], ◌∷◌, ◌++◌, inl, inr, length, get_or, subst, arith}
use Rattle.std.specs.Prelude.{◌↔◌}
use Rattle.std.specs.List.{AllPairs, Contains, insert}
use Rattle.std.proofs.lemmas.List.Elements.{All-nil, All-contains, Contains-append_left, Contains-append_cases, Contains-push}
use Rattle.tl_base.proofs.Members.{Contains-first, Contains-later, Contains-cases, Contains-none, AllPairs-head, AllPairs-tail}
use Rattle.tl_base.proofs.Members.{AllPairs-cons, AllPairs-none, All-from_Contains}
use Rattle.tl_cert.specs.declared.log.Bound.{Bound}
use Rattle.tl_store.specs.Stores.{BoundComesFirst, HaveSame}
use Rattle.tl_store.proofs.BoundOrder.{first-next, first-from_not}

-- what is put is there, with all that was
pub insert-cases : (xs : List Bound) (i : ℕ) (y z : Bound) → i ≤ length xs → Contains (insert xs i y) z → Contains xs z ⊎ (y ≡ z)
insert-cases [] zero y z there has = elim (Contains-cases y [] z has) [
  | inl same ↦ inr same
  | inr none ↦ absurd (Contains-none z none)
]
insert-cases [] (suc i) y z there has = absurd (omega (arith, there))
insert-cases (x ∷ xs) zero y z there has = elim (Contains-cases y (x ∷ xs) z has) [
  | inl same ↦ inr same
  | inr later ↦ inl later
]
insert-cases (x ∷ xs) (suc i) y z there has = elim (Contains-cases x (insert xs i y) z has) [
  | inl same ↦ inl (subst (Contains (x ∷ xs)) same (Contains-first x xs))
  | inr later ↦ elim (insert-cases xs i y z (omega (arith, there)) later) [
    | inl old ↦ inl (Contains-later x xs z old)
    | inr new ↦ inr new
  ]
]

pub insert-old : (xs : List Bound) (i : ℕ) (y z : Bound) → i ≤ length xs → Contains xs z → Contains (insert xs i y) z
insert-old [] i y z there has = absurd (Contains-none z has)
insert-old (x ∷ xs) zero y z there has = Contains-later y (x ∷ xs) z has
insert-old (x ∷ xs) (suc i) y z there has = elim (Contains-cases x xs z has) [
  | inl same ↦ subst (Contains (x ∷ insert xs i y)) same (Contains-first x (insert xs i y))
  | inr later ↦ Contains-later x (insert xs i y) z (insert-old xs i y z (omega (arith, there)) later)
]

pub insert-new : (xs : List Bound) (i : ℕ) (y : Bound) → i ≤ length xs → Contains (insert xs i y) y
insert-new [] zero y there = Contains-first y []
insert-new [] (suc i) y there = absurd (omega (arith, there))
insert-new (x ∷ xs) zero y there = Contains-first y (x ∷ xs)
insert-new (x ∷ xs) (suc i) y there = Contains-later x (insert xs i y) y (insert-new xs i y (omega (arith, there)))

pub insert-sorted : (xs : List Bound) (i : ℕ) (y : Bound) → AllPairs BoundComesFirst xs → i ≤ length xs →
    ((k : ℕ) (d : Bound) → k < i → BoundComesFirst (get_or xs k d) y) →
    ((d : Bound) → i < length xs → BoundComesFirst y (get_or xs i d)) → AllPairs BoundComesFirst (insert xs i y)
insert-sorted [] zero y sorted there before after = AllPairs-cons BoundComesFirst y [] (All-nil (BoundComesFirst y))
    (AllPairs-none BoundComesFirst)
insert-sorted [] (suc i) y sorted there before after = absurd (omega (arith, there))
insert-sorted (x ∷ xs) zero y sorted there before after =
    AllPairs-cons BoundComesFirst y (x ∷ xs) (All-from_Contains (BoundComesFirst y) (x ∷ xs) rest) sorted where
      first : BoundComesFirst y x
      first = after y (omega arith)

      rest : (z : Bound) → Contains (x ∷ xs) z → BoundComesFirst y z
      rest z has = elim (Contains-cases x xs z has) [
        | inl same ↦ subst (BoundComesFirst y) same first
        | inr later ↦ first-next y x z first (All-contains (BoundComesFirst x) xs z (AllPairs-head BoundComesFirst x xs sorted)
            later)
      ]
insert-sorted (x ∷ xs) (suc i) y sorted there before after =
    AllPairs-cons BoundComesFirst x (insert xs i y) (All-from_Contains (BoundComesFirst x) (insert xs i y) rest)
    (insert-sorted xs i y (AllPairs-tail BoundComesFirst x xs sorted) (omega (arith, there))
    (λ k d less. before (suc k) d (omega (arith, less))) (λ d less. after d (omega (arith, less)))) where
      rest : (z : Bound) → Contains (insert xs i y) z → BoundComesFirst x z
      rest z has = elim (insert-cases xs i y z (omega (arith, there)) has) [
        | inl old ↦ All-contains (BoundComesFirst x) xs z (AllPairs-head BoundComesFirst x xs sorted) old
        | inr new ↦ subst (BoundComesFirst x) new (before zero y (omega arith))
      ]

-- a bound that is not at its place is put there
pub put-sorted : (xs : List Bound) (i : ℕ) (y : Bound) → AllPairs BoundComesFirst xs → i ≤ length xs →
    ((k : ℕ) (d : Bound) → k < i → BoundComesFirst (get_or xs k d) y) →
    ((d : Bound) → i < length xs → BoundComesFirst (get_or xs i d) y → ⊥) →
    ((d : Bound) → i < length xs → get_or xs i d ≢ y) → AllPairs BoundComesFirst (insert xs i y)
put-sorted xs i y sorted there before not apart = insert-sorted xs i y sorted there before
    (λ d less. first-from_not (get_or xs i d) y (not d less) (apart d less))

-- the same bounds with one more
pub same-push : (xs old new : List Bound) (y : Bound) → HaveSame xs old →
    ((other : Bound) → Contains new other ↔ (Contains old other ⊎ (y ≡ other))) → HaveSame (xs ++ y ∷ []) new
same-push xs old new y same has other = (
  λ inside. elim (Contains-append_cases xs (y ∷ []) other inside) [
    | inl before ↦ (has other).1 (inl ((same other).0 before))
    | inr last ↦ elim (Contains-cases y [] other last) [
      | inl here ↦ (has other).1 (inr here)
      | inr none ↦ absurd (Contains-none other none)
    ]
  ],
  λ inside. elim ((has other).0 inside) [
    | inl before ↦ Contains-append_left xs (y ∷ []) other ((same other).1 before)
    | inr here ↦ subst (Contains (xs ++ y ∷ [])) here (Contains-push xs y)
  ],
)
