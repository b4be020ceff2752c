-- Numbers: the shares of a round, and how many zones can be left.
use Rattle.std.proofs.Common.{◌≡◌, ◌≢◌, ℕ, ◌+◌, ◌-◌, ◌*◌, ◌/◌, ◌<◌, ◌≤◌, suc, false, List, [], ◌∷◌, length}
use Rattle.std.proofs.Common.{eqb, ◌⊎◌, inl, inr, arith}
use Rattle.std.specs.List.{All, AllByRecursion, AllPairs, IsDistinct}
use Rattle.std.proofs.Math.Nat.{mul-div-le, mul-le-mul_left, mul-le-mul_right, mul-suc}
use Rattle.std.proofs.lemmas.Bool.{cases_lt, eqb-true, ne_eqb}
use Rattle.std.proofs.lemmas.List.Elements.{All-contains}
use Rattle.std.proofs.lemmas.Map.Steps.{length-le_from_distinct_below}
use Rattle.std.proofs.lemmas.Map.Views.{Contains-from_any}
use Rattle.tl_base.proofs.Members.{AllPairs-head, AllPairs-tail}
use Rattle.tl_rounds.specs.MadeOfRounds.{quota_of}

-- all blocks of a round together have no more cuts than are left
pub shares-fit : (cuts blocks : ℕ) → blocks ≤ cuts → blocks * quota_of cuts blocks ≤ cuts
shares-fit cuts blocks few =
    let share = cuts / 2 / blocks in
    let part : blocks * share ≤ cuts / 2 = mul-div-le (cuts / 2) blocks in
    let half : cuts / 2 ≤ cuts = omega arith in
    elim (cases_lt share 1) [
      | inl none ↦
          let one : quota_of cuts blocks ≡ 1 = omega (arith, none) in
          rw one (omega (arith, few))
      | inr some ↦
          let same : quota_of cuts blocks ≡ share = omega (arith, some) in
          rw same (omega (arith, part, half))
    ]

pub share-some : (cuts blocks : ℕ) → 1 ≤ quota_of cuts blocks
share-some cuts blocks = omega arith

-- numbers below `n`, no two of which are the same, are at most `n`
distinct : (xs : List ℕ) → AllPairs (λ one other. one ≢ other) xs → IsDistinct eqb xs
unfolding IsDistinct
distinct [] pairs = tt
distinct (x ∷ xs) pairs = (
  apart xs (AllPairs-head (λ one other. one ≢ other) x xs pairs),
  distinct xs (AllPairs-tail (λ one other. one ≢ other) x xs pairs),
) where
  apart : (ys : List ℕ) → All (λ y. x ≢ y) ys → AllByRecursion (λ y. eqb x y ≡ false) ys
  apart [] all = tt
  apart (y ∷ ys) all = (ne_eqb x y (all 0 y (omega arith)), apart ys (λ i d within. all (suc i) d (omega (arith, within))))

pub distinct-few : (xs : List ℕ) (n : ℕ) → AllPairs (λ one other. one ≢ other) xs → All (λ x. x < n) xs → length xs ≤ n
distinct-few xs n pairs below =
    length-le_from_distinct_below xs n (distinct xs pairs)
    (λ q among. All-contains (λ x. x < n) xs q below (Contains-from_any eqb-true q xs among))

-- ---- the measure of the rounds

-- with a cut more, or with as many cuts and fewer zones left, the measure falls
pub measure-falls : (budget old new before after : ℕ) → new ≤ budget → after ≤ 2 * budget + 1 →
    (old < new) ⊎ ((new ≡ old) × (after < before)) →
    (2 * budget + 2) * (budget - new) + after < (2 * budget + 2) * (budget - old) + before
measure-falls budget old new before after within few (inr (same, less)) = rw same (omega (arith, less))
measure-falls budget old new before after within few (inl more) =
    let step : suc (budget - new) ≤ budget - old = omega (arith, more, within) in
    let grown : (2 * budget + 2) * suc (budget - new) ≤ (2 * budget + 2) * (budget - old) =
    mul-le-mul_left (2 * budget + 2) step in
    let one : (2 * budget + 2) * suc (budget - new) ≡ (2 * budget + 2) * (budget - new) + (2 * budget + 2) =
    mul-suc (2 * budget + 2) (budget - new) in
    omega (arith, grown, one, few)

-- the quota is within the budget
pub quota-most : (cuts blocks most : ℕ) → 1 ≤ cuts → 1 ≤ blocks → cuts ≤ most → quota_of cuts blocks ≤ most
quota-most cuts blocks most some one few =
    let share = cuts / 2 / blocks in
    let part : blocks * share ≤ cuts / 2 = mul-div-le (cuts / 2) blocks in
    let whole : 1 * share ≤ blocks * share = mul-le-mul_right share one in
    let half : cuts / 2 ≤ cuts = omega arith in
    omega (arith, part, whole, half, some, few)
