-- Sums of lists of numbers, and of their prefixes.
use Rattle.std.proofs.Common.{◌≡◌, ℕ, zero, suc, ◌+◌, ◌≤◌, List, [], ◌∷◌, take, arith}
use Rattle.std.specs.Prelude.{sum}
use Rattle.std.specs.List.{AllByRecursion, AllZip}
use Rattle.std.proofs.lemmas.List.Sums.{sum_by-cons}

-- the sum of one number
pub sum-one : (n : ℕ) → sum (n ∷ []) ≡ n
sum-one n = omega (arith, sum_by-cons (λ x. x) n [])

-- the sum of a number and of others
pub sum-cons : (n : ℕ) (ns : List ℕ) → sum (n ∷ ns) ≡ n + sum ns
sum-cons n ns = sum_by-cons (λ x. x) n ns

-- none of some numbers is greater than their sum may be
pub sum-within : (most : ℕ) (ns : List ℕ) → sum ns ≤ most → AllByRecursion (λ n. n ≤ most) ns
sum-within most [] within = tt
sum-within most (n ∷ ns) within =
    (omega (arith, sum-cons n ns, within), sum-within most ns (omega (arith, sum-cons n ns, within)))

-- where each number is at most the other at its place, so are the sums of all of them
pub sum-le : (low high : List ℕ) → AllZip (λ m n. m ≤ n) low high → sum low ≤ sum high
sum-le [] [] le = omega arith
sum-le [] (n ∷ high) le = absurd le
sum-le (m ∷ low) [] le = absurd le
sum-le (m ∷ low) (n ∷ high) le = omega (arith, le.0, sum-le low high le.1, sum-cons m low, sum-cons n high)

-- and the sums of as many of them
pub sum-take-le : (low high : List ℕ) (count : ℕ) → AllZip (λ m n. m ≤ n) low high → sum (take count low) ≤ sum (take count high)
sum-take-le low high zero le = omega arith
sum-take-le [] [] (suc count) le = omega arith
sum-take-le [] (n ∷ high) (suc count) le = absurd le
sum-take-le (m ∷ low) [] (suc count) le = absurd le
sum-take-le (m ∷ low) (n ∷ high) (suc count) le =
    omega (arith, le.0, sum-take-le low high count le.1, sum-cons m (take count low), sum-cons n (take count high))
