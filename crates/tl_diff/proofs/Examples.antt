-- The definitions on cases that are counted by hand.
use Rattle.std.proofs.Common.{◌≡◌, ℕ, zero, suc, ℤ, pos, negsuc, ◌≤ℤ◌, Some, None, List, [], ◌∷◌, refl, arith}
use Rattle.std.proofs.lemmas.Int.{ints}
use Rattle.tl_diff.specs.declared.paths.Arc.{Arc}
use Rattle.tl_diff.specs.Bounds.{Bounds, bounds_of, Satisfies, IsGreatest, HasNoGreatest}
use Rattle.tl_diff.specs.Paths.{IsPath, path_weight}

-- Two variables, and one constraint: `x_1 <= x_0 + 3`.
abbrev three : Bounds
three = bounds_of 2 (None ∷ Some (pos 3) ∷ None ∷ None ∷ [])

-- The assignment 0, y satisfies it where y is 3 or less.
abbrev pair : ℤ → ℕ → ℤ
pair y zero = pos 0
pair y (suc k) = y

satisfies_three : (y : ℤ) → y ≤ℤ pos 3 → Satisfies three (pair y)
satisfies_three y le zero zero first second c is = cc
satisfies_three y le zero (suc zero) first second c is = let e : pos 3 ≡ c = cc in omega (arith, ints)
satisfies_three y le zero (suc (suc b)) first second c is = absurd (omega arith)
satisfies_three y le (suc zero) zero first second c is = cc
satisfies_three y le (suc zero) (suc zero) first second c is = cc
satisfies_three y le (suc zero) (suc (suc b)) first second c is = absurd (omega arith)
satisfies_three y le (suc (suc a)) b first second c is = absurd (omega arith)

-- So 3 is the greatest `x_1 - x_0`.
greatest_three : IsGreatest three 0 1 (pos 3)
greatest_three = record {
  implied = λ x meets. meets 0 1 (omega arith) (omega arith) (pos 3) refl;
  reached = (pair (pos 3), (satisfies_three (pos 3) (omega (arith, ints)), refl));
}

-- There is no greatest `x_0 - x_1`.
no_greatest_back : HasNoGreatest three 1 0
no_greatest_back (pos n) = (pair (negsuc n), (satisfies_three (negsuc n) (omega (arith, ints)), omega (arith, ints)))
no_greatest_back (negsuc n) = (pair (negsuc 0), (satisfies_three (negsuc 0) (omega (arith, ints)), omega (arith, ints)))

-- Three arcs: from place 0 to places 2 and 1, and from place 1 to place 3.
abbrev fork : List Arc
fork = record { from = 0; to = 2; weight = 5 } ∷ record { from = 0; to = 1; weight = 2 } ∷ record {
  from = 1;
  to = 3;
  weight =
      4;
} ∷ []

-- The last two are a path to place 4, which weighs 6.
path_over_one : IsPath fork 0 (1 ∷ 2 ∷ []) 4
path_over_one = (omega arith, omega arith, (omega arith, omega arith, omega arith))

weighs_six : path_weight fork (1 ∷ 2 ∷ []) ≡ 6
weighs_six = refl

-- The first and the last are no path, since place 2 is after place 1.
no_way_back : IsPath fork 0 (0 ∷ 2 ∷ []) 4 → ⊥
no_way_back path = omega (arith, path.2.1)

-- Steps alone are a path to place 4.
steps_alone : IsPath fork 0 [] 4
steps_alone = omega arith
