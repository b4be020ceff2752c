-- The widest of the units that are not too wide: of two lists, and against each unit.
use Rattle.std.proofs.Common.{◌≡◌, ℕ, ◌<◌, ◌≤◌, Bool, true, false, cond, List, [], ◌∷◌, ◌++◌, max, ◌⊎◌, inl, inr, refl, ap, arith, nat_le}
use Rattle.std.specs.List.{AllByRecursion}
use Rattle.std.proofs.lemmas.Bool.Decides.{nat_tests}
use Rattle.tl_text.specs.declared.paragraph.Atom.{Atom}
use Rattle.tl_text.specs.Paragraph.{unit_width}
use Rattle.tl_text.specs.Widest.{width_up_to, widest_within}

-- of two lists, one after the other
pub widest_within-append : (most : ℕ) (units others : List Atom) →
    widest_within most (units ++ others) ≡ max (widest_within most units) (widest_within most others)
widest_within-append most [] others = omega arith
widest_within-append most (unit ∷ units) others = omega (arith, widest_within-append most units others)

-- a width that is not too wide, and one that is
pub up_to-narrow : (most width : ℕ) → width ≤ most → width_up_to most width ≡ width
up_to-narrow most width narrow = ap (λ (within : Bool). cond within width 0) within
  where
    within : nat_le width most ≡ true
    within = grind (arith, nat_tests, narrow)

pub up_to-wide : (most width : ℕ) → most < width → width_up_to most width ≡ 0
up_to-wide most width wide = ap (λ (within : Bool). cond within width 0) within
  where
    within : nat_le width most ≡ false
    within = grind (arith, nat_tests, wide)

-- no width is greater than the number asked for
up_to-le : (most width : ℕ) → width_up_to most width ≤ most
up_to-le most width = by (nat_le width most) refl
  where
    by : (within : Bool) → nat_le width most ≡ within → cond within width 0 ≤ most
    by true is = grind (arith, nat_tests, is)
    by false is = omega arith

pub widest_within-le : (most : ℕ) (units : List Atom) → widest_within most units ≤ most
widest_within-le most [] = omega arith
widest_within-le most (unit ∷ units) = omega (arith, up_to-le most (unit_width unit), widest_within-le most units)

-- each unit is at most as wide as the widest, or wider than the number asked for
pub widest_within-apart : (most : ℕ) (units : List Atom) →
    AllByRecursion (λ unit. (unit_width unit ≤ widest_within most units) ⊎ (most < unit_width unit)) units
widest_within-apart most units = each units (widest_within most units) (omega arith)
  where
    one : (width wide : ℕ) → width_up_to most width ≤ wide → (width ≤ wide) ⊎ (most < width)
    one width wide within = by (nat_le width most) refl within
      where
        by : (narrow : Bool) → nat_le width most ≡ narrow → cond narrow width 0 ≤ wide → (width ≤ wide) ⊎ (most < width)
        by true is within = inl within
        by false is within = inr (grind (arith, nat_tests, is))

    each : (units : List Atom) (wide : ℕ) → widest_within most units ≤ wide →
        AllByRecursion (λ unit. (unit_width unit ≤ wide) ⊎ (most < unit_width unit)) units
    each [] wide within = tt
    each (unit ∷ units) wide within =
        (one (unit_width unit) wide (omega (arith, within)), each units wide (omega (arith, within)))
