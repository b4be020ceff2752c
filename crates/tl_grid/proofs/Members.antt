-- The elements of a list, and what a test keeps of them.
use Rattle.std.proofs.Common.{◌≡◌, ◌≤◌, suc, Bool, true, false, List, [], ◌∷◌, map, length, refl, sym, ap, ◌∙◌, subst, inl, inr}
use Rattle.std.proofs.Common.{◌⊎◌, arith}
use Rattle.std.specs.List.{filter, list_any, AllByRecursion}
use Rattle.std.proofs.lemmas.Bool.{both_ways, cases_Bool, or_cases, or_left, or_right}
use Rattle.tl_grid.proofs.Chains.{filter_yes, filter_no}

-- x is an element of the list
abbrev pub IsIn : {X : Type 0} → X → List X → Type 0
IsIn x [] = ⊥
IsIn x (y ∷ ys) = (x ≡ y) ⊎ IsIn x ys

-- what holds of all holds of each
pub all_at : {X : Type 0} (P : X → Type 0) (xs : List X) (x : X) → AllByRecursion P xs → IsIn x xs → P x
all_at P [] x all is = absurd is
all_at P (y ∷ ys) x all (inl same) = subst P (sym same) all.0
all_at P (y ∷ ys) x all (inr later) = all_at P ys x all.1 later

-- what holds of each holds of all
pub all_from : {X : Type 0} (P : X → Type 0) (xs : List X) → ((x : X) → IsIn x xs → P x) → AllByRecursion P xs
all_from P [] each = tt
all_from P (x ∷ xs) each = (each x (inl refl), all_from P xs (λ y is. each y (inr is)))

-- what holds of all images holds of all
pub all_from_map : {X Y : Type 0} (P : Y → Type 0) (f : X → Y) (xs : List X) → AllByRecursion P (map f xs) →
    AllByRecursion (λ x. P (f x)) xs
all_from_map P f [] all = tt
all_from_map P f (x ∷ xs) all = (all.0, all_from_map P f xs all.1)

-- and the converse
pub all_to_map : {X Y : Type 0} (P : Y → Type 0) (f : X → Y) (xs : List X) → AllByRecursion (λ x. P (f x)) xs →
    AllByRecursion P (map f xs)
all_to_map P f [] all = tt
all_to_map P f (x ∷ xs) all = (all.0, all_to_map P f xs all.1)

-- where some element passes, one can be named
pub any_in : {X : Type 0} (p : X → Bool) (xs : List X) → list_any p xs ≡ true → (x : X) × (IsIn x xs × (p x ≡ true))
any_in p [] e = absurd (both_ways true (sym e) refl)
any_in p (x ∷ xs) e =
    elim (or_cases (p x) (list_any p xs) e) [
      | inl here ↦ (x, (inl refl, here))
      | inr later ↦ (let (y, is) = any_in p xs later in (y, (inr is.0, is.1)))
    ]

-- where an element passes, some does
pub any_of : {X : Type 0} (p : X → Bool) (xs : List X) (x : X) → IsIn x xs → p x ≡ true → list_any p xs ≡ true
any_of p [] x is e = absurd is
any_of p (y ∷ ys) x (inl same) e = or_left (p y) (list_any p ys) (ap p (sym same) ∙ e)
any_of p (y ∷ ys) x (inr later) e = or_right (p y) (list_any p ys) (any_of p ys x later e)

-- an element that passes is kept
kept_some : {X : Type 0} (p : X → Bool) (xs : List X) (x : X) → IsIn x xs → p x ≡ true → 1 ≤ length (filter p xs)
kept_some p [] x is e = absurd is
kept_some p (y ∷ ys) x is e =
    elim (cases_Bool (p y)) [
      | inl t ↦ rw (filter_yes p y ys t) (omega arith)
      | inr f ↦
          rw (filter_no p y ys f) (elim is [
            | inl same ↦ absurd (both_ways true (sym (ap p (sym same) ∙ e) ∙ f) refl)
            | inr later ↦ kept_some p ys x later e
          ])
    ]

-- an element that passes is the first, where that passes and no other does
first_passes : {X : Type 0} (p : X → Bool) (y : X) (ys : List X) (x : X) → length (filter p ys) ≤ 0 → IsIn x (y ∷ ys) →
    p x ≡ true → x ≡ y
first_passes p y ys x none (inl same) e = same
first_passes p y ys x none (inr later) e = absurd (let some : 1 ≤ length (filter p ys) = kept_some p ys x later e in omega arith)

-- where at most one passes, all that pass are the same
pub one_passes : {X : Type 0} (p : X → Bool) (xs : List X) (x x' : X) → length (filter p xs) ≤ 1 → IsIn x xs → IsIn x' xs →
    p x ≡ true → p x' ≡ true → x ≡ x'
one_passes p [] x x' one is is' e e' = absurd is
one_passes p (y ∷ ys) x x' one is is' e e' =
    elim (cases_Bool (p y)) [
      | inl t ↦
          let kept : length (filter p (y ∷ ys)) ≡ suc (length (filter p ys)) = ap length (filter_yes p y ys t) in
          first_passes p y ys x (omega arith) is e ∙ sym (first_passes p y ys x' (omega arith) is' e')
      | inr f ↦
          let kept : length (filter p (y ∷ ys)) ≡ length (filter p ys) = ap length (filter_no p y ys f) in
          one_passes p ys x x' (omega arith) (later p y ys x f is e) (later p y ys x' f is' e') e e'
    ]
  where
    later : {X : Type 0} (p : X → Bool) (y : X) (ys : List X) (x : X) → p y ≡ false → IsIn x (y ∷ ys) → p x ≡ true → IsIn x ys
    later p y ys x f (inl same) e = absurd (both_ways true (sym (ap p (sym same) ∙ e) ∙ f) refl)
    later p y ys x f (inr is) e = is
