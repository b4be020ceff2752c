-- What tests of characters say of one another.
use Rattle.std.proofs.Common.{◌≡◌, ◌≢◌, ℕ, Bool, true, false, ◌||◌, ◌⊎◌, List, [], ◌∷◌, ◌++◌, refl, sym, ◌∙◌, subst, inl}
use Rattle.std.proofs.Common.{inr, eqb, cond, append_assoc}
use Rattle.std.proofs.lemmas.Bool.{eqb-true, false≢true, cases_Bool}
use Rattle.tl_base.specs.Lists.{is_among}
use Rattle.tl_token.specs.Characters.{begins}
use Rattle.tl_token.specs.inner.Reader.{Eats}
use Rattle.tl_token.specs.Grammar.{Each}

-- a choice has the property of the one or of the other
pub chosen : {A : Type 0} (P : A → Type 0) (b : Bool) (x y : A) → P (cond b x y) → ((b ≡ true) × P x) ⊎ ((b ≡ false) × P y)
chosen P true x y h = inl (refl, h)
chosen P false x y h = inr (refl, h)

pub or_left : (a b : Bool) → a ≡ true → (a || b) ≡ true
or_left true b h = refl
or_left false b h = absurd (false≢true h)

pub or_right : (a b : Bool) → b ≡ true → (a || b) ≡ true
or_right true b h = refl
or_right false b h = h

pub or_cases : (a b : Bool) → (a || b) ≡ true → (a ≡ true) ⊎ ((a ≡ false) × (b ≡ true))
or_cases true b h = inl refl
or_cases false b h = inr (refl, h)

pub or_false : (a b : Bool) → (a || b) ≡ false → (a ≡ false) × (b ≡ false)
or_false true b h = absurd (false≢true (sym h))
or_false false b h = (refl, h)

pub clash : (a : Bool) → a ≡ true → a ≡ false → ⊥
clash a h k = false≢true (sym k ∙ h)

-- one character, and one of two
pub is_it : (c d : ℕ) → is_among (d ∷ []) c ≡ true → c ≡ d
is_it c d h = eqb-true c d h

pub is_either : (c d e : ℕ) → is_among (d ∷ e ∷ []) c ≡ true → (c ≡ d) ⊎ (c ≡ e)
is_either c d e h = elim (or_cases (eqb c d) _ h) [ inl k ↦ inl (eqb-true c d k) | inr k ↦ inr (is_it c e (k.1)) ]

-- one more character that passes the test
pub Each-push : (test : ℕ → Bool) (cs : List ℕ) (c : ℕ) → Each test cs → test c ≡ true → Each test (cs ++ c ∷ [])
Each-push test [] c h k = (k, tt)
Each-push test (d ∷ cs) c h k = (h.0, Each-push test cs c (h.1) k)

pub push≢nil : {A : Type 0} (xs : List A) (x : A) → xs ++ x ∷ [] ≢ []
push≢nil [] x h = cc
push≢nil (y ∷ xs) x h = cc

pub push_regroup : (xs ys : List ℕ) (c : ℕ) → (xs ++ c ∷ []) ++ ys ≡ xs ++ (c ∷ ys)
push_regroup xs ys c = append_assoc xs (c ∷ []) ys

-- a character of a class is none that is not of it
pub excludes : (test : ℕ → Bool) (c d : ℕ) → test d ≡ false → test c ≡ true → is_among (d ∷ []) c ≡ false
excludes test c d not_d is_c = elim (cases_Bool (is_among (d ∷ []) c)) [
  | inl e ↦ let P : ℕ → Type 0 = λ x. test x ≡ true in absurd (clash (test d) (subst P (is_it c d e) is_c) not_d)
  | inr e ↦ e
]

-- whether a character was passed
pub eats_true : (c : ℕ) (b : Bool) (old new : List ℕ) → b ≡ true → Eats c b old new → old ≡ c ∷ new
eats_true c true old new e h = h
eats_true c false old new e h = absurd (false≢true e)

pub eats_false : (c : ℕ) (b : Bool) (old new : List ℕ) → b ≡ false → Eats c b old new →
    (new ≡ old) × (begins (λ d. eqb d c) old ≡ false)
eats_false c true old new e h = absurd (false≢true (sym e))
eats_false c false old new e h = h
