-- Two lists whose items belong together, place by place. std has the same for two lists of one type.
use Rattle.std.proofs.Common.{◌≡◌, inl, inr, ℕ, zero, suc, ◌<◌, List, [], ◌∷◌, ◌++◌, length, get_or, refl, subst, arith}
use Rattle.std.specs.List.{AllZip, Contains}
use Rattle.tl_base.proofs.Members.{Contains-none, Contains-cases}

-- one more pair at the end
pub AllZip-push : {A B : Type 0} (R : A → B → Type 0) (xs : List A) (ys : List B) (x : A) (y : B) → AllZip R xs ys → R x y →
    AllZip R (xs ++ x ∷ []) (ys ++ y ∷ [])
AllZip-push R [] [] x y all last = (last, tt)
AllZip-push R [] (b ∷ ys) x y all last = absurd all
AllZip-push R (a ∷ xs) [] x y all last = absurd all
AllZip-push R (a ∷ xs) (b ∷ ys) x y all last = (all.0, AllZip-push R xs ys x y all.1 last)

-- the pairs before the last one, and that one, where the lists before it are of one length (as `S` says)
pub AllZip-unpush : {A B : Type 0} (R S : A → B → Type 0) (xs : List A) (ys : List B) (x : A) (y : B) → AllZip S xs ys →
    AllZip R (xs ++ x ∷ []) (ys ++ y ∷ []) → AllZip R xs ys × R x y
AllZip-unpush R S [] [] x y long all = (tt, all.0)
AllZip-unpush R S [] (b ∷ ys) x y long all = absurd long
AllZip-unpush R S (a ∷ xs) [] x y long all = absurd long
AllZip-unpush R S (a ∷ xs) (b ∷ ys) x y long all =
    let rest = AllZip-unpush R S xs ys x y long.1 all.1 in ((all.0, rest.0), rest.1)

-- one of the pairs
pub AllZip-get_or : {A B : Type 0} (R : A → B → Type 0) (xs : List A) (ys : List B) (k : ℕ) (x : A) (y : B) → AllZip R xs ys →
    k < length xs →
    R (get_or xs k x) (get_or ys k y)
AllZip-get_or R [] ys k x y all within = absurd (omega arith)
AllZip-get_or R (a ∷ xs) [] k x y all within = absurd all
AllZip-get_or R (a ∷ xs) (b ∷ ys) zero x y all within = all.0
AllZip-get_or R (a ∷ xs) (b ∷ ys) (suc k) x y all within = AllZip-get_or R xs ys k x y all.1 (omega arith)

-- what holds at each place of two lists that are of one length
pub AllZip-from_places : {A B : Type 0} (R : A → B → Type 0) (xs : List A) (ys : List B) → length xs ≡ length ys →
    ((i : ℕ) (d : A) (e : B) → i < length xs → R (get_or xs i d) (get_or ys i e)) → AllZip R xs ys
AllZip-from_places R [] [] long each = tt
AllZip-from_places R [] (y ∷ ys) long each = absurd (omega (arith, long))
AllZip-from_places R (x ∷ xs) [] long each = absurd (omega (arith, long))
AllZip-from_places R (x ∷ xs) (y ∷ ys) long each = (
  each 0 x y (omega arith),
  AllZip-from_places R xs ys (omega (arith, long)) (λ i d e within. each (suc i) d e (omega (arith, within))),
)

-- what holds of two lists place by place, weakened
pub AllZip-weaker : {A B : Type 0} (P Q : A → B → Type 0) (xs : List A) (ys : List B) → ((x : A) (y : B) → P x y → Q x y) →
    AllZip P xs ys →
    AllZip Q xs ys
AllZip-weaker P Q [] [] weaker all = tt
AllZip-weaker P Q [] (y ∷ ys) weaker all = absurd all
AllZip-weaker P Q (x ∷ xs) [] weaker all = absurd all
AllZip-weaker P Q (x ∷ xs) (y ∷ ys) weaker all = (weaker x y all.0, AllZip-weaker P Q xs ys weaker all.1)

-- two pairs of lists whose items belong together, joined
pub AllZip-append : {A B : Type 0} (R : A → B → Type 0) (xs zs : List A) (ys ws : List B) → AllZip R xs ys → AllZip R zs ws →
    AllZip R (xs ++ zs) (ys ++ ws)
AllZip-append R [] zs [] ws first second = second
AllZip-append R [] zs (y ∷ ys) ws first second = absurd first
AllZip-append R (x ∷ xs) zs [] ws first second = absurd first
AllZip-append R (x ∷ xs) zs (y ∷ ys) ws first second = (first.0, AllZip-append R xs zs ys ws first.1 second)

-- such lists are of one length
pub AllZip-length : {A B : Type 0} (R : A → B → Type 0) (xs : List A) (ys : List B) → AllZip R xs ys → length xs ≡ length ys
AllZip-length R [] [] all = refl
AllZip-length R [] (y ∷ ys) all = absurd all
AllZip-length R (x ∷ xs) [] all = absurd all
AllZip-length R (x ∷ xs) (y ∷ ys) all = let rest = AllZip-length R xs ys all.1 in omega arith

-- one item, and what belongs to it
pub AllZip-Contains : {A B : Type 0} (P : A → B → Type 0) (xs : List A) (ys : List B) (x : A) → AllZip P xs ys → Contains xs x →
    (y : B) × P x y
AllZip-Contains P [] ys x all has = absurd (Contains-none x has)
AllZip-Contains P (a ∷ xs) [] x all has = absurd all
AllZip-Contains P (a ∷ xs) (b ∷ ys) x all has = elim (Contains-cases a xs x has) [
  | inl same ↦ (b, subst (λ one. P one b) same all.0)
  | inr later ↦ AllZip-Contains P xs ys x all.1 later
]
